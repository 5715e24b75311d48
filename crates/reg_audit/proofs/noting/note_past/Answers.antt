use Rattle.std.proofs.Common.{◌&&◌, ◌∙◌, Bool, ap, refl, nat_le, if◌then◌else◌}
use Rattle.reg_effect.specs.Turned.{after_turns}
use Rattle.reg_pit.specs.Grants.{has_grant}
use Rattle.reg_priv.specs.Grants.{grants}
use Rattle.reg_audit.specs.Changed.{is_noted}
use Rattle.reg_audit.proofs.noting.note_past.Goals as goal

pub returns-clause-members : goal.returns-clause-members
returns-clause-members c g s t =
    c.in_ok-with_wheel.ensures.members g s t
    ∙ (c.in_ok-with_grants.ensures.members g s t
    ∙ (c.in_ok-with_turns.ensures.noted g s t
    ∙ ap (λ (b : Bool). if nat_le c.args.at t then after_turns c.args.turned.now g s b else b) (c.in_ok-with_assigns.ensures.members g s t)))

pub returns-clause-grants : goal.returns-clause-grants
returns-clause-grants c o p h t =
    c.in_ok-with_wheel.ensures.grants o p h t
    ∙ (c.in_ok-with_grants.ensures.noted o p h t
    ∙ ap (λ (b : Bool). if is_noted c.args.touched.now c.args.others c.args.changed.now o (p, h) && nat_le c.args.at t then has_grant (grants o c.args.facts.now) p h else b) (c.in_ok-with_turns.ensures.grants o p h t ∙ c.in_ok-with_assigns.ensures.grants o p h t))

pub returns-clause-wheel : goal.returns-clause-wheel
returns-clause-wheel c t = c.in_ok-with_wheel.ensures.noted t ∙ rw (c.wheel.ensures, c.in_ok-with_grants.ensures.wheel t, c.in_ok-with_turns.ensures.wheel t, c.in_ok-with_assigns.ensures.wheel t) refl

pub returns-clause-assigns : goal.returns-clause-assigns
returns-clause-assigns c t =
    c.in_ok-with_wheel.ensures.assigns.rows t
    ∙ (c.in_ok-with_grants.ensures.assigns.rows t
    ∙ (c.in_ok-with_turns.ensures.assigns.rows t ∙ c.in_ok-with_assigns.ensures.noted t))

pub returns-clause-greatest : goal.returns-clause-greatest
returns-clause-greatest c =
    c.in_ok-with_wheel.ensures.assigns.greatest
    ∙ (c.in_ok-with_grants.ensures.assigns.greatest
    ∙ (c.in_ok-with_turns.ensures.assigns.greatest ∙ c.in_ok-with_assigns.ensures.greatest))
