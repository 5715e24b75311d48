use Rattle.std.proofs.Common.{◌≡◌, ◌≤◌, ◌+◌, ◌∙◌, [], ◌∷◌, ap, subst, sym}
use Rattle.reg_terms.specs.declared.kinds.Member.TheVariants.{Person}
use Rattle.reg_effect.specs.declared.live.Live.{Live}
use Rattle.reg_effect.specs.declared.live.Change.TheVariants.{RowOff}
use Rattle.reg_effect.specs.Bound.{most_steps_of}
use Rattle.reg_effect.specs.Turned.{Remembers}
use Rattle.reg_rules.specs.Live.{Now, live, live_now, IsOn}
use Rattle.reg_rules.proofs.Acting.{live_less, off_steps, on_stands, on_suits}
use Rattle.reg_rules.proofs.standing.StandingCarrier.without_row.Goals as goal

pub change_one-requires : goal.change_one-requires
change_one-requires g c =
    let now : Now = record { clock = c.self.inside.at; facts = c.self.inside.facts } in
    let on : IsOn now c.args.group c.args.person = subst (λ (n : Now). IsOn n c.args.group c.args.person) (sym c.self.view_is) c.requires in
    on_suits now c.args.group c.args.person (g.K.Kept.held c.self.inside.kept) c.self.invariant c.live.ensures.no_circle on

pub take_row-requires : goal.take_row-requires
take_row-requires g c =
    let now : Now = record { clock = c.self.inside.at; facts = c.self.inside.facts } in
    let on : IsOn now c.args.group c.args.person = subst (λ (n : Now). IsOn n c.args.group c.args.person) (sym c.self.view_is) c.requires in
    on_stands now c.args.group c.args.person on

pub invariant_of-result : goal.invariant_of-result
invariant_of-result g c =
    let now : Now = record { clock = c.self.inside.at; facts = c.self.inside.facts } in
    live_less now c.args.group c.args.person c.in_ok-facts.facts (g.K.Kept.held c.self.inside.kept) (g.K.Kept.held c.in_ok-kept.kept) c.self.invariant c.in_ok-kept.ensures.held c.in_ok-facts.ensures

pub returns-clause-told : goal.returns-clause-told
returns-clause-told g c M h =
    let now : Now = record { clock = c.self.inside.at; facts = c.self.inside.facts } in
    let before : live_now c.args.self ≡ g.K.Kept.held c.self.inside.kept = ap (λ (n : Now). live_now n) (sym c.self.view_is) ∙ sym c.self.invariant in
    let after : g.K.Kept.held c.in_ok-kept.kept ≡ live c.self.inside.at c.in_ok-facts.facts =
    live_less now c.args.group c.args.person c.in_ok-facts.facts (g.K.Kept.held c.self.inside.kept) (g.K.Kept.held c.in_ok-kept.kept) c.self.invariant c.in_ok-kept.ensures.held c.in_ok-facts.ensures in
    subst (λ (L : Live). Remembers M L c.change_one.new.turned) after (c.in_ok-kept.ensures.told M (subst (λ (L : Live). Remembers M L c.args.turned.now) before h))

pub returns-clause-cost : goal.returns-clause-cost
returns-clause-cost g c =
    let before : live_now c.args.self ≡ g.K.Kept.held c.self.inside.kept = ap (λ (n : Now). live_now n) (sym c.self.view_is) ∙ sym c.self.invariant in
    subst (λ (L : Live). c.change_one.new.steps ≤ c.args.steps.now + most_steps_of (RowOff c.args.group (Person c.args.person) ∷ []) L) (sym before) (off_steps c.args.group c.args.person c.args.steps.now c.change_one.new.steps (g.K.Kept.held c.self.inside.kept) c.in_ok-kept.ensures.cost)
