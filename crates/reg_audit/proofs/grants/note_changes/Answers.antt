use Rattle.std.proofs.Common.{◌≡◌, ◌∙◌, [], drop, nat_le}
use Rattle.std.proofs.lemmas.List.{drop_all}
use Rattle.reg_pit.specs.Grants.{has_grant}
use Rattle.reg_priv.specs.Grants.{grants}
use Rattle.reg_audit.specs.Changed.{is_changed}
use Rattle.reg_audit.proofs.Changing.{keeps_more}
use Rattle.reg_audit.proofs.Granting.{change_noted}
use Rattle.reg_audit.proofs.grants.note_changes.Goals as goal

pub loop-change-preserved : goal.loop-change-preserved
loop-change-preserved c = record {
  noted = λ o p h t. change_noted (is_changed c.args.touched.now o (p, h)) c.args.changes.now c.loop-change.change-index c.change-item.result (nat_le c.args.at t) (has_grant (grants o c.args.facts.now) p h) _ _ c.loop-change-test.true c.change-item.is (c.in_ok-past.ensures.noted o p h t) ∙ c.loop-change.invariant.noted o p h t;
  members = λ g s t. c.in_ok-past.ensures.members g s t ∙ c.loop-change.invariant.members g s t;
  assigns = keeps_more c.args.past c.loop-change.past c.in_ok-past.past c.loop-change.invariant.assigns c.in_ok-past.ensures.assigns;
  wheel = λ t. c.in_ok-past.ensures.wheel t ∙ c.loop-change.invariant.wheel t;
  last = c.in_ok-past.ensures.last;
}

pub returns-clause-noted : goal.returns-clause-noted
returns-clause-noted c o p h t =
    let none : drop c.loop-change.change-index c.args.changes.now ≡ [] = drop_all c.loop-change.change-index c.args.changes.now c.loop-change-test.false in
    rw none at (c.loop-change.invariant.noted o p h t)
