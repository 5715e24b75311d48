use Rattle.std.proofs.Common.{◌≡◌, ◌∙◌, [], drop}
use Rattle.std.proofs.lemmas.List.{drop_all}
use Rattle.reg_audit.specs.Changed.{may_change}
use Rattle.reg_audit.proofs.Changing.{keeps_more}
use Rattle.reg_audit.proofs.Granting.{object_noted}
use Rattle.reg_audit.proofs.grants.note_touched.Goals as goal

pub loop-object-preserved : goal.loop-object-preserved
loop-object-preserved c = record {
  noted = λ o p h t. object_noted c.args.facts.now c.args.touched.now c.loop-object.object-index c.object-item.result o p h (may_change c.args.changed.now (p, h)) c.args.at t _ _ c.loop-object-test.true c.object-item.is (c.in_ok-past.ensures.noted o p h t) ∙ c.loop-object.invariant.noted o p h t;
  members = λ g s t. c.in_ok-past.ensures.members g s t ∙ c.loop-object.invariant.members g s t;
  assigns = keeps_more c.args.past c.loop-object.past c.in_ok-past.past c.loop-object.invariant.assigns c.in_ok-past.ensures.assigns;
  wheel = λ t. c.in_ok-past.ensures.wheel t ∙ c.loop-object.invariant.wheel t;
  last = c.in_ok-past.ensures.last;
}

pub returns-clause-noted : goal.returns-clause-noted
returns-clause-noted c o p h t =
    let none : drop c.loop-object.object-index c.args.touched.now ≡ [] = drop_all c.loop-object.object-index c.args.touched.now c.loop-object-test.false in
    rw none at (c.loop-object.invariant.noted o p h t)
