use Rattle.std.proofs.Common.{◌≡◌, ap, length, rules, arith}
use Rattle.reg_audit.proofs.Changing.{left_first, left_new, left_next, left_noted}
use Rattle.reg_audit.proofs.noting.note_assigns.Goals as goal

pub loop-change-init : goal.loop-change-init
loop-change-init c = (
  left_first c.args.at c.into_iter-change-iterator.result.rest.items c.args.changes.items c.args.past c.into_iter-change-iterator.ensures.into_iter_gives.0 c.requires,
  (let same = ap length c.into_iter-change-iterator.ensures.into_iter_gives.0 in
      let len : c.args.changes.len ≡ length c.args.changes.items = search rules in
      omega (arith, same, len, c.into_iter-change-iterator.ensures.into_iter_gives.1)),
)

pub note_assign-requires-clause-noted : goal.note_assign-requires-clause-noted
note_assign-requires-clause-noted c = left_noted c.args.at c.loop-change.change-iterator.rest.items c.next.new.self.rest.items _ c.in-Some.change c.loop-change.past _ c.in-Some.ensures.steps.0 c.loop-change.invariant.0

pub note_assign-requires-clause-new : goal.note_assign-requires-clause-new
note_assign-requires-clause-new c = left_new c.args.at c.loop-change.change-iterator.rest.items c.next.new.self.rest.items _ c.in-Some.change c.loop-change.past _ c.in-Some.ensures.steps.0 c.loop-change.invariant.0

pub loop-change-preserved : goal.loop-change-preserved
loop-change-preserved c = (
  left_next c.args.at c.loop-change.change-iterator.rest.items c.next.new.self.rest.items _ c.in-Some.change c.loop-change.past _ c.in-Some.ensures.steps.0 c.loop-change.invariant.0 c.in_ok-past.past
      c.in_ok-past.ensures.noted c.in_ok-past.ensures.greatest c.in_ok-past.ensures.members c.in_ok-past.ensures.grants c.in_ok-past.ensures.wheel c.in_ok-past.ensures.last,
  (let split = ap length c.in-Some.ensures.steps.0 in
      omega (arith, split, c.in-Some.ensures.steps.1, c.loop-change.invariant.1)),
)
