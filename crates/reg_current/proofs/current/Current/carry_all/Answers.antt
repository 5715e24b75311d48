use Rattle.std.proofs.Common.{◌≡◌, ◌∙◌, ap, sym, length, rules, arith}
use Rattle.reg_current.proofs.Carrying.{left_first, left_holds, left_next, left_none}
use Rattle.reg_current.proofs.current.Current.carry_all.Goals as goal

pub loop-event-init : goal.loop-event-init
loop-event-init g c = record {
  left = left_first c.into_iter-event-iterator.result.rest.items c.args.events.items c.args.self c.args.steps.now c.into_iter-event-iterator.ensures.into_iter_gives.0 c.requires;
  count =
      let same = ap length c.into_iter-event-iterator.ensures.into_iter_gives.0 in
      let len : c.args.events.len ≡ length c.args.events.items = search rules in
      omega (arith, same, len, c.into_iter-event-iterator.ensures.into_iter_gives.1);
  told = λ M h. h;
  touches = λ f h. h;
}

pub carry_told-requires : goal.carry_told-requires
carry_told-requires g c = left_holds c.loop-event.event-iterator.rest.items c.next.new.self.rest.items c.in-Some.event c.loop-event.current _ _ _ c.in-Some.ensures.steps.0 c.loop-event.invariant.left

pub loop-event-preserved : goal.loop-event-preserved
loop-event-preserved g c = record {
  left = left_next c.loop-event.event-iterator.rest.items c.next.new.self.rest.items c.in-Some.event c.loop-event.current c.in_ok-current.current _ _ _ _ c.in-Some.ensures.steps.0 c.in_ok-current.ensures.happened c.in_ok-current.ensures.cost c.loop-event.invariant.left;
  count =
      let split = ap length c.in-Some.ensures.steps.0 in
      omega (arith, split, c.in-Some.ensures.steps.1, c.loop-event.invariant.count);
  told = λ M h. c.in_ok-current.ensures.told M (c.loop-event.invariant.told M h);
  touches = λ f h. c.in_ok-current.ensures.touches f (c.loop-event.invariant.touches f h);
}

pub returns-clause-happened : goal.returns-clause-happened
returns-clause-happened g c = (left_none c.loop-event.event-iterator.rest.items c.loop-event.current _ _ _ (sym c.loop-event.invariant.count ∙ c.in-None.ensures.steps.0) c.loop-event.invariant.left).0

pub returns-clause-cost : goal.returns-clause-cost
returns-clause-cost g c = (left_none c.loop-event.event-iterator.rest.items c.loop-event.current _ _ _ (sym c.loop-event.invariant.count ∙ c.in-None.ensures.steps.0) c.loop-event.invariant.left).1
