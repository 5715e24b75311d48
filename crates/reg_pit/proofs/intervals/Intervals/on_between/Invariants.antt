use Rattle.reg_pit.proofs.Walking.{Walked, left}
use Rattle.reg_pit.proofs.intervals.Intervals.on_between.Given as goal

abbrev pub invariant-loop-next : goal.invariant-loop-next
invariant-loop-next g l = Walked g.K.Ord.cmp l.fn.from l.to l.self l.t l.next l.keys.items

abbrev pub decreases-loop-next : goal.decreases-loop-next
decreases-loop-next g l = left g.K.Ord.cmp l.self l.next
