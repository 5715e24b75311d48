use Rattle.std.proofs.Common.{◌≤◌, ◌+◌, length}
use Rattle.reg_terms.specs.declared.kinds.Member.TheVariants.{Group}
use Rattle.reg_graph.specs.Sets.{holds}
use Rattle.reg_effect.specs.Order.{has_live_row, nested}
use Rattle.reg_effect.proofs.Leaps.{left, NoneBelow}
use Rattle.reg_effect.proofs.walk.any_nested.Given as goal

abbrev pub invariant-loop-named : goal.invariant-loop-named
invariant-loop-named g l = record {
  none : NoneBelow (λ h. has_live_row l.g (Group h) l.rows) (λ h. holds h l.s l.sets) l.from;
  cost : l.steps + left l.from (nested l.g l.rows) ≤ l.fn.steps + length (nested l.g l.rows);
}

abbrev pub decreases-loop-named : goal.decreases-loop-named
decreases-loop-named g l = left l.from (nested l.g l.rows)
