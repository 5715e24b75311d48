use Rattle.std.proofs.Common.{◌≡◌, ℕ, max, vec_len}
use Rattle.reg_graph.specs.Levels.{level_of, IsLevelled, planned, target, IsRising}
use Rattle.reg_graph.proofs.raise.raise.Given as goal

abbrev pub invariant-loop-group : goal.invariant-loop-group
invariant-loop-group l = record {
  levelled : IsLevelled l.edges l.levels;
  total : (q : ℕ) → max (level_of l.levels q) (planned l.plan.items q) ≡ target (level_of l.initial.levels) l.initial.plan.items q;
  rising : IsRising (level_of l.initial.levels) l.plan.items;
}

abbrev pub decreases-loop-group : goal.decreases-loop-group
decreases-loop-group l = vec_len l.plan
