use Rattle.std.proofs.Common.{◌≡◌, ◌==◌, ◌&&◌, ◌||◌, ℕ, take}
use Rattle.reg_graph.specs.Sets.{holds}
use Rattle.reg_graph.specs.Edges.{among}
use Rattle.reg_graph.specs.Levels.{level_of}
use Rattle.reg_graph.proofs.dag.await_above.Given as goal

abbrev pub invariant-loop-higher : goal.invariant-loop-higher
invariant-loop-higher l = (x q : ℕ) → holds x q l.pending.keys ≡ (((x == level_of l.levels q) && among q (take l.higher-index l.higher-items)) || holds x q l.fn.pending.keys)
