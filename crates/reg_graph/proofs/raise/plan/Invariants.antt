use Rattle.std.proofs.Common.{not, ◌∷◌}
use Rattle.reg_graph.specs.Edges.{among}
use Rattle.reg_graph.specs.Levels.{level_of, wanted, awaits}
use Rattle.reg_graph.proofs.Counting.{passing}
use Rattle.reg_graph.proofs.Orders.{sources}
use Rattle.reg_graph.proofs.Rising.{Plans, groups}
use Rattle.reg_graph.proofs.raise.plan.Given as goal

abbrev pub invariant-loop-group : goal.invariant-loop-group
invariant-loop-group l = Plans l.edges (level_of l.levels) (level_of l.levels l.to) l.from l.to l.plan.items (wanted l.pending.entries) (awaits l.pending.entries)

abbrev pub decreases-loop-group : goal.decreases-loop-group
decreases-loop-group l = passing (λ q. not (among q (groups l.plan.items))) (l.from ∷ sources l.edges)
