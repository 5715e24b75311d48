use Rattle.std.proofs.Common.{not, ◌∷◌}
use Rattle.reg_graph.specs.Edges.{among}
use Rattle.reg_graph.specs.Levels.{level_of}
use Rattle.reg_graph.proofs.Counting.{passing}
use Rattle.reg_graph.proofs.Orders.{sources}
use Rattle.reg_graph.proofs.Climbing.{Climbs}
use Rattle.reg_graph.proofs.dag.climb.Given as goal

abbrev pub invariant-loop-group : goal.invariant-loop-group
invariant-loop-group l = Climbs l.edges (level_of l.levels) l.node l.above.items l.pending.keys

abbrev pub decreases-loop-group : goal.decreases-loop-group
decreases-loop-group l = passing (λ q. not (among q l.above.items)) (l.node ∷ sources l.edges)
