use Rattle.reg_graph.specs.Edges.{IsAcyclic}
use Rattle.reg_graph.specs.Levels.{level_of}
use Rattle.reg_graph.proofs.Orders.{acyclic}
use Rattle.reg_graph.proofs.dag.Dag.acyclic.Goals as goal

-- the levels fall along each edge
pub returns : goal.returns
returns c = let all : IsAcyclic c.self.inside.edges = acyclic c.self.inside.edges (level_of c.self.inside.levels) c.self.invariant.falls in rw c.self.view_is at all
