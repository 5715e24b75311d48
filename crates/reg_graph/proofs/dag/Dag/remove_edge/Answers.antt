use Rattle.reg_graph.specs.Levels.{level_of}
use Rattle.reg_graph.proofs.Levelling.{levelled_less}
use Rattle.reg_graph.proofs.Orders.{acyclic}
use Rattle.reg_graph.proofs.dag.Dag.remove_edge.Goals as goal

pub invariant_of-self : goal.invariant_of-self
invariant_of-self c = levelled_less c.self.inside.edges c.take.new.self c.self.inside.levels c.args.from c.args.to c.take.ensures c.self.invariant

pub returns-clause-acyclic : goal.returns-clause-acyclic
returns-clause-acyclic c = acyclic c.take.new.self (level_of c.self.inside.levels) (levelled_less c.self.inside.edges c.take.new.self c.self.inside.levels c.args.from c.args.to c.take.ensures c.self.invariant).falls
