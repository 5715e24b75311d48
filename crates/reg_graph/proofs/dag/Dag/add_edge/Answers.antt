use Rattle.std.proofs.Common.{◌≡◌, false}
use Rattle.reg_graph.specs.Edges.{reaches}
use Rattle.reg_graph.specs.Levels.{level_of}
use Rattle.reg_graph.proofs.Orders.{acyclic, not_back}
use Rattle.reg_graph.proofs.Levelling.{levelled_more}
use Rattle.reg_graph.proofs.dag.Dag.add_edge.Goals as goal

pub returns-in_err-make_room-clause-acyclic : goal.returns-in_err-make_room-clause-acyclic
returns-in_err-make_room-clause-acyclic c = acyclic c.self.inside.edges (level_of c.self.inside.levels) c.self.invariant.falls

pub returns-in_err-push-clause-acyclic : goal.returns-in_err-push-clause-acyclic
returns-in_err-push-clause-acyclic c = rw c.in_err-push.ensures.err (acyclic c.self.inside.edges (level_of c.self.inside.levels) c.self.invariant.falls)

pub invariant_of-self-2 : goal.invariant_of-self-2
invariant_of-self-2 c = levelled_more c.self.inside.edges c.push.new.self c.make_room.new.levels c.args.from c.args.to c.in_ok-push.ensures.ok
    c.make_room.ensures.levelled (rw (c.number.ensures, c.number-2.ensures) at c.in_ok-make_room.ensures.above) (rw c.number.ensures at c.in_ok-make_room.ensures.written)

pub returns-clause-no_circle : goal.returns-clause-no_circle
returns-clause-no_circle c =
    let none : reaches c.self.inside.edges c.args.to c.args.from ≡ false = not_back c.self.inside.edges (level_of c.make_room.new.levels) c.make_room.ensures.levelled.falls c.args.to c.args.from (rw (c.number.ensures, c.number-2.ensures) at c.in_ok-make_room.ensures.above) in
    rw c.self.view_is at none

pub returns-clause-acyclic : goal.returns-clause-acyclic
returns-clause-acyclic c = acyclic c.push.new.self (level_of c.make_room.new.levels)
    (levelled_more c.self.inside.edges c.push.new.self c.make_room.new.levels c.args.from c.args.to c.in_ok-push.ensures.ok
    c.make_room.ensures.levelled (rw (c.number.ensures, c.number-2.ensures) at c.in_ok-make_room.ensures.above) (rw c.number.ensures at c.in_ok-make_room.ensures.written)).falls
