use Rattle.std.proofs.Common.{rules}
use Rattle.reg_graph.proofs.Keys.{numbered_more, pushed}
use Rattle.reg_graph.proofs.edges.Edges.push.Goals as goal

pub invariant_of-self-2 : goal.invariant_of-self-2
invariant_of-self-2 c = numbered_more c.args.to c.args.from _ c.self.inside.next c.in-Some.next _ _ c.self.invariant c.of.ensures c.in_ok-insert.ensures.keys (search rules) (search rules) (search rules)

pub returns-clause-ok : goal.returns-clause-ok
returns-clause-ok c = pushed c.args.to c.args.from _ c.self.inside.next _ _ _ c.self.invariant c.of.ensures c.in_ok-insert.ensures.keys c.self.view_is
