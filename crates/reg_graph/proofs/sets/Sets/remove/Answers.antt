use Rattle.reg_graph.proofs.Kept.{updates_remove}
use Rattle.reg_graph.proofs.Turned.{turned_remove}
use Rattle.reg_graph.proofs.sets.Sets.remove.Goals as goal

pub invariant_of-self-2 : goal.invariant_of-self-2
invariant_of-self-2 g c =
    turned_remove c.args.g c.args.s _ _ _ _ _ _ c.self.invariant c.remove.ensures.keys c.remove.ensures.ordered c.remove.ensures.updates.0
    c.remove-2.ensures.keys c.remove-2.ensures.ordered c.remove-2.ensures.updates.0

pub returns-clause-removed : goal.returns-clause-removed
returns-clause-removed g c = rw (← c.self.view_is) (updates_remove _ _ _ _ c.remove.ensures.updates.0)
