use Rattle.reg_graph.proofs.Kept.{updates_remove, kept_remove}
use Rattle.reg_effect.proofs.marks.Marks.remove.Goals as goal

pub invariant_of-self : goal.invariant_of-self
invariant_of-self c = kept_remove _ _ _ c.self.invariant c.remove.ensures.keys c.remove.ensures.ordered

pub returns : goal.returns
returns c = rw (← c.self.view_is) (updates_remove _ _ _ _ c.remove.ensures.updates.0)
