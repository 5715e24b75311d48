use Rattle.reg_terms.proofs.Placing.{few_placed}
use Rattle.reg_terms.proofs.many_values.ManyValues.len.Goals as goal

pub returns-clause-bound : goal.returns-clause-bound
returns-clause-bound c = rw (c.len.ensures) (few_placed c.self.inside.next c.self.inside.rows c.self.invariant)
