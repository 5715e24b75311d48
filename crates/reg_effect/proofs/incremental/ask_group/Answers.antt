use Rattle.reg_effect.proofs.Totals.{listed_cost}
use Rattle.reg_effect.proofs.incremental.ask_group.Goals as goal

pub returns-clause-cost : goal.returns-clause-cost
returns-clause-cost g c = λ M k. listed_cost M c.args.sets.now k c.args.g c.in_ok-persons.persons.items c.in_ok-persons.ensures.sorted c.in_ok-persons.ensures.each c.args.steps.now c.list.new.steps c.in_ok-persons.ensures.cost
