use Rattle.std.proofs.lemmas.Result.{on_ok_weaker}
use Rattle.reg_effect.proofs.Totals.{composite_cost}
use Rattle.reg_effect.proofs.incremental.ask.Goals as goal

pub returns-in-FactorsOff-clause-cost : goal.returns-in-FactorsOff-clause-cost
returns-in-FactorsOff-clause-cost g c = rw c.in-FactorsOff.is (on_ok_weaker c.ask_group.result (composite_cost c.args.sets.now c.in-FactorsOff.group c.args.steps.now c.ask_group.new.steps) c.ask_group.ensures.cost)
