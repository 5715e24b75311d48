use Rattle.reg_prov.proofs.Batches.{fronts_between, all_last}
use Rattle.reg_prov.proofs.laws.law_batch.Goals as goal

pub returns-clause-fronts : goal.returns-clause-fronts
returns-clause-fronts c = fronts_between

pub returns-clause-all : goal.returns-clause-all
returns-clause-all c = all_last
