use Rattle.reg_machine.specs.Past.{log}
use Rattle.reg_prov.specs.Wanted.{log_moments, wants}
use Rattle.reg_prov.proofs.Lines.{as_long}
use Rattle.reg_prov.proofs.OneBatch.{goes_on, none_done, one_batch, stays_inside}
use Rattle.reg_prov.proofs.laws.law_one_batch.Goals as goal

pub returns-clause-one : goal.returns-clause-one
returns-clause-one c history clock place provisioner most = one_batch (wants history provisioner) (log_moments history clock) clock place most

pub returns-clause-none : goal.returns-clause-none
returns-clause-none c history clock place provisioner most = none_done (wants history provisioner) (log_moments history clock) clock place most

pub returns-clause-onward : goal.returns-clause-onward
returns-clause-onward c history clock place provisioner most end ops = goes_on (wants history provisioner) (log_moments history clock) clock place most ops end

pub returns-clause-inside : goal.returns-clause-inside
returns-clause-inside c history clock place provisioner most end ops p = as_long (log history clock) place end (stays_inside (wants history provisioner) (log_moments history clock) clock place most ops end p)
