use Rattle.reg_prov.specs.Wanted.{log_moments, wants}
use Rattle.reg_prov.proofs.OneBatch.{all_left, fronts_left}
use Rattle.reg_prov.proofs.laws.law_target.Goals as goal

pub returns-clause-fronts : goal.returns-clause-fronts
returns-clause-fronts c history clock place provisioner most end ops target = fronts_left (wants history provisioner) (log_moments history clock) clock place most ops end target

pub returns-clause-all : goal.returns-clause-all
returns-clause-all c history clock place provisioner most end ops target = all_left (wants history provisioner) (log_moments history clock) clock place most ops end target
