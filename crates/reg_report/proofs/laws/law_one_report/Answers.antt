use Rattle.reg_report.proofs.One.{one_report}
use Rattle.reg_report.proofs.laws.law_one_report.Goals as goal

pub returns : goal.returns
returns c = one_report c.law_one_list.ensures
