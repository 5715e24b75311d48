use Rattle.reg_access.proofs.OneList.{one_list}
use Rattle.reg_access.proofs.laws.law_one_list.Goals as goal

pub returns : goal.returns
returns c = one_list
