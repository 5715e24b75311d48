use Rattle.reg_access.proofs.Lasting.{constant}
use Rattle.reg_access.proofs.laws.law_constant.Goals as goal

pub returns : goal.returns
returns c = constant
