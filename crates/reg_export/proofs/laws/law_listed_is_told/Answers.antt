use Rattle.reg_export.proofs.Ids.{listed_told}
use Rattle.reg_export.proofs.laws.law_listed_is_told.Goals as goal

pub returns : goal.returns
returns c = listed_told
