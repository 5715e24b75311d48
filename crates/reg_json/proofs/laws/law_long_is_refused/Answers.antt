use Rattle.reg_json.proofs.Lines.{reading_long}
use Rattle.reg_json.proofs.laws.law_long_is_refused.Goals as goal

pub returns : goal.returns
returns c = reading_long
