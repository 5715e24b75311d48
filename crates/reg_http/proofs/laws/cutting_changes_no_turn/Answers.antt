use Rattle.reg_http.proofs.Cutting.{same_turns}
use Rattle.reg_http.proofs.laws.cutting_changes_no_turn.Goals as goal

pub returns : goal.returns
returns c = same_turns
