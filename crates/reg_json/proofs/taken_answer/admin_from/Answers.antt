use Rattle.std.proofs.Common.{refl}
use Rattle.reg_json.specs.Taking.{admin_from}
use Rattle.reg_json.proofs.taken_answer.admin_from.Goals as goal

-- the four lists, one behind the other
pub returns : goal.returns
unfolding admin_from
returns c = rw (c.in_ok-consumers.ensures, c.in_ok-gone.ensures, c.in_ok-jobs.ensures, c.in_ok-rules.ensures) refl
