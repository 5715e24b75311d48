use Rattle.std.proofs.Common.{refl}
use Rattle.reg_json.specs.Taking.{job_from}
use Rattle.reg_json.proofs.taken_admin.job_from.Goals as goal

-- the numbers and the texts, one behind the other
pub returns : goal.returns
unfolding job_from
returns c = rw (c.in_ok-max_percent.ensures, c.in_ok-min_size.ensures, c.in_ok-job.ensures, c.in_ok-source.ensures, c.in_ok-target.ensures) refl
