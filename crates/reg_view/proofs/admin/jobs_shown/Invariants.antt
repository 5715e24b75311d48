use Rattle.std.proofs.Common.{◌≡◌, ◌++◌, drop, map}
use Rattle.reg_view.specs.Texts.{job_shown}
use Rattle.reg_view.proofs.admin.jobs_shown.Given as goal

-- those so far, and those that are left
abbrev pub invariant-loop-row : goal.invariant-loop-row
invariant-loop-row l = l.shown ++ map (job_shown l.facts) (drop l.row-index l.rows) ≡ map (job_shown l.facts) l.rows
