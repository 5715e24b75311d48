use Rattle.std.proofs.Common.{◌≡◌, take}
use Rattle.reg_access.specs.Assigned.{moments_in}
use Rattle.reg_access.proofs.moments.moments_in.Given as goal

abbrev pub invariant-loop-row : goal.invariant-loop-row
invariant-loop-row l = l.moments.items ≡ moments_in (take l.row-index l.rows)
