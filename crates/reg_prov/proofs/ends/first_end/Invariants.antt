use Rattle.std.proofs.Common.{◌≡◌, ◌-◌, None, length}
use Rattle.reg_prov.specs.Boundaries.{first_end}
use Rattle.reg_prov.proofs.ends.first_end.Given as goal

abbrev pub invariant-loop-number : goal.invariant-loop-number
invariant-loop-number l = first_end l.moments l.clock l.place l.number ≡ None

abbrev pub decreases-loop-number : goal.decreases-loop-number
decreases-loop-number l = length l.moments - l.number
