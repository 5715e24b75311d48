use Rattle.std.proofs.Common.{◌≡◌, ◌-◌}
use Rattle.reg_prov.specs.Boundaries.{last_end}
use Rattle.reg_prov.proofs.ends.last_end.Given as goal

abbrev pub invariant-loop-number : goal.invariant-loop-number
invariant-loop-number l = last_end l.moments l.clock l.place l.number ≡ last_end l.moments l.clock l.place l.most

abbrev pub decreases-loop-number : goal.decreases-loop-number
decreases-loop-number l = l.number - l.place
