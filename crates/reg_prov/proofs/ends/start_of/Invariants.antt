use Rattle.std.proofs.Common.{◌≡◌}
use Rattle.reg_prov.specs.Boundaries.{start_of}
use Rattle.reg_prov.proofs.ends.start_of.Given as goal

abbrev pub invariant-loop-number : goal.invariant-loop-number
invariant-loop-number l = start_of l.moments l.number ≡ start_of l.moments l.place

abbrev pub decreases-loop-number : goal.decreases-loop-number
decreases-loop-number l = l.number
