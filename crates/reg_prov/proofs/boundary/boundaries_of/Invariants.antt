use Rattle.std.proofs.Common.{◌-◌, ◌≤◌}
use Rattle.reg_prov.proofs.Listing.{Listed}
use Rattle.reg_prov.proofs.boundary.boundaries_of.Given as goal

abbrev pub invariant-loop-number : goal.invariant-loop-number
invariant-loop-number l = (l.number ≤ l.last) × Listed l.moments l.start l.number l.before l.boundaries.items

abbrev pub decreases-loop-number : goal.decreases-loop-number
decreases-loop-number l = l.last - l.number
