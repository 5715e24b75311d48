use Rattle.std.proofs.Common.{◌≡◌, map}
use Rattle.std.specs.Map.Iter.{deref}
use Rattle.reg_pit.proofs.moments.listed.Given as goal

-- the moments so far are those gone through
abbrev pub invariant-loop-moment : goal.invariant-loop-moment
invariant-loop-moment l = l.listed.items ≡ map deref l.yielded
