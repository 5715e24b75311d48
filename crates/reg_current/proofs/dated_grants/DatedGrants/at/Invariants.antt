use Rattle.std.proofs.Common.{◌≡◌, map}
use Rattle.std.specs.Map.Iter.{deref}
use Rattle.reg_current.proofs.GrantPlaces.{grant_at}
use Rattle.reg_current.proofs.dated_grants.DatedGrants.at.Given as goal

abbrev pub invariant-loop-row : goal.invariant-loop-row
invariant-loop-row l = l.keys.items ≡ map grant_at (map deref l.yielded)
