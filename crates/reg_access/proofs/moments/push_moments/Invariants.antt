use Rattle.std.proofs.Common.{◌≡◌, ◌++◌, map, take}
use Rattle.std.specs.List.{filter_map}
use Rattle.std.specs.Map.Iter.{deref}
use Rattle.reg_access.specs.Assigned.{moment_given}
use Rattle.reg_access.proofs.moments.push_moments.Given as goal

abbrev pub invariant-loop-value : goal.invariant-loop-value
invariant-loop-value l = l.moments.items ≡ l.fn.moments.items ++ filter_map moment_given (map deref (take l.value-index l.values))
