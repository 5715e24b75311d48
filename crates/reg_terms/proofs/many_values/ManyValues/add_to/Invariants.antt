use Rattle.std.proofs.Common.{◌≡◌, ◌++◌, map}
use Rattle.std.specs.Map.Iter.{deref}
use Rattle.std.specs.Vec.Iter.{into_iter_items}
use Rattle.reg_terms.specs.Placed.{values_of}
use Rattle.reg_terms.proofs.many_values.ManyValues.add_to.Given as goal

-- the values so far, and those that are left, are all
abbrev pub invariant-loop-placed : goal.invariant-loop-placed
invariant-loop-placed l = map deref l.list.items ++ values_of (map deref (into_iter_items l.placed-iterator)) ≡ map deref l.fn.list.items ++ values_of (map deref (into_iter_items l.initial.placed-iterator))
