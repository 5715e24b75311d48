use Rattle.std.proofs.Common.{◌≡◌, ◌++◌, map, take}
use Rattle.std.specs.Map.Iter.{deref}
use Rattle.reg_terms.proofs.attr_values.push_lent.Given as goal

-- the values so far are copied
abbrev pub invariant-loop-item : goal.invariant-loop-item
invariant-loop-item l = l.values ≡ l.initial.values ++ map deref (take l.item-index l.items)
