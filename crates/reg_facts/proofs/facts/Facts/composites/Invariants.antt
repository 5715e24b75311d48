use Rattle.std.proofs.Common.{◌≡◌, ◌++◌, map}
use Rattle.std.specs.Map.Iter.{deref}
use Rattle.std.specs.Vec.Iter.{into_iter_items}
use Rattle.reg_facts.proofs.facts.Facts.composites.Given as goal

-- the rows so far, and those that are left, are all
abbrev pub invariant-loop-row : goal.invariant-loop-row
invariant-loop-row l = l.listed.items ++ map deref (into_iter_items l.row-iterator) ≡ map deref (into_iter_items l.initial.row-iterator)
