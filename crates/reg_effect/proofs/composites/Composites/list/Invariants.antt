use Rattle.std.proofs.Common.{◌≡◌, map}
use Rattle.std.specs.Map.Iter.{deref_pair}
use Rattle.reg_effect.specs.Factors.{composite_at}
use Rattle.reg_effect.proofs.composites.Composites.list.Given as goal

abbrev pub invariant-loop-group : goal.invariant-loop-group
invariant-loop-group l = l.rows.items ≡ map composite_at (map deref_pair l.yielded)
