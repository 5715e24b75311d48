use Rattle.std.proofs.Common.{◌≡◌, map}
use Rattle.std.specs.Map.Iter.{deref_pair}
use Rattle.reg_prov.specs.Notes.{turn_of}
use Rattle.reg_prov.proofs.turns.Turns.list.Given as goal

abbrev pub invariant-loop-place : goal.invariant-loop-place
invariant-loop-place l = l.turns.items ≡ map turn_of (map deref_pair l.yielded)
