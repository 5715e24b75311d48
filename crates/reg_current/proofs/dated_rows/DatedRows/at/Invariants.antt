use Rattle.std.proofs.Common.{◌≡◌, map}
use Rattle.std.specs.Map.Iter.{deref}
use Rattle.reg_current.proofs.DatedPlaces.{row_of}
use Rattle.reg_current.proofs.dated_rows.DatedRows.at.Given as goal

abbrev pub invariant-loop-row : goal.invariant-loop-row
invariant-loop-row l = l.rows.items ≡ map row_of (map deref l.yielded)
