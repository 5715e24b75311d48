use Rattle.std.proofs.Common.{◌≡◌, map}
use Rattle.std.specs.Map.Iter.{deref_pair}
use Rattle.reg_pit.proofs.Histories.{keyed_row}
use Rattle.reg_pit.proofs.intervals.Intervals.rows_between.Given as goal

abbrev pub invariant-loop-place : goal.invariant-loop-place
invariant-loop-place g l = l.rows.items ≡ map keyed_row (map deref_pair l.yielded)
