use Rattle.std.proofs.Common.{ℕ, List, take}
use Rattle.reg_reasons.specs.Ways.{Way, by_rows}
use Rattle.reg_reasons.specs.Counts.{AreOf}
use Rattle.reg_reasons.proofs.counting.count_rows.Given as goal

abbrev pub invariant-loop-row : goal.invariant-loop-row
invariant-loop-row l = (W : ℕ → List Way) → AreOf W l.below → AreOf (by_rows W l.last l.fn.person (take l.row-index l.rows)) l.counts
