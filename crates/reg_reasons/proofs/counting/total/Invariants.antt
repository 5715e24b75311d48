use Rattle.std.proofs.Common.{◌≡◌, ℕ, List, length}
use Rattle.reg_reasons.specs.Ways.{Way, shorter}
use Rattle.reg_reasons.specs.Counts.{AreLevels, capped}
use Rattle.reg_reasons.proofs.counting.total.Given as goal

abbrev pub invariant-loop-counts : goal.invariant-loop-counts
invariant-loop-counts l = (W : ℕ → ℕ → List Way) → AreLevels W l.levels → l.total ≡ capped (length (shorter l.counts-index (λ n. W n l.fn.group)))
