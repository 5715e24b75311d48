use Rattle.std.proofs.Common.{◌≡◌, ◌==◌, ℕ, false, length}
use Rattle.reg_terms.specs.declared.kinds.Member.{Member}
use Rattle.reg_current.specs.Coming.{has_dated}
use Rattle.reg_current.proofs.dated_rows.DatedRows.forget.Given as goal

abbrev pub invariant-loop-row : goal.invariant-loop-row
invariant-loop-row l = (d g : ℕ) (m : Member) → (l.date == d) ≡ false → has_dated l.self d g m ≡ has_dated l.fn.self d g m

abbrev pub decreases-loop-row : goal.decreases-loop-row
decreases-loop-row l = length l.self.rows.keys
