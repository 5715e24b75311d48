use Rattle.std.proofs.Common.{ℕ, ◌≤◌, List}
use Rattle.reg_reasons.specs.Ways.{Way}
use Rattle.reg_reasons.specs.Counts.{AreOf}
use Rattle.reg_reasons.proofs.Picking.{IsLeft}
use Rattle.reg_reasons.proofs.listing.pick.Given as goal

abbrev pub invariant-loop-place : goal.invariant-loop-place
invariant-loop-place l = (l.left ≤ l.k) × ((W : ℕ → List Way) → AreOf W l.below → IsLeft W l.last l.fn.person l.rows l.fn.group l.k l.place l.left)
