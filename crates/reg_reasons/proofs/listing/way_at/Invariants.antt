use Rattle.std.proofs.Common.{ℕ, ◌<◌, ◌-◌, Bool, slice_get}
use Rattle.reg_reasons.specs.Ways.{ways}
use Rattle.reg_reasons.specs.Counts.{AreLevels}
use Rattle.reg_reasons.proofs.Picking.{GoesOn}
use Rattle.reg_reasons.proofs.listing.way_at.Given as goal

abbrev pub invariant-loop-step : goal.invariant-loop-step
invariant-loop-step l = (l.rest < 18446744073709551615) × ((E : ℕ → Bool) → AreLevels (λ n g. ways n l.rows E l.fn.person g) l.levels
    → GoesOn l.rows E l.fn.person (slice_get (ways l.n l.rows E l.fn.person l.fn.group) l.k) l.way.items (l.n - l.step) l.member l.rest)
