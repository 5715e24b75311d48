use Rattle.std.proofs.Common.{◌≡◌, ℕ, ◌≤◌, Bool, length, take}
use Rattle.reg_reasons.specs.Ways.{shorter, ways}
use Rattle.reg_reasons.specs.Counts.{AreLevels}
use Rattle.reg_reasons.proofs.listing.first_ways.Given as goal

abbrev pub invariant-loop-n : goal.invariant-loop-n
invariant-loop-n l = (length l.listed.items ≤ l.fn.most) × ((E : ℕ → Bool) → AreLevels (λ n g. ways n l.rows E l.fn.person g) l.levels
    → l.listed.items ≡ take l.fn.most (shorter l.n (λ n. ways n l.rows E l.fn.person l.fn.group)))
