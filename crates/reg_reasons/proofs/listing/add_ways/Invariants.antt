use Rattle.std.proofs.Common.{ℕ, ◌≤◌, ◌+◌, Bool, length}
use Rattle.reg_reasons.specs.Ways.{ways}
use Rattle.reg_reasons.specs.Counts.{AreLevels}
use Rattle.reg_reasons.proofs.Firsts.{Listed}
use Rattle.reg_reasons.proofs.listing.add_ways.Given as goal

abbrev pub invariant-loop-k : goal.invariant-loop-k
invariant-loop-k l = (length l.listed.items ≤ length l.fn.listed.items + l.k) × ((E : ℕ → Bool) → AreLevels (λ n g. ways n l.rows E l.fn.person g) l.levels
    → Listed l.fn.listed.items (ways l.n l.rows E l.fn.person l.fn.group) l.listed.items l.k)
