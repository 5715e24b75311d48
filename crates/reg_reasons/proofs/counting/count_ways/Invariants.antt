use Rattle.std.proofs.Common.{◌≡◌, ◌+◌, length}
use Rattle.reg_reasons.specs.Ways.{ways}
use Rattle.reg_reasons.specs.Reasons.{is_end}
use Rattle.reg_reasons.specs.Counts.{AreLevels}
use Rattle.reg_reasons.proofs.counting.count_ways.Given as goal

-- one level more than rounds
abbrev pub invariant-loop-n : goal.invariant-loop-n
invariant-loop-n g l = (length l.levels.items ≡ l.n + 1) × AreLevels (λ n h. ways n l.rows (is_end (g.K.Kept.held l.kept) l.fn.person) l.fn.person h) l.levels.items
