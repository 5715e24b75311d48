use Rattle.std.proofs.Common.{◌≡◌, ◌++◌, drop, filter}
use Rattle.reg_reasons.specs.Ways.{begun}
use Rattle.reg_reasons.specs.Reasons.{leads}
use Rattle.reg_reasons.proofs.leading.leading.Given as goal

-- the rows so far, and those among the rows that are left
abbrev pub invariant-loop-row : goal.invariant-loop-row
invariant-loop-row g l = l.found.items ++ filter (leads (g.K.Kept.held l.kept) l.person) (begun l.at (drop l.row-index l.rows)) ≡ filter (leads (g.K.Kept.held l.kept) l.person) (begun l.at l.rows)
