use Rattle.std.proofs.Common.{◌≡◌, ◌++◌, drop, map}
use Rattle.reg_view.specs.Answers.{row_span}
use Rattle.reg_view.proofs.history.spans_shown.Given as goal

-- those so far, and those that are left
abbrev pub invariant-loop-row : goal.invariant-loop-row
invariant-loop-row l = l.shown ++ map (row_span l.facts) (drop l.row-index l.rows) ≡ map (row_span l.facts) l.rows
