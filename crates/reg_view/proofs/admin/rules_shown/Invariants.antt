use Rattle.std.proofs.Common.{◌≡◌, ◌++◌, drop, map}
use Rattle.reg_view.specs.Past.{past_at}
use Rattle.reg_view.specs.Texts.{rule_shown}
use Rattle.reg_view.proofs.admin.rules_shown.Given as goal

-- those so far, and those that are left
abbrev pub invariant-loop-row : goal.invariant-loop-row
invariant-loop-row g l = l.shown ++ map (rule_shown (past_at l.machine) l.facts) (drop l.row-index l.rows) ≡ map (rule_shown (past_at l.machine) l.facts) l.rows
