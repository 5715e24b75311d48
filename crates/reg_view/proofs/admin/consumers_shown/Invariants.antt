use Rattle.std.proofs.Common.{◌≡◌, ◌++◌, drop, map}
use Rattle.reg_view.specs.Texts.{consumer_shown}
use Rattle.reg_view.proofs.admin.consumers_shown.Given as goal

-- those so far, and those that are left
abbrev pub invariant-loop-row : goal.invariant-loop-row
invariant-loop-row l = l.shown ++ map consumer_shown (drop l.row-index l.rows) ≡ map consumer_shown l.rows
