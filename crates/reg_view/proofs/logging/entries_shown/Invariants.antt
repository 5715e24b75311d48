use Rattle.std.proofs.Common.{◌≡◌, ◌++◌, drop, map}
use Rattle.reg_view.specs.Past.{entry_shown, past_at}
use Rattle.reg_view.proofs.logging.entries_shown.Given as goal

-- those so far, and those that are left
abbrev pub invariant-loop-entry : goal.invariant-loop-entry
invariant-loop-entry g l = l.shown ++ map (entry_shown (past_at l.machine)) (drop l.entry-index l.entries) ≡ map (entry_shown (past_at l.machine)) l.entries
