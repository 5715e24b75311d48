use Rattle.std.proofs.Common.{◌≡◌, ◌++◌, drop}
use Rattle.reg_audit.specs.Lines.{action_lines}
use Rattle.reg_audit.proofs.notes.add_actions.Given as goal

abbrev pub invariant-loop-action : goal.invariant-loop-action
invariant-loop-action l = l.lines.items ++ action_lines l.at (drop l.action-index l.actions) ≡ l.fn.lines.items ++ action_lines l.at l.actions
