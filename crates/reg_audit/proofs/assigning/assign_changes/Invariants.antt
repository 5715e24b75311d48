use Rattle.std.proofs.Common.{◌≡◌, ◌++◌, drop}
use Rattle.reg_audit.specs.Assigning.{assign_changes}
use Rattle.reg_audit.proofs.assigning.assign_changes.Given as goal

abbrev pub invariant-loop-event : goal.invariant-loop-event
invariant-loop-event l = l.changes.items ++ assign_changes (drop l.event-index l.events) ≡ assign_changes l.events
