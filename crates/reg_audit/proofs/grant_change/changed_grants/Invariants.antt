use Rattle.std.proofs.Common.{◌≡◌, ◌++◌, drop}
use Rattle.reg_audit.specs.Changed.{changed_grants}
use Rattle.reg_audit.proofs.grant_change.changed_grants.Given as goal

abbrev pub invariant-loop-event : goal.invariant-loop-event
invariant-loop-event l = l.changed.items ++ changed_grants (drop l.event-index l.events) ≡ changed_grants l.events
