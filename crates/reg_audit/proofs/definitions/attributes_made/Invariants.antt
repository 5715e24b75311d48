use Rattle.std.proofs.Common.{◌≡◌, ◌++◌, drop}
use Rattle.reg_audit.specs.Definitions.{attributes_made}
use Rattle.reg_audit.proofs.definitions.attributes_made.Given as goal

abbrev pub invariant-loop-event : goal.invariant-loop-event
invariant-loop-event l = l.made.items ++ attributes_made (drop l.event-index l.events) ≡ attributes_made l.events
