use Rattle.std.proofs.Common.{◌≡◌, ◌++◌, drop, filter_map}
use Rattle.reg_audit.specs.Consumers.{consumer_note}
use Rattle.reg_audit.proofs.consumers.consumer_notes.Given as goal

abbrev pub invariant-loop-event : goal.invariant-loop-event
invariant-loop-event l = l.notes.items ++ filter_map consumer_note (drop l.event-index l.events) ≡ filter_map consumer_note l.events
