use Rattle.std.proofs.Common.{◌≡◌, ◌++◌, drop}
use Rattle.reg_audit.specs.Objects.{made_by}
use Rattle.reg_audit.proofs.notes.made_by.Given as goal

abbrev pub invariant-loop-event : goal.invariant-loop-event
invariant-loop-event l = l.made.items ++ made_by (drop l.event-index l.events) ≡ made_by l.events
