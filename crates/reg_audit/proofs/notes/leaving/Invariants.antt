use Rattle.std.proofs.Common.{◌≡◌, ◌++◌, drop}
use Rattle.reg_audit.specs.Lives.{leaving}
use Rattle.reg_audit.proofs.notes.leaving.Given as goal

abbrev pub invariant-loop-event : goal.invariant-loop-event
invariant-loop-event l = l.gone.items ++ leaving l.facts (drop l.event-index l.events) ≡ leaving l.facts l.events
