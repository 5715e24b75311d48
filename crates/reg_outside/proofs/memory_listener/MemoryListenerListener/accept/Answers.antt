use Rattle.std.proofs.Common.{rules, Ok}
use Rattle.reg_outside.specs.declared.source.Failed.{Failed}
use Rattle.reg_outside.specs.Memory.{called}
use Rattle.reg_outside.specs.MemoryListener.{GivesTurn, next_turn_here}
use Rattle.reg_outside.proofs.Turns.{accepts_told}
use Rattle.reg_outside.proofs.memory_listener.MemoryListenerListener.accept.Goals as goal

pub returns-in-Ok-clause-accepts : goal.returns-in-Ok-clause-accepts
returns-in-Ok-clause-accepts c =
    let old = c.args.self.now in
    let new = c.take_turn.new.self in
    let given : GivesTurn (next_turn_here old.given_back old.coming) c.in-Ok.found (record old { calls = called old.calls }) new = search rules in
    accepts_told {E = Failed} (Ok c.in-Ok.found) old new (called old.calls) (called old.calls) given tt
