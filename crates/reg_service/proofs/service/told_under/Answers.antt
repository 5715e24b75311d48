use Rattle.std.proofs.Common.{◌∙◌}
use Rattle.reg_machine.specs.Keys.{keyed}
use Rattle.reg_service.proofs.Keyed.{tells_none, tells_no_memory, tells_it}
use Rattle.reg_service.proofs.service.told_under.Goals as goal

-- nothing is kept under the key
pub returns-in-None : goal.returns-in-None
returns-in-None c = tells_none (keyed c.args.machine.now.history c.args.by.now c.args.key.now) c.args.command.now (cc)

-- a command is, and it is this one or another
pub returns-in-Ok : goal.returns-in-Ok
returns-in-Ok c =
    tells_it (keyed c.args.machine.now.history c.args.by.now c.args.key.now) c.in-Some.kept c.args.command.now c.deref.result.now c.told_kept.result (cc) (c.deref.ensures.value ∙ c.in-Ok.ensures) (cc)

-- or there was no memory to see
pub returns-in-Err : goal.returns-in-Err
returns-in-Err c = tells_no_memory (keyed c.args.machine.now.history c.args.by.now c.args.key.now) c.in-Some.kept c.args.command.now (cc)
