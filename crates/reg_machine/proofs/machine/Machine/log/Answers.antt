use Rattle.reg_machine.specs.Recording.{recording}
use Rattle.reg_machine.proofs.PastTold.{log_told}
use Rattle.reg_machine.proofs.machine.Machine.log.Goals as goal

pub returns : goal.returns
returns g c = log_told c.self.inside.stamped.commands.items (recording c.self.inside.recorded.value.current c.self.inside.recorded.value.audit) c.args.self.now c.self.invariant c.self.view_is c.log.result.now (rw (c.audit.ensures, c.deref.ensures) at c.log.ensures)
