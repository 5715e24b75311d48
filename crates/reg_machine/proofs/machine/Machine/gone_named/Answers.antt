use Rattle.reg_machine.specs.Recording.{recording}
use Rattle.reg_machine.proofs.PastTold.{named_told}
use Rattle.reg_machine.proofs.machine.Machine.gone_named.Goals as goal

pub returns : goal.returns
returns g c = named_told c.self.inside.stamped.commands.items (recording c.self.inside.recorded.value.current c.self.inside.recorded.value.audit) c.args.self.now c.self.invariant c.self.view_is c.args.name.now c.gone_named.result (rw (c.audit.ensures, c.deref.ensures) at c.gone_named.ensures)
