use Rattle.reg_machine.specs.Recording.{recording}
use Rattle.reg_machine.proofs.PastTold.{def_told}
use Rattle.reg_machine.proofs.machine.Machine.def_of.Goals as goal

pub returns : goal.returns
returns g c = def_told c.self.inside.stamped.commands.items (recording c.self.inside.recorded.value.current c.self.inside.recorded.value.audit) c.args.self.now c.self.invariant c.self.view_is c.args.attribute c.def_of.result (rw (c.audit.ensures, c.deref.ensures) at c.def_of.ensures)
