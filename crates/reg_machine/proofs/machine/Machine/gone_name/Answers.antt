use Rattle.std.specs.Option.{option_copied}
use Rattle.reg_machine.specs.Recording.{recording}
use Rattle.reg_machine.proofs.PastTold.{name_told}
use Rattle.reg_machine.proofs.machine.Machine.gone_name.Goals as goal

pub returns : goal.returns
returns g c = name_told c.self.inside.stamped.commands.items (recording c.self.inside.recorded.value.current c.self.inside.recorded.value.audit) c.args.self.now c.self.invariant c.self.view_is c.args.object (option_copied c.gone_name.result) (rw (c.audit.ensures, c.deref.ensures) at c.gone_name.ensures)
