use Rattle.reg_machine.proofs.Formed.{formed_now}
use Rattle.reg_machine.proofs.machine.Machine.law_formed.Goals as goal

pub returns : goal.returns
returns g c = formed_now c.self.inside.stamped.commands.items c.self.inside.recorded.value.current c.args.self.now c.self.invariant.in_step c.self.invariant.formed c.self.view_is
