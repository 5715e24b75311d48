use Rattle.reg_machine.proofs.Losing.{steps_take}
use Rattle.reg_machine.proofs.machine.Machine.law_lost.Goals as goal

pub returns : goal.returns
returns g c = steps_take c.law_lost.ensures.step c.args.self.now.history c.args.self.now.clock
