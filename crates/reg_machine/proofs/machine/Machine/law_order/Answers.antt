use Rattle.reg_machine.proofs.Numbered.{least_told}
use Rattle.reg_machine.proofs.machine.Machine.law_order.Goals as goal

pub returns : goal.returns
returns g c = λ by caller command r who plain is. least_told c.args.self.now.history c.args.self.now.clock by caller command r who plain is
