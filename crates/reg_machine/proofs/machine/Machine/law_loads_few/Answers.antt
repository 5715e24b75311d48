use Rattle.reg_machine.proofs.LoadForms.{loads_few}
use Rattle.reg_machine.proofs.machine.Machine.law_loads_few.Goals as goal

pub returns : goal.returns
returns g c by job created removed added none = loads_few c.args.self.now.history c.args.self.now.clock by job created removed added c.law_formed.ensures none
