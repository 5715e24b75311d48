use Rattle.reg_machine.proofs.Vetoes.{added_where_let, loaded_where_let}
use Rattle.reg_machine.proofs.machine.Machine.law_vetoed.Goals as goal

pub returns-clause-members : goal.returns-clause-members
returns-clause-members g c = λ before after at by key group who from until person is found. added_where_let c.args.self.now.history before after at by key group who from until person c.law_legal.ensures is found

pub returns-clause-loads : goal.returns-clause-loads
returns-clause-loads g c = λ before after at by key name created removed added job is found. loaded_where_let c.args.self.now.history before after at by key name created removed added job c.law_legal.ensures is found
