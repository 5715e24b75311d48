use Rattle.reg_machine.proofs.LoadForms.{load_form}
use Rattle.reg_machine.proofs.machine.Machine.law_planned.Goals as goal

pub returns : goal.returns
returns g c none = load_form c.args.self.now.history c.args.self.now.clock c.args.by.now c.args.job.now c.args.plan.now.created c.args.plan.now.removed c.args.plan.now.added c.law_formed.ensures none c.requires c.law_plan.ensures.created c.law_plan.ensures.removed c.law_plan.ensures.added
