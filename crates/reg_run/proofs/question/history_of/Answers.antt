use Rattle.reg_run.proofs.Naming.{history_form}
use Rattle.reg_run.proofs.question.history_of.Goals as goal

-- and so has the query
pub returns-clause-form : goal.returns-clause-form
returns-clause-form c = history_form c.in_ok-group.group c.in_ok-group.ensures.form
