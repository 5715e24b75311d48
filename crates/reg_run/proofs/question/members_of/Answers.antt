use Rattle.reg_run.proofs.Naming.{members_form}
use Rattle.reg_run.proofs.question.members_of.Goals as goal

-- and so has the query
pub returns-clause-form : goal.returns-clause-form
returns-clause-form c = members_form c.in_ok-group.group c.in_ok-at.at c.in_ok-group.ensures.form c.in_ok-at.ensures.form
