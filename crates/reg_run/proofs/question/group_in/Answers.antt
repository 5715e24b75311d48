use Rattle.std.proofs.Common.{sym, ◌∙◌}
use Rattle.reg_run.proofs.Naming.{name_is}
use Rattle.reg_run.proofs.question.group_in.Goals as goal

-- a name that was read has its form
pub returns-in-Ok-Some-clause-form : goal.returns-in-Ok-Some-clause-form
returns-in-Ok-Some-clause-form c = name_is c.bytes.result.now c.in-Ok-Some.name (sym c.in-Ok-Some.field-0-is ∙ c.in-Ok-Some.ensures)
