use Rattle.std.proofs.Common.{refl}
use Rattle.reg_run.proofs.question.by_system.Goals as goal

-- the query has its form, and no key
pub returns-in-Ok-clause-form : goal.returns-in-Ok-clause-form
returns-in-Ok-clause-form c = record { fields = c.requires; key = refl }
