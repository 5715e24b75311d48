use Rattle.std.proofs.Common.{Ok, Err, refl}
use Rattle.reg_run.specs.AsOf.{AnswersLines}
use Rattle.reg_run.proofs.AskedThen.{did_then}
use Rattle.reg_run.proofs.as_of.as_of_over.Goals as goal

-- the registry as it was is asked
pub returns-in-Ok-clause-did : goal.returns-in-Ok-clause-did
returns-in-Ok-clause-did g c net = did_then _ AnswersLines c.args.at.now (Ok c.in-Ok.earlier) _ _ _ (rw c.in-Ok.is at c.find_earlier-found.ensures.finds) c.answer_lines.ensures refl

-- there is none
pub returns-in-Err-clause-did : goal.returns-in-Err-clause-did
returns-in-Err-clause-did g c net = did_then _ AnswersLines c.args.at.now (Err c.in-Err.why) _ _ _ (rw c.in-Err.is at c.find_earlier-found.ensures.finds) (refl, c.print_why.ensures) refl
