use Rattle.std.proofs.Common.{Ok, Err, refl}
use Rattle.reg_run.specs.AsOf.{PrintsReport}
use Rattle.reg_run.proofs.AskedThen.{did_then}
use Rattle.reg_run.proofs.as_of.report_as_of_over.Goals as goal

-- the registry as it was is asked
pub returns-in-Ok-clause-did : goal.returns-in-Ok-clause-did
returns-in-Ok-clause-did g c w = did_then _ (PrintsReport c.args.asked.now) c.args.at.now (Ok c.in-Ok.earlier) _ _ _ (rw c.in-Ok.is at c.find_earlier-found.ensures.finds) (refl, rw c.machine.ensures at c.print_report.ensures) refl

-- there is none
pub returns-in-Err-clause-did : goal.returns-in-Err-clause-did
returns-in-Err-clause-did g c w = did_then _ (PrintsReport c.args.asked.now) c.args.at.now (Err c.in-Err.why) _ _ _ (rw c.in-Err.is at c.find_earlier-found.ensures.finds) (refl, c.print_why.ensures) refl
