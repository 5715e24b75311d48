use Rattle.std.proofs.Common.{◌∙◌, inr}
use Rattle.reg_run.proofs.Reporting.{told_at}
use Rattle.reg_run.proofs.report.report_at.Goals as goal

-- the report was printed
pub returns-in-Go-clause-asked : goal.returns-in-Go-clause-asked
returns-in-Go-clause-asked g c = record {
  at = c.now-at.result;
  moment = c.now-at.ensures.moment;
  told = told_at c.args.asked.now c.args.service.state c.in-Go.service.state c.now-at.result c.print_report-end.result _ _ (rw c.in-Go.is at c.at.ensures.moved) (rw c.machine.ensures at c.print_report-end.ensures);
}

-- or there was no memory for it
pub returns-in-Stop-clause-asked : goal.returns-in-Stop-clause-asked
returns-in-Stop-clause-asked g c = record {
  at = c.now-at.result;
  moment = c.now-at.ensures.moment;
  told = inr c.print_reply.ensures.printed;
}

-- and the keeper given back
pub returns-in-Go-clause-same : goal.returns-in-Go-clause-same
returns-in-Go-clause-same g c = c.into_keeper.ensures.keeper ∙ rw c.in-Go.is at c.at.ensures.same

pub returns-in-Stop-clause-same : goal.returns-in-Stop-clause-same
returns-in-Stop-clause-same g c = (rw c.in-Stop.is at c.at.ensures.same).0
