use Rattle.reg_facts.proofs.JobsStand.{delete_suits}
use Rattle.reg_facts.proofs.facts.Facts.law_job_delete.Goals as goal

pub returns : goal.returns
returns c = λ at by job. delete_suits at by job c.args.self.now
