use Rattle.reg_machine.proofs.JobTargets.{target_stands}
use Rattle.reg_machine.proofs.planning.law_target.Goals as goal

pub returns : goal.returns
returns c name job found = target_stands c.args.facts.now name job c.law_jobs.ensures found
