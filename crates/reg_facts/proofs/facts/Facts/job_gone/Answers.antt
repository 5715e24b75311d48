use Rattle.std.proofs.Common.{◌≡◌}
use Rattle.reg_terms.specs.declared.event.Event.TheVariants.{JobGone}
use Rattle.reg_facts.specs.Events.{happened}
use Rattle.reg_facts.proofs.Indexing.{job_gone_indexed}
use Rattle.reg_facts.proofs.JobsStand.{jobs_ascend}
use Rattle.reg_facts.proofs.facts.Facts.job_gone.Goals as goal

-- their ids ascend
pub remove_job-requires : goal.remove_job-requires
remove_job-requires c = rw c.deref_mut.ensures.value (jobs_ascend _ c.facts.invariant.jobs)

pub invariant_of-facts : goal.invariant_of-facts
invariant_of-facts c =
    let is : c.remove_job.new.self ≡ happened (JobGone c.args.id) c.args.self = rw (c.deref_mut.ensures.value, c.facts.view_is) at c.remove_job.ensures in
    rw is (job_gone_indexed c.facts.inside.subject_index c.facts.inside.children c.args.id c.args.self (rw c.facts.view_is at c.facts.invariant) c.requires)
