use Rattle.reg_service.proofs.LoadsFull.{ordered_full}
use Rattle.reg_service.proofs.service.law_loads.Goals as goal

pub returns : goal.returns
returns c by job table =
    ordered_full c.args.machine.now by job table (rw c.facts-facts.ensures at c.law_sound.ensures) (rw c.facts-facts.ensures at c.law_held.ensures) (rw c.facts-facts.ensures at c.law_names.ensures) (rw c.facts-facts.ensures at c.law_jobs.ensures)
