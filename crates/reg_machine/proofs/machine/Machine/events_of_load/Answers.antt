use Rattle.std.proofs.Common.{◌≡◌, ◌∙◌, None, Some, ap, sym}
use Rattle.std.specs.Option.{option_copied}
use Rattle.reg_facts.specs.Jobs.{job_by}
use Rattle.reg_machine.specs.History.{facts}
use Rattle.reg_machine.proofs.Allowed.{loads_none, loads_row}
use Rattle.reg_machine.proofs.machine.Machine.events_of_load.Goals as goal

pub load_events-requires : goal.load_events-requires
load_events-requires g c =
    let found : job_by c.args.job.now (facts c.args.self.now.history c.args.self.now.clock).jobs ≡ Some c.in-Some.row.now = sym (rw (c.as_str.ensures, c.facts.ensures) at c.job.ensures) ∙ ap option_copied c.in-Some.is in
    rw (c.list.ensures, c.list-in-Some.ensures, c.list-in-Some-2.ensures, c.facts-in-Some.ensures) (loads_row c.args.self.now.history c.args.self.now.clock c.args.by.now c.args.job.now c.in-Some.row.now c.args.created.now c.args.removed.now c.args.added.now found c.requires)

-- the job of a load that isn't refused stands
pub unreachable-requires : goal.unreachable-requires
unreachable-requires g c =
    let none : job_by c.args.job.now (facts c.args.self.now.history c.args.self.now.clock).jobs ≡ None = sym (rw (c.as_str.ensures, c.facts.ensures) at c.job.ensures) ∙ ap option_copied c.in-None.is in
    loads_none c.args.self.now.history c.args.self.now.clock c.args.by.now c.args.job.now c.args.created.now c.args.removed.now c.args.added.now none c.requires
