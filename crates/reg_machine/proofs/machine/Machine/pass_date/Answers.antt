use Rattle.reg_machine.specs.Recording.{recording}
use Rattle.std.proofs.Common.{◌≡◌, Some}
use Rattle.reg_facts.specs.Events.{all_happened}
use Rattle.reg_current.specs.Dates.{at_date, date_events, due}
use Rattle.reg_machine.specs.Past.{date_step, steps}
use Rattle.reg_machine.proofs.InStep.{date_steps, due_now}
use Rattle.reg_machine.proofs.Recording.{next_follows, next_recorded}
use Rattle.reg_machine.proofs.machine.Machine.pass_date.Goals as goal

pub law_date-requires : goal.law_date-requires
law_date-requires g c = rw (c.current.ensures, c.deref-2.ensures) (due_now c.self.inside.stamped.commands.items c.args.date (Some c.args.date) c.self.inside.recorded.value.current c.args.self c.self.invariant.in_step c.self.view_is c.requires)

pub passed_on-requires-clause-due : goal.passed_on-requires-clause-due
passed_on-requires-clause-due g c = due_now c.self.inside.stamped.commands.items c.args.date (Some c.args.date) c.self.inside.recorded.value.current c.args.self c.self.invariant.in_step c.self.view_is c.requires

-- nothing was noted later than the date
pub passed_on-requires-clause-noted : goal.passed_on-requires-clause-noted
passed_on-requires-clause-noted g c =
    let before = c.self.inside.recorded.value.current in
    let first : due before.clock c.args.date before.facts ≡ Some c.args.date = due_now c.self.inside.stamped.commands.items c.args.date (Some c.args.date) before c.args.self c.self.invariant.in_step c.self.view_is c.requires in
    let events : all_happened (date_events c.args.date before.facts) before.facts ≡ at_date c.args.date before.facts = rw (c.current.ensures, c.deref-2.ensures) at c.law_date.ensures.gone in
    (rw (c.audit.ensures, c.deref.ensures) at c.law_follows.ensures) (steps c.self.inside.stamped.commands.items before.clock) (date_step before.clock c.args.date before.facts) c.self.invariant.audit (next_follows c.self.inside.stamped.commands.items c.args.date (recording before c.self.inside.recorded.value.audit) c.self.invariant first events)

-- the machine stays in step
pub invariant_of-result : goal.invariant_of-result
invariant_of-result g c =
    let before = c.self.inside.recorded.value.current in
    let first : due before.clock c.args.date before.facts ≡ Some c.args.date = due_now c.self.inside.stamped.commands.items c.args.date (Some c.args.date) before c.args.self c.self.invariant.in_step c.self.view_is c.requires in
    let events : all_happened (date_events c.args.date before.facts) before.facts ≡ at_date c.args.date before.facts = rw (c.current.ensures, c.deref-2.ensures) at c.law_date.ensures.gone in
    next_recorded c.self.inside.stamped.commands.items c.args.date (recording before c.self.inside.recorded.value.audit) (recording c.in_ok-recorded.recorded.value.current c.in_ok-recorded.recorded.value.audit) c.self.invariant first events c.in_ok-recorded.ensures.moved c.in_ok-recorded.ensures.recorded c.in_ok-recorded.ensures.sound

-- the steps of the date
pub returns-clause-cost : goal.returns-clause-cost
returns-clause-cost g c = date_steps c.self.inside.stamped.commands.items c.args.date c.args.steps.now c.passed_on.new.steps c.self.inside.recorded.value.current c.args.self c.self.invariant.in_step c.self.view_is c.in_ok-recorded.ensures.cost
