use Rattle.reg_machine.specs.Recording.{recording}
use Rattle.reg_machine.proofs.AssignsTold.{noted_told, stays_told}
use Rattle.reg_machine.proofs.machine.Machine.assign_moments.Goals as goal

pub returns-clause-by_clock : goal.returns-clause-by_clock
returns-clause-by_clock g c =
    noted_told c.self.inside.stamped.commands.items (recording c.self.inside.recorded.value.current c.self.inside.recorded.value.audit) c.args.self.now c.self.invariant c.self.view_is c.past-past.result.now (rw (c.audit.ensures, c.deref.ensures) at c.past-past.ensures.noted) c.law_noted_later.ensures c.in_ok-moments.moments.items
    c.in_ok-moments.ensures.noted

pub returns-clause-constant : goal.returns-clause-constant
returns-clause-constant g c u t w by none =
    stays_told c.self.inside.stamped.commands.items (recording c.self.inside.recorded.value.current c.self.inside.recorded.value.audit) c.args.self.now c.self.invariant c.self.view_is c.past-past.result.now (rw (c.audit.ensures, c.deref.ensures) at c.past-past.ensures.assigns) u t c.args.owner w by
    (c.in_ok-moments.ensures.constant u t w none)
