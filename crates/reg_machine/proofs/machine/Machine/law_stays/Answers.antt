use Rattle.reg_machine.proofs.GrantWindows.{grants_meanwhile}
use Rattle.reg_machine.proofs.InStep.{on_meanwhile, still_between}
use Rattle.reg_machine.proofs.machine.Machine.law_stays.Goals as goal

pub returns-clause-between : goal.returns-clause-between
returns-clause-between g c = still_between c.self.inside.stamped.commands.items c.self.inside.recorded.value.current c.args.self.now c.self.invariant.in_step c.self.view_is

pub returns-clause-on : goal.returns-clause-on
returns-clause-on g c = on_meanwhile c.self.inside.stamped.commands.items c.self.inside.recorded.value.current c.args.self.now c.self.invariant.in_step (rw (c.current.ensures, c.deref.ensures) at c.law_rows_open.ensures) c.self.view_is

pub returns-clause-granted : goal.returns-clause-granted
returns-clause-granted g c = grants_meanwhile c.self.inside.stamped.commands.items c.self.inside.recorded.value.current.clock c.args.self.now c.self.invariant.in_step.by c.self.invariant.opened c.self.view_is
