use Rattle.reg_machine.specs.Recording.{recording}
use Rattle.reg_machine.proofs.LogMoments.{log_ordered, log_by_clock}
use Rattle.reg_machine.proofs.machine.Machine.law_log_moments.Goals as goal

pub returns-clause-ordered : goal.returns-clause-ordered
returns-clause-ordered g c = log_ordered c.self.inside.stamped.commands.items (recording c.self.inside.recorded.value.current c.self.inside.recorded.value.audit) c.args.self.now c.self.invariant c.self.view_is

pub returns-clause-by_clock : goal.returns-clause-by_clock
returns-clause-by_clock g c = log_by_clock c.self.inside.stamped.commands.items (recording c.self.inside.recorded.value.current c.self.inside.recorded.value.audit) c.args.self.now c.self.invariant c.self.view_is
