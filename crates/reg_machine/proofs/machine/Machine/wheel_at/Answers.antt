use Rattle.std.proofs.Common.{◌∙◌}
use Rattle.reg_machine.specs.Recording.{recording}
use Rattle.reg_machine.proofs.GrantsTold.{wheel_told}
use Rattle.reg_machine.proofs.machine.Machine.wheel_at.Goals as goal

pub returns : goal.returns
returns g c = c.wheel_at.ensures ∙ wheel_told c.self.inside.stamped.commands.items (recording c.self.inside.recorded.value.current c.self.inside.recorded.value.audit) c.args.self.now c.self.invariant c.self.view_is c.past-past.result.now (rw (c.audit.ensures, c.deref.ensures) at c.past-past.ensures.wheel) c.args.t c.requires
