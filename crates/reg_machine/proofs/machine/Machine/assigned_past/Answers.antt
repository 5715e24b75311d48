use Rattle.std.proofs.Common.{◌∙◌}
use Rattle.reg_machine.specs.Recording.{recording}
use Rattle.reg_machine.proofs.AssignsTold.{assigns_told}
use Rattle.reg_machine.proofs.machine.Machine.assigned_past.Goals as goal

pub returns : goal.returns
returns g c t w = c.in_ok-assigned.ensures t ∙ assigns_told c.self.inside.stamped.commands.items (recording c.self.inside.recorded.value.current c.self.inside.recorded.value.audit) c.args.self.now c.self.invariant c.self.view_is c.past-past.result.now (rw (c.audit.ensures, c.deref.ensures) at c.past-past.ensures.assigns) t c.args.owner w
