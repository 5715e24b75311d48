use Rattle.reg_machine.specs.Recording.{recording}
use Rattle.reg_machine.proofs.GrantsTold.{grants_told}
use Rattle.reg_machine.proofs.machine.Machine.grants_at.Goals as goal

pub returns : goal.returns
returns g c = grants_told c.self.inside.stamped.commands.items (recording c.self.inside.recorded.value.current c.self.inside.recorded.value.audit) c.args.self.now c.self.invariant c.self.view_is c.past-past.result.now (rw (c.audit.ensures, c.deref.ensures) at c.past-past.ensures.granted) c.args.t c.args.object c.in_ok-found.found.items c.requires c.in_ok-found.ensures.ascending c.in_ok-found.ensures.each
