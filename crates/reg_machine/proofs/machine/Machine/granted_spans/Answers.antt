use Rattle.std.proofs.Common.{◌∙◌}
use Rattle.reg_machine.specs.Recording.{recording}
use Rattle.reg_machine.proofs.GrantsTold.{grant_spans_told}
use Rattle.reg_machine.proofs.machine.Machine.granted_spans.Goals as goal

pub returns : goal.returns
returns g c =
    c.in_ok-rows.ensures
    ∙ grant_spans_told c.self.inside.stamped.commands.items (recording c.self.inside.recorded.value.current c.self.inside.recorded.value.audit) c.args.self.now c.self.invariant c.self.view_is c.past-past.result.now (rw (c.audit.ensures, c.deref.ensures) at c.past-past.ensures.granted) (rw (c.audit.ensures, c.deref.ensures) at c.past-past.ensures.noted)
    c.law_noted_later.ensures c.args.object c.args.privilege c.args.holder c.law_grant_spans.ensures
