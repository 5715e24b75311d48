use Rattle.std.proofs.Common.{◌∙◌}
use Rattle.reg_machine.specs.Recording.{recording}
use Rattle.reg_machine.proofs.GrantsTold.{grant_spans_told, granted_told}
use Rattle.reg_machine.proofs.machine.Machine.was_granted.Goals as goal

pub returns-clause-value : goal.returns-clause-value
returns-clause-value g c = c.was_granted.ensures.value ∙ granted_told c.self.inside.stamped.commands.items (recording c.self.inside.recorded.value.current c.self.inside.recorded.value.audit) c.args.self.now c.self.invariant c.self.view_is c.past-past.result.now (rw (c.audit.ensures, c.deref.ensures) at c.past-past.ensures.granted) c.args.t c.args.object c.args.privilege c.args.holder c.requires

-- the intervals looked at are those of the history
pub returns-clause-cost : goal.returns-clause-cost
returns-clause-cost g c n e =
    rw (grant_spans_told c.self.inside.stamped.commands.items (recording c.self.inside.recorded.value.current c.self.inside.recorded.value.audit) c.args.self.now c.self.invariant c.self.view_is c.past-past.result.now (rw (c.audit.ensures, c.deref.ensures) at c.past-past.ensures.granted) (rw (c.audit.ensures, c.deref.ensures) at c.past-past.ensures.noted) c.law_noted_later.ensures c.args.object c.args.privilege c.args.holder c.law_grant_spans.ensures) at c.was_granted.ensures.cost n e
