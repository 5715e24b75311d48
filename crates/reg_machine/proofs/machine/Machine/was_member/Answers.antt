use Rattle.reg_machine.specs.Recording.{recording}
use Rattle.reg_machine.proofs.PastTold.{member_spans_told, member_told}
use Rattle.reg_machine.proofs.machine.Machine.was_member.Goals as goal

pub returns-clause-value : goal.returns-clause-value
returns-clause-value g c = member_told c.self.inside.stamped.commands.items (recording c.self.inside.recorded.value.current c.self.inside.recorded.value.audit) c.args.self.now c.self.invariant c.self.view_is c.past-past.result.now (rw (c.audit.ensures, c.deref.ensures) at c.past-past.ensures.members) c.args.t c.args.group c.args.subject c.was_member.result c.requires c.was_member.ensures.value

-- the intervals looked at are those of the history
pub returns-clause-cost : goal.returns-clause-cost
returns-clause-cost g c n e =
    rw (member_spans_told c.self.inside.stamped.commands.items (recording c.self.inside.recorded.value.current c.self.inside.recorded.value.audit) c.args.self.now c.self.invariant c.self.view_is c.past-past.result.now (rw (c.audit.ensures, c.deref.ensures) at c.past-past.ensures.members) (rw (c.audit.ensures, c.deref.ensures) at c.past-past.ensures.noted) c.law_noted_later.ensures c.args.group c.args.subject c.law_spans.ensures) at c.was_member.ensures.cost n e
