use Rattle.std.proofs.lemmas.Result.{IfOk-weaker}
use Rattle.reg_machine.specs.Recording.{recording}
use Rattle.reg_machine.proofs.PastTold.{history_told}
use Rattle.reg_machine.proofs.machine.Machine.history_of.Goals as goal

pub returns : goal.returns
returns g c = IfOk-weaker c.history_of.result _ _ (λ rows are. history_told c.self.inside.stamped.commands.items (recording c.self.inside.recorded.value.current c.self.inside.recorded.value.audit) c.args.self.now c.self.invariant c.self.view_is c.past-past.result.now (rw (c.audit.ensures, c.deref.ensures) at c.past-past.ensures.members) (rw (c.audit.ensures, c.deref.ensures) at c.past-past.ensures.noted)
    c.law_noted_later.ensures c.args.group c.law_spans.ensures rows.items c.law_stays.ensures.members are) c.history_of.ensures
