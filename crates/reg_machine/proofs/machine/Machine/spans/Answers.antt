use Rattle.std.proofs.lemmas.Result.{IfOk-weaker}
use Rattle.reg_machine.specs.Recording.{recording}
use Rattle.reg_machine.proofs.PastTold.{spans_told}
use Rattle.reg_machine.proofs.machine.Machine.spans.Goals as goal

pub returns : goal.returns
returns g c = IfOk-weaker c.spans.result _ _ (λ rows until. spans_told c.self.inside.stamped.commands.items (recording c.self.inside.recorded.value.current c.self.inside.recorded.value.audit) c.args.self.now c.self.invariant c.self.view_is c.past-past.result.now (rw (c.audit.ensures, c.deref.ensures) at c.past-past.ensures.members) (rw (c.audit.ensures, c.deref.ensures) at c.past-past.ensures.noted)
    c.law_noted_later.ensures c.args.group c.args.subject rows.items until) c.spans.ensures.until
