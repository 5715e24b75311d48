use Rattle.std.proofs.Common.{ap, ◌∙◌}
use Rattle.reg_keep.proofs.OneByOne.{added_front, on_any_err}
use Rattle.reg_service.specs.Waiting.{Waits}
use Rattle.reg_service.proofs.Held.{held_run, held_told}
use Rattle.reg_service.proofs.waiting.WaitingKeeper.append_all.Goals as goal

-- one found no memory
pub returns-in_err-append-clause-failed : goal.returns-in_err-append-clause-failed
returns-in_err-append-clause-failed c =
    let f = added_front _ _ _ _ c.payloads.invariant.added in
    let is = c.in_err-append.ensures.short in
    on_any_err c.from_residual.result (held_told c.args.more.now c.args.self.now c.append.new.self (ap (λ (w : Waits). w.before) is ∙ c.payloads.invariant.before) (f.0, f.1, ap (λ (w : Waits). w.held) is ∙ f.2))

pub returns-in_err-append-clause-any_moment : goal.returns-in_err-append-clause-any_moment
returns-in_err-append-clause-any_moment c =
    let f = added_front _ _ _ _ c.payloads.invariant.added in
    let is = c.in_err-append.ensures.short in
    held_run c.args.more.now c.args.self.now c.append.new.self (ap (λ (w : Waits). w.before) is ∙ c.payloads.invariant.before) (f.0, f.1, ap (λ (w : Waits). w.held) is ∙ f.2)

-- all of them wait
pub returns-clause-any_moment : goal.returns-clause-any_moment
returns-clause-any_moment c = held_run c.args.more.now c.args.self.now c.payloads.self c.payloads.invariant.before (added_front _ _ _ _ c.payloads.invariant.added)
