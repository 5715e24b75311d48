use Rattle.std.proofs.Common.{◌∙◌, sym}
use Rattle.reg_view.specs.Past.{past_at}
use Rattle.reg_view.proofs.Powers.{powers_when}
use Rattle.reg_view.proofs.Shown.{if_ok}
use Rattle.reg_view.proofs.earlier.powers_at.Goals as goal

-- both stood, so the grants of then count
pub returns-then-both_stood : goal.returns-then-both_stood
returns-then-both_stood g c = if_ok c.powers_on.result _ _ (λ list is.
    powers_when c.args.facts.now ((past_at c.args.machine.now).facts c.args.t) c.args.t c.args.who.now c.args.object.now c.judged-judged.result list (sym c.both_stood.ensures ∙ c.if-both_stood.true) c.judged-judged.ensures is) c.powers_on.ensures
