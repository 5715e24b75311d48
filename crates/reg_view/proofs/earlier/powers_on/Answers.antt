use Rattle.std.proofs.Common.{◌∙◌}
use Rattle.reg_view.specs.Past.{live_at, past_at}
use Rattle.reg_view.proofs.Held.{powers_fit}
use Rattle.reg_view.proofs.Shown.{if_ok}
use Rattle.reg_view.proofs.earlier.powers_on.Goals as goal

-- the grants of then, of these those that were someone's, and of what they give what fits
pub returns : goal.returns
returns g c = if_ok c.fitting.result _ _ (λ list is.
    powers_fit (live_at c.args.machine.now c.args.t) ((past_at c.args.machine.now).facts c.args.t) c.args.who.now c.args.object.now list c.list.result.now c.was_root-root.result c.deref.result.now is c.was_root-root.ensures
    (c.list.ensures ∙ c.in_ok-held.ensures) (c.deref.ensures.value ∙ c.in_ok-grants.ensures)) c.fitting.ensures
