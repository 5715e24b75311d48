use Rattle.std.proofs.Common.{◌∙◌, ap, Some, None}
use Rattle.reg_effect.proofs.Places.{composite_is}
use Rattle.reg_effect.proofs.composites.Composites.of.Goals as goal

pub returns-in-Some : goal.returns-in-Some
returns-in-Some c = ap (λ r. Some r) (rw c.number-in-Some.ensures at c.composite_at.ensures) ∙ composite_is c.args.group c.number.result (Some c.in-Some.factors.now) _ _ (rw c.in-Some.is at c.get.ensures.value) c.number.ensures c.self.view_is

pub returns-in-None : goal.returns-in-None
returns-in-None c = composite_is c.args.group c.number.result None _ _ (rw c.in-None.is at c.get.ensures.value) c.number.ensures c.self.view_is
