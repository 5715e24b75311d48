use Rattle.std.proofs.Common.{◌∙◌, ap, map}
use Rattle.reg_effect.specs.Factors.{composite_at}
use Rattle.reg_effect.proofs.Places.{composite_removed}
use Rattle.reg_effect.proofs.composites.Composites.remove.Goals as goal

pub returns : goal.returns
returns c = ap (λ es. map composite_at es) c.remove.ensures.entries ∙ rw (c.number.ensures, ← c.self.view_is) (composite_removed c.args.group c.self.inside.factors.entries)
