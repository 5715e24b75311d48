use Rattle.std.proofs.Common.{◌∙◌, ap, map}
use Rattle.reg_effect.specs.Factors.{composite_at}
use Rattle.reg_effect.proofs.Places.{composite_inserted}
use Rattle.reg_effect.proofs.composites.Composites.insert.Goals as goal

pub returns-clause-ok : goal.returns-clause-ok
returns-clause-ok c = ap (λ es. map composite_at es) c.in_ok-insert.ensures.entries ∙ rw (c.number.ensures, ← c.self.view_is) (composite_inserted c.args.row.group _ c.self.inside.factors.entries (rw (← c.self.view_is) at c.requires))
