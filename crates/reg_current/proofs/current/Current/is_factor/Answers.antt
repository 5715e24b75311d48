use Rattle.std.proofs.Common.{◌∙◌}
use Rattle.reg_current.proofs.Telling.{factor_told}
use Rattle.reg_current.proofs.current.Current.is_factor.Goals as goal

pub returns : goal.returns
returns g c =
    let told : _ = factor_told c.self.inside.moment c.self.inside.facts (g.K.Kept.held c.self.inside.sets) c.self.inside.graph c.self.inside.dates c.args.group c.self.invariant (rw (← c.self.view_is) at c.requires) in
    rw (← c.self.view_is) (c.is_needed.ensures ∙ told)
