use Rattle.std.proofs.Common.{◌≡◌, ◌∙◌, sym}
use Rattle.reg_terms.specs.Rows.{is_composite}
use Rattle.reg_reasons.proofs.Ends.{no_end}
use Rattle.reg_reasons.proofs.leading.is_end.Goals as goal

pub returns-else-is_composite : goal.returns-else-is_composite
returns-else-is_composite g c =
    let e : c.is_composite.result ≡ is_composite c.args.group (g.K.Kept.held c.args.kept.now).composites = rw c.live.ensures.live at c.is_composite.ensures in
    c.if-is_composite.false ∙ sym (no_end (g.K.Kept.held c.args.kept.now) c.args.person c.args.group (sym e ∙ c.if-is_composite.false))
