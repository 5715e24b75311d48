use Rattle.std.proofs.Common.{◌∙◌, Bool}
use Rattle.reg_terms.specs.declared.kinds.Scope.TheVariants.{One}
use Rattle.reg_terms.specs.declared.rows.InheritRow.{InheritRow}
use Rattle.reg_priv.specs.Lending.{lends}
use Rattle.reg_priv.proofs.Scoped.{on_folder}
use Rattle.reg_priv.proofs.climbing.any_beside.Goals as goal

pub returns : goal.returns
returns g c =
    let t : InheritRow → Bool = lends (g.K.Kept.held c.args.kept.now) c.args.who.now c.args.wanted c.args.object.now One in
    c.any_given.ensures ∙ (c.inherits_of-rows.ensures.same t ∙ on_folder c.args.home t c.args.facts.now.inherits)
