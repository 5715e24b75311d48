use Rattle.std.proofs.Common.{◌∙◌, sym, Bool}
use Rattle.reg_terms.specs.declared.rows.InheritRow.{InheritRow}
use Rattle.reg_priv.specs.Grants.{given}
use Rattle.reg_priv.specs.May.{allows}
use Rattle.reg_priv.proofs.Scoped.{reached, unreached}
use Rattle.reg_priv.proofs.climbing.any_inherited.Goals as goal

pub returns-in_default : goal.returns-in_default
returns-in_default g c =
    let t : InheritRow → Bool = λ row. allows (g.K.Kept.held c.args.kept.now) c.args.who.now c.args.wanted (given row) in
    sym (unreached c.args.object.now c.args.facts.now t c.args.facts.now.inherits (sym c.home_folder.ensures ∙ c.in_default.is))

pub returns-then-any_beside : goal.returns-then-any_beside
returns-then-any_beside g c =
    let t : InheritRow → Bool = λ row. allows (g.K.Kept.held c.args.kept.now) c.args.who.now c.args.wanted (given row) in
    let all = reached c.args.object.now c.args.facts.now c.in-Some.home t c.args.facts.now.inherits (sym c.home_folder.ensures ∙ c.in-Some.is) in
    sym (all ∙ rw (sym c.any_beside.ensures ∙ c.if-any_beside.true) (sym c.if-any_beside.true))

pub returns-else-any_beside : goal.returns-else-any_beside
returns-else-any_beside g c =
    let t : InheritRow → Bool = λ row. allows (g.K.Kept.held c.args.kept.now) c.args.who.now c.args.wanted (given row) in
    let all = reached c.args.object.now c.args.facts.now c.in-Some.home t c.args.facts.now.inherits (sym c.home_folder.ensures ∙ c.in-Some.is) in
    sym (all ∙ rw (sym c.any_beside.ensures ∙ c.if-any_beside.false) (sym c.any_above.ensures))
