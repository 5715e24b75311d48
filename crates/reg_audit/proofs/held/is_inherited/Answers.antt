use Rattle.std.proofs.Common.{◌∙◌, sym, Bool}
use Rattle.reg_terms.specs.declared.rows.InheritRow.{InheritRow}
use Rattle.reg_priv.specs.Filling.{same_grant}
use Rattle.reg_priv.specs.Grants.{given}
use Rattle.reg_priv.proofs.Scoped.{reached, unreached}
use Rattle.reg_audit.proofs.held.is_inherited.Goals as goal

pub returns-in_default : goal.returns-in_default
returns-in_default c =
    let t : InheritRow → Bool = λ row. same_grant (c.args.privilege, c.args.holder.now) (given row) in
    sym (unreached c.args.object.now c.args.facts.now t c.args.facts.now.inherits (sym c.home_folder.ensures ∙ c.in_default.is))

pub returns-then-is_given : goal.returns-then-is_given
returns-then-is_given c =
    let t : InheritRow → Bool = λ row. same_grant (c.args.privilege, c.args.holder.now) (given row) in
    let all = reached c.args.object.now c.args.facts.now c.in-Some.home t c.args.facts.now.inherits (sym c.home_folder.ensures ∙ c.in-Some.is) in
    sym (all ∙ rw (sym c.is_given.ensures ∙ c.if-is_given.true) (sym c.if-is_given.true))

pub returns-else-is_given : goal.returns-else-is_given
returns-else-is_given c =
    let t : InheritRow → Bool = λ row. same_grant (c.args.privilege, c.args.holder.now) (given row) in
    let all = reached c.args.object.now c.args.facts.now c.in-Some.home t c.args.facts.now.inherits (sym c.home_folder.ensures ∙ c.in-Some.is) in
    sym (all ∙ rw (sym c.is_given.ensures ∙ c.if-is_given.false) (sym c.is_given_above.ensures))
