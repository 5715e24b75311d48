use Rattle.std.proofs.Common.{◌∙◌, sym, Bool}
use Rattle.reg_priv.specs.Grants.{Grant, gives_one}
use Rattle.reg_priv.specs.May.{allows}
use Rattle.reg_priv.proofs.Scoped.{any_grant}
use Rattle.reg_priv.proofs.judging.granted.Goals as goal

pub returns-then-any_written : goal.returns-then-any_written
returns-then-any_written g c =
    let t : Grant → Bool = allows (g.K.Kept.held c.args.kept.now) c.args.who.now c.args.privilege in
    let direct = c.any_written.ensures ∙ c.grants_of-rows.ensures.same (gives_one t) in
    sym (any_grant c.args.object.now c.args.facts.now t ∙ rw (sym direct ∙ c.if-any_written.true) (sym c.if-any_written.true))

pub returns-else-any_written : goal.returns-else-any_written
returns-else-any_written g c =
    let t : Grant → Bool = allows (g.K.Kept.held c.args.kept.now) c.args.who.now c.args.privilege in
    let direct = c.any_written.ensures ∙ c.grants_of-rows.ensures.same (gives_one t) in
    sym (any_grant c.args.object.now c.args.facts.now t ∙ rw (sym direct ∙ c.if-any_written.false) (sym c.any_inherited.ensures))
