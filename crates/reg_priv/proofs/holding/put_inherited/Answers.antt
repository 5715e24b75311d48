use Rattle.std.proofs.Common.{◌||◌, ◌∙◌, sym, ap, Bool}
use Rattle.std.specs.List.{list_any}
use Rattle.reg_terms.specs.declared.kinds.Scope.TheVariants.{One, Sub}
use Rattle.reg_terms.specs.declared.rows.InheritRow.{InheritRow}
use Rattle.reg_facts.specs.Naming.{most_levels}
use Rattle.reg_priv.specs.Filling.{same_grant, is_among, brings}
use Rattle.reg_priv.specs.Grants.{given}
use Rattle.reg_priv.proofs.Gathering.{grouped, or_none}
use Rattle.reg_priv.proofs.Scoped.{here, over, reached, unreached}
use Rattle.reg_priv.proofs.holding.put_inherited.Goals as goal

-- nothing reaches what stands nowhere
pub returns-in_default : goal.returns-in_default
returns-in_default c = λ x.
    let t : InheritRow → Bool = λ row. same_grant x (given row) in
    or_none (is_among x c.args.found.now) _ (unreached c.args.object.now c.args.facts.now t c.args.facts.now.inherits (sym c.home_folder.ensures ∙ c.in_default.is))

pub returns : goal.returns
returns c = λ x.
    let t : InheritRow → Bool = λ row. same_grant x (given row) in
    let all = reached c.args.object.now c.args.facts.now c.in-Some.home t c.args.facts.now.inherits (sym c.home_folder.ensures ∙ c.in-Some.is) in
    c.in_ok-put_above.ensures x
    ∙ (grouped (is_among x c.put_beside.new.found) (is_among x c.args.found.now) (list_any (here c.in-Some.home (brings c.args.object.now One x)) c.args.facts.now.inherits) (list_any (over most_levels c.in-Some.home c.args.facts.now.folders (brings c.args.object.now Sub x)) c.args.facts.now.inherits) (c.in_ok-put_beside.ensures x)
    ∙ ap (λ b. is_among x c.args.found.now || b) (sym all))
