use Rattle.std.proofs.Common.{◌≡◌, ◌∙◌, ◌+◌, ◌-◌, suc, sym, ap, Bool, arith}
use Rattle.std.specs.List.{list_any}
use Rattle.reg_terms.specs.declared.kinds.Scope.TheVariants.{Sub}
use Rattle.reg_terms.specs.declared.rows.InheritRow.{InheritRow}
use Rattle.reg_facts.specs.Naming.{most_levels}
use Rattle.reg_priv.specs.Filling.{brings}
use Rattle.reg_priv.proofs.Scoped.{over, over_hit, over_on, over_none, over_last}
use Rattle.reg_audit.proofs.held.is_given_above.Goals as goal

-- one on the folder at hand
pub returns-then-is_given : goal.returns-then-is_given
returns-then-is_given c =
    let t : InheritRow → Bool = brings c.args.object.now Sub (c.args.privilege, c.args.holder.now) in
    sym (over_hit (most_levels - c.loop-level._level) c.loop-level.at c.args.facts.now.folders t c.args.facts.now.inherits (sym c.is_given.ensures ∙ c.if-is_given.true)) ∙ c.loop-level.invariant

-- nothing above it
pub returns-in-None : goal.returns-in-None
returns-in-None c =
    let t : InheritRow → Bool = brings c.args.object.now Sub (c.args.privilege, c.args.holder.now) in
    let e : suc (most_levels - (c.loop-level._level + 1)) ≡ most_levels - c.loop-level._level = omega arith in
    sym (over_none _ _ c.loop-level.at c.args.facts.now.folders t c.args.facts.now.inherits e (sym c.parent.ensures ∙ c.in-None.is) (sym c.is_given.ensures ∙ c.if-is_given.false)) ∙ c.loop-level.invariant

-- one folder further up
pub loop-level-preserved : goal.loop-level-preserved
loop-level-preserved c =
    let t : InheritRow → Bool = brings c.args.object.now Sub (c.args.privilege, c.args.holder.now) in
    let e : suc (most_levels - (c.loop-level._level + 1)) ≡ most_levels - c.loop-level._level = omega arith in
    over_on _ _ c.loop-level.at c.in-Some.parent c.args.facts.now.folders t c.args.facts.now.inherits e (sym c.parent.ensures ∙ c.in-Some.is) (sym c.is_given.ensures ∙ c.if-is_given.false) ∙ c.loop-level.invariant

-- the last level
pub returns : goal.returns
returns c =
    let t : InheritRow → Bool = brings c.args.object.now Sub (c.args.privilege, c.args.holder.now) in
    let e : most_levels - c.loop-level._level ≡ 0 = omega arith in
    c.is_given-2.ensures ∙ sym (over_last c.loop-level.at c.args.facts.now.folders t c.args.facts.now.inherits) ∙ ap (λ n. list_any (over n c.loop-level.at c.args.facts.now.folders t) c.args.facts.now.inherits) (sym e) ∙ c.loop-level.invariant
