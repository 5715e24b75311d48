use Rattle.std.proofs.Common.{◌≡◌, ◌∙◌, ◌+◌, ◌-◌, suc, sym, ap, Bool, arith}
use Rattle.std.specs.List.{list_any}
use Rattle.reg_terms.specs.declared.kinds.Scope.TheVariants.{Sub}
use Rattle.reg_terms.specs.declared.rows.InheritRow.{InheritRow}
use Rattle.reg_facts.specs.Naming.{most_levels}
use Rattle.reg_priv.specs.Lending.{lends}
use Rattle.reg_priv.proofs.Scoped.{over, over_hit, over_on, over_none, over_last}
use Rattle.reg_priv.proofs.climbing.any_above.Goals as goal

-- one on the folder at hand
pub returns-then-any_here : goal.returns-then-any_here
returns-then-any_here g c =
    let t : InheritRow → Bool = lends (g.K.Kept.held c.args.kept.now) c.args.who.now c.args.wanted c.args.object.now Sub in
    sym (over_hit (most_levels - c.loop-level._level) c.loop-level.at c.args.facts.now.folders t c.args.facts.now.inherits (sym c.any_here.ensures ∙ c.if-any_here.true)) ∙ c.loop-level.invariant

-- nothing above it
pub returns-in-None : goal.returns-in-None
returns-in-None g c =
    let t : InheritRow → Bool = lends (g.K.Kept.held c.args.kept.now) c.args.who.now c.args.wanted c.args.object.now Sub in
    let e : suc (most_levels - (c.loop-level._level + 1)) ≡ most_levels - c.loop-level._level = omega arith in
    sym (over_none _ _ c.loop-level.at c.args.facts.now.folders t c.args.facts.now.inherits e (sym c.parent.ensures ∙ c.in-None.is) (sym c.any_here.ensures ∙ c.if-any_here.false)) ∙ c.loop-level.invariant

-- one folder further up
pub loop-level-preserved : goal.loop-level-preserved
loop-level-preserved g c =
    let t : InheritRow → Bool = lends (g.K.Kept.held c.args.kept.now) c.args.who.now c.args.wanted c.args.object.now Sub in
    let e : suc (most_levels - (c.loop-level._level + 1)) ≡ most_levels - c.loop-level._level = omega arith in
    over_on _ _ c.loop-level.at c.in-Some.parent c.args.facts.now.folders t c.args.facts.now.inherits e (sym c.parent.ensures ∙ c.in-Some.is) (sym c.any_here.ensures ∙ c.if-any_here.false) ∙ c.loop-level.invariant

-- the last level
pub returns : goal.returns
returns g c =
    let t : InheritRow → Bool = lends (g.K.Kept.held c.args.kept.now) c.args.who.now c.args.wanted c.args.object.now Sub in
    let e : most_levels - c.loop-level._level ≡ 0 = omega arith in
    c.any_here-2.ensures ∙ sym (over_last c.loop-level.at c.args.facts.now.folders t c.args.facts.now.inherits) ∙ ap (λ n. list_any (over n c.loop-level.at c.args.facts.now.folders t) c.args.facts.now.inherits) (sym e) ∙ c.loop-level.invariant
