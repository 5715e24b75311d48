use Rattle.std.proofs.Common.{◌≡◌, ◌||◌, ◌∙◌, ◌+◌, ◌-◌, suc, sym, ap, arith, Bool}
use Rattle.std.specs.List.{list_any}
use Rattle.reg_terms.specs.declared.kinds.Scope.TheVariants.{Sub}
use Rattle.reg_terms.specs.declared.rows.InheritRow.{InheritRow}
use Rattle.reg_facts.specs.Naming.{most_levels}
use Rattle.reg_priv.specs.Filling.{is_among, brings}
use Rattle.reg_priv.proofs.Gathering.{grouped}
use Rattle.reg_priv.proofs.Scoped.{here, over, at_top, at_level, at_last}
use Rattle.reg_priv.proofs.holding.put_above.Goals as goal

-- nothing above it
pub returns-in-None : goal.returns-in-None
returns-in-None c =
    let e : suc (most_levels - (c.loop-level._level + 1)) ≡ most_levels - c.loop-level._level = omega arith in
    λ x. c.in_ok-put_here.ensures x ∙ (ap (λ b. is_among x c.loop-level.found || b) (at_top _ _ c.loop-level.at c.args.facts.now.folders (brings c.args.object.now Sub x) c.args.facts.now.inherits e (sym c.parent.ensures ∙ c.in-None.is)) ∙ c.loop-level.invariant x)

-- one folder further up
pub loop-level-preserved : goal.loop-level-preserved
loop-level-preserved c =
    let e : suc (most_levels - (c.loop-level._level + 1)) ≡ most_levels - c.loop-level._level = omega arith in
    λ x.
    let t : InheritRow → Bool = brings c.args.object.now Sub x in
    grouped (is_among x c.put_here.new.found) (is_among x c.loop-level.found) (list_any (here c.loop-level.at t) c.args.facts.now.inherits) (list_any (over (most_levels - (c.loop-level._level + 1)) c.in-Some.parent c.args.facts.now.folders t) c.args.facts.now.inherits) (c.in_ok-put_here.ensures x)
    ∙ (ap (λ b. is_among x c.loop-level.found || b) (at_level _ _ c.loop-level.at c.in-Some.parent c.args.facts.now.folders t c.args.facts.now.inherits e (sym c.parent.ensures ∙ c.in-Some.is)) ∙ c.loop-level.invariant x)

-- the last level
pub returns : goal.returns
returns c =
    let e : most_levels - c.loop-level._level ≡ 0 = omega arith in
    λ x. c.in_ok-put_here-2.ensures x ∙ (ap (λ b. is_among x c.loop-level.found || b) (at_last (most_levels - c.loop-level._level) c.loop-level.at c.args.facts.now.folders (brings c.args.object.now Sub x) c.args.facts.now.inherits e) ∙ c.loop-level.invariant x)
