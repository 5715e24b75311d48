use Rattle.std.proofs.Common.{◌≡◌, ◌||◌, ◌-◌}
use Rattle.std.specs.List.{list_any}
use Rattle.reg_terms.specs.declared.kinds.Scope.TheVariants.{Sub}
use Rattle.reg_facts.specs.Naming.{most_levels}
use Rattle.reg_priv.specs.Filling.{is_among, brings}
use Rattle.reg_priv.specs.Grants.{Grant}
use Rattle.reg_priv.proofs.Scoped.{over}
use Rattle.reg_priv.proofs.holding.put_above.Given as goal

-- what was put so far and what is on the way that is left are all
abbrev pub invariant-loop-level : goal.invariant-loop-level
invariant-loop-level l = (x : Grant) →
    (is_among x l.found || list_any (over (most_levels - l._level) l.at l.facts.folders (brings l.object Sub x)) l.facts.inherits)
    ≡ (is_among x l.fn.found || list_any (over most_levels l.fn.home l.facts.folders (brings l.object Sub x)) l.facts.inherits)
