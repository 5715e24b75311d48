use Rattle.std.proofs.Common.{◌≡◌, ◌-◌}
use Rattle.std.specs.List.{list_any}
use Rattle.reg_terms.specs.declared.kinds.Scope.TheVariants.{Sub}
use Rattle.reg_facts.specs.Naming.{most_levels}
use Rattle.reg_priv.specs.Filling.{brings}
use Rattle.reg_priv.proofs.Scoped.{over}
use Rattle.reg_audit.proofs.held.is_given_above.Given as goal

-- none so far, so it is one on the way that is left
abbrev pub invariant-loop-level : goal.invariant-loop-level
invariant-loop-level l =
    list_any (over (most_levels - l._level) l.at l.facts.folders (brings l.object Sub (l.privilege, l.holder))) l.facts.inherits
    ≡ list_any (over most_levels l.fn.home l.facts.folders (brings l.object Sub (l.privilege, l.holder))) l.facts.inherits
