use Rattle.std.proofs.Common.{◌-◌}
use Rattle.reg_facts.specs.Naming.{most_levels}
use Rattle.reg_edit.proofs.Creating.{Gathered}
use Rattle.reg_edit.proofs.creation.creation_grants.Given as goal

-- what was found so far, and what is above, is all
abbrev pub invariant-loop-level : goal.invariant-loop-level
invariant-loop-level l = Gathered l.group l.fn.home l.facts.folders l.facts.rules (most_levels - l._level) l.above l.found.entries
