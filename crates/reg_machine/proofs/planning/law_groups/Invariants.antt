use Rattle.std.proofs.Common.{drop}
use Rattle.reg_machine.specs.Loads.{AreGroupsNamed}
use Rattle.reg_machine.proofs.planning.law_groups.Given as goal

-- where the groups of the rest have names, all have
abbrev pub invariant-loop-row : goal.invariant-loop-row
invariant-loop-row l = AreGroupsNamed (drop l.row-index l.rows) → AreGroupsNamed l.rows
