use Rattle.std.proofs.Common.{◌≡◌, ◌++◌}
use Rattle.reg_facts.proofs.assign_map.AssignMap.list.Given as goal

-- the rows so far, and those that are left, are all
abbrev pub invariant-loop-row : goal.invariant-loop-row
invariant-loop-row l = l.listed.items ++ l.row-iterator ≡ l.initial.row-iterator
