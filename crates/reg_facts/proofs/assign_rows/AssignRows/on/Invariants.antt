use Rattle.std.proofs.Common.{◌≡◌, ◌++◌}
use Rattle.reg_facts.proofs.AssignedRows.{rows_for}
use Rattle.reg_facts.proofs.assign_rows.AssignRows.on.Given as goal

-- the rows so far, and those of the keys that are left, are all
abbrev pub invariant-loop-key : goal.invariant-loop-key
invariant-loop-key l = l.found.items ++ rows_for l.self l.key-iterator ≡ rows_for l.self l.initial.key-iterator
