use Rattle.std.proofs.Common.{◌≡◌, ◌++◌}
use Rattle.reg_table.proofs.table.Table.rows.Given as goal

-- the rows so far, and those that are left, are all
abbrev pub invariant-loop-row : goal.invariant-loop-row
invariant-loop-row g l = l.rows.items ++ l.row-iterator ≡ l.initial.row-iterator
