use Rattle.std.proofs.Common.{◌≡◌, map}
use Rattle.reg_table.proofs.Written.{written, plain}
use Rattle.reg_table.proofs.table.Table.stamped.Given as goal

-- what is written with those that are left is what all write
abbrev pub invariant-loop-stamped : goal.invariant-loop-stamped
invariant-loop-stamped g l = written (map plain l.found.entries) l.stamped-iterator ≡ written (map plain l.initial.found.entries) l.initial.stamped-iterator
