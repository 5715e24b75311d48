use Rattle.std.proofs.Common.{◌≡◌, ◌++◌, take}
use Rattle.std.specs.List.{flat_map}
use Rattle.reg_wire.specs.Fields.{load_row_bytes}
use Rattle.reg_wire.proofs.encoding.put_each_row.Given as goal

-- the rows so far are written
abbrev pub invariant-loop-row : goal.invariant-loop-row
invariant-loop-row l = l.out.items ≡ l.initial.out.items ++ flat_map load_row_bytes (take l.row-index l.rows)
