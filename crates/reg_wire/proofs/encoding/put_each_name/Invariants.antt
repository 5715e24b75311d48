use Rattle.std.proofs.Common.{◌≡◌, ◌++◌, take}
use Rattle.std.specs.List.{flat_map}
use Rattle.reg_wire.specs.Fields.{text_bytes}
use Rattle.reg_wire.proofs.encoding.put_each_name.Given as goal

-- the names so far are written
abbrev pub invariant-loop-name : goal.invariant-loop-name
invariant-loop-name l = l.out.items ≡ l.initial.out.items ++ flat_map text_bytes (take l.name-index l.names)
