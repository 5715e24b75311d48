use Rattle.std.proofs.Common.{◌≡◌, take}
use Rattle.std.specs.List.{list_all}
use Rattle.reg_json.specs.Arrays.{is_plain}
use Rattle.reg_json.proofs.array.is_plain.Given as goal

-- whether the bytes so far do
abbrev pub invariant-loop-byte : goal.invariant-loop-byte
invariant-loop-byte l = l.plain ≡ list_all is_plain (take l.byte-index l.bytes)
