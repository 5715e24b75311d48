use Rattle.std.proofs.Common.{◌≡◌, take}
use Rattle.reg_report.specs.BatchLines.{op_lines}
use Rattle.reg_report.proofs.batch_line.op_lines.Given as goal

-- the lines of the operations so far
abbrev pub invariant-loop-op : goal.invariant-loop-op
invariant-loop-op l = l.bytes.items ≡ op_lines l.facts.subjects (take l.op-index l.ops)
