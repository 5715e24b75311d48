use Rattle.std.proofs.Common.{◌≡◌, ◌+◌, ◌≤◌, ◌++◌, drop, length}
use Rattle.reg_log.specs.Numbering.{numbered}
use Rattle.reg_log.specs.Stretches.{begun, lines_from}
use Rattle.reg_log.proofs.log.ChangeLog.after.Given as goal

abbrev pub invariant-loop-line : goal.invariant-loop-line
invariant-loop-line l = record { at : l.seq ≡ l.initial.seq + l.line-index; fits : l.initial.seq + length l.lines ≤ l.count; count : l.begun ≡ begun l.seq l.stretches; rest : l.entries.items ++ numbered l.seq (lines_from l.seq l.stretches (drop l.line-index l.lines)) ≡ numbered l.initial.seq (lines_from l.initial.seq l.stretches l.lines) }
