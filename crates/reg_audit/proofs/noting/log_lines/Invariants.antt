use Rattle.std.proofs.Common.{◌≡◌, ◌++◌, drop}
use Rattle.reg_audit.proofs.noting.log_lines.Given as goal

abbrev pub invariant-loop-line : goal.invariant-loop-line
invariant-loop-line l = l.log ++ drop l.line-index l.lines ≡ l.fn.log ++ l.lines
