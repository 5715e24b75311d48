use Rattle.std.proofs.Common.{◌≡◌, ◌+◌, ◌≤◌, ◌++◌, decimal, drop, length}
use Rattle.reg_run.proofs.status.put_digits.Given as goal

-- the last digits are put
abbrev pub invariant-loop-left : goal.invariant-loop-left
invariant-loop-left l =
    (l.at ≤ l.end) × (length l.buffer ≡ 32) × (l.at + length (decimal l.number) ≡ l.end + length (decimal l.left)) × (decimal l.left ++ drop l.at l.buffer ≡ decimal l.number ++ drop l.end l.fn.buffer)

abbrev pub decreases-loop-left : goal.decreases-loop-left
decreases-loop-left l = l.left
