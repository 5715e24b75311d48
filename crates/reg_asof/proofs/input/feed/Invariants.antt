use Rattle.std.proofs.Common.{◌≤◌, ◌-◌, length, take}
use Rattle.reg_asof.specs.Ends.{Tells}
use Rattle.reg_asof.proofs.input.feed.Given as goal

-- the bytes up to a place were taken
abbrev pub invariant-loop-at : goal.invariant-loop-at
invariant-loop-at g l =
    let written = g.K.Sink.written in
    let faults = g.K.Sink.write_faults in
    record {
      fed : Tells l.earlier l.fn.line (take l.at l.piece) l.line (written l.fn.out) (written l.out);
      within : l.at ≤ length l.piece;
      count : faults l.fn.out ≤ faults l.out;
    }

abbrev pub decreases-loop-at : goal.decreases-loop-at
decreases-loop-at g l = length l.piece - l.at
