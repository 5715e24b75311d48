use Rattle.std.proofs.Common.{◌≤◌, ◌-◌, ◌^◌, []}
use Rattle.reg_session.specs.Pending.{Holds}
use Rattle.reg_asof.specs.Ends.{HasTold}
use Rattle.reg_asof.proofs.input.answer_input.Given as goal

-- so many bytes were taken, and the lines that they end were answered
abbrev pub invariant-loop-taken : goal.invariant-loop-taken
invariant-loop-taken g l =
    let left = g.S.Source.left in
    let written = g.K.Sink.written in
    record {
      done : HasTold l.earlier (left l.fn.input) (left l.input) (written l.fn.out) (written l.out) l.initial.line l.line l.taken;
      held : Holds l.initial.line [];
      few : l.taken ≤ 2 ^ 32;
      reads : g.S.Source.read_faults l.fn.input ≤ g.S.Source.read_faults l.input;
      writes : g.K.Sink.write_faults l.fn.out ≤ g.K.Sink.write_faults l.out;
    }

abbrev pub decreases-loop-taken : goal.decreases-loop-taken
decreases-loop-taken g l = 2 ^ 32 - l.taken
