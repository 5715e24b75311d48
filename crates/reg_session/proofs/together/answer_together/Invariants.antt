use Rattle.std.proofs.Common.{◌≡◌, ◌≤◌, ◌-◌, ◌^◌, []}
use Rattle.reg_service.specs.Kept.{KeptOn}
use Rattle.reg_service.specs.Marks.{KeepsUp, output_of}
use Rattle.reg_session.specs.Input.{HasTaken}
use Rattle.reg_session.specs.Pending.{Holds}
use Rattle.reg_session.specs.Replies.{IsLine}
use Rattle.reg_session.proofs.together.answer_together.Given as goal

-- so many bytes were taken, from the service's state on
abbrev pub invariant-loop-taken : goal.invariant-loop-taken
invariant-loop-taken g l =
    let left = g.S.Source.left in
    let written = g.K.Sink.written in
    let moments = g.C.Clock.moments in
    record {
      done : HasTaken (left l.fn.input) (left l.input) (record { written = written l.fn.out; moments = moments l.fn.clock; state = l.fn.service.state })
          (record { written = written l.out; moments = moments l.clock; state = l.service.state }) l.initial.line l.line l.taken;
      held : Holds l.initial.line [];
      few : l.taken ≤ 2 ^ 32;
      reads : g.S.Source.read_faults l.fn.input ≤ g.S.Source.read_faults l.input;
      writes : g.K.Sink.write_faults l.fn.out ≤ g.K.Sink.write_faults l.out;
      still : (g.J.Keeper.keep_faults l.service.keeper ≡ g.J.Keeper.keep_faults l.fn.service.keeper) × (g.K.Sink.write_faults l.out ≡ g.K.Sink.write_faults l.fn.out) × (g.S.Source.read_faults l.input ≡ g.S.Source.read_faults l.fn.input);
      kept : KeptOn g.J.Keeper l.fn.service.state.history l.fn.service.keeper l.service.state.history l.service.keeper;
      keeps_up : KeepsUp g.J.Keeper IsLine l.fn.service.keeper (output_of g.K.Sink l.fn.out) (output_of g.K.Sink l.out) l.service.state.history l.service.keeper;
    }

abbrev pub decreases-loop-taken : goal.decreases-loop-taken
decreases-loop-taken g l = 2 ^ 32 - l.taken
