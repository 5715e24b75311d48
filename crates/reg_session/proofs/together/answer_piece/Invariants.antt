use Rattle.std.proofs.Common.{◌≡◌, ◌≤◌, ◌-◌, length, take}
use Rattle.reg_session.specs.Answered.{Feeds}
use Rattle.reg_service.specs.Kept.{KeptOn}
use Rattle.reg_service.specs.Marks.{KeepsUp, output_of}
use Rattle.reg_session.specs.Replies.{IsLine}
use Rattle.reg_session.proofs.together.answer_piece.Given as goal

-- the bytes up to a place were taken
abbrev pub invariant-loop-at : goal.invariant-loop-at
invariant-loop-at g l =
    let written = g.K.Sink.written in
    let moments = g.C.Clock.moments in
    let faults = g.K.Sink.write_faults in
    record {
      fed : Feeds (record { written = written l.fn.out; moments = moments l.fn.clock; state = l.fn.service.state }) l.fn.line (take l.at l.piece)
          (record { written = written l.out; moments = moments l.clock; state = l.service.state }) l.line;
      within : l.at ≤ length l.piece;
      count : faults l.fn.out ≤ faults l.out;
      still : (g.J.Keeper.keep_faults l.service.keeper ≡ g.J.Keeper.keep_faults l.fn.service.keeper) × (faults l.out ≡ faults l.fn.out);
      kept : KeptOn g.J.Keeper l.fn.service.state.history l.fn.service.keeper l.service.state.history l.service.keeper;
      keeps_up : KeepsUp g.J.Keeper IsLine l.fn.service.keeper (output_of g.K.Sink l.fn.out) (output_of g.K.Sink l.out) l.service.state.history l.service.keeper;
    }

abbrev pub decreases-loop-at : goal.decreases-loop-at
decreases-loop-at g l = length l.piece - l.at
