use Rattle.std.proofs.Common.{arith, refl, List, ℕ, ◌++◌, take}
use Rattle.reg_outside.specs.Faults.{Rose}
use Rattle.reg_service.specs.Marked.{keeps_up_none}
use Rattle.reg_service.specs.Marks.{output_of}
use Rattle.reg_session.specs.Answered.{Point}
use Rattle.reg_session.specs.Replies.{IsLine}
use Rattle.reg_session.specs.Stops.{HaltsKeepingUp}
use Rattle.reg_session.specs.Lines.{lines_from}
use Rattle.reg_session.specs.Pending.{Holds}
use Rattle.reg_session.proofs.Feeding.{feeds_front, feeds_line, stops_first}
use Rattle.reg_session.proofs.Halting.{err_by, err_one}
use Rattle.reg_session.proofs.session.feed_line.Goals as goal

-- no LF stands in the bytes, so they go on with the line
pub returns-then-end-bytes-clause-fed : goal.returns-then-end-bytes-clause-fed
returns-then-end-bytes-clause-fed g c =
    let here : Point = record { written = g.K.Sink.written c.args.out.now; moments = g.C.Clock.moments c.args.clock.now; state = c.args.service.state } in
    feeds_front here c.args.line c.extend-line.result _ c.line_end-end.ensures.before (rw c.split_at.ensures.front at c.extend-line.ensures)

pub returns-then-end-bytes-clause-keeps_up : goal.returns-then-end-bytes-clause-keeps_up
returns-then-end-bytes-clause-keeps_up g c = keeps_up_none g.J.Keeper IsLine _ _ _ _ _ refl refl

pub returns-then-end-bytes-clause-still : goal.returns-then-end-bytes-clause-still
returns-then-end-bytes-clause-still g c = (refl, refl)

pub returns-clause-still : goal.returns-clause-still
returns-clause-still g c = c.in_ok-service.ensures.still

-- the bytes before the LF go on with the line, and the LF ends it
pub returns-clause-fed : goal.returns-clause-fed
returns-clause-fed g c =
    let here : Point = record { written = g.K.Sink.written c.args.out.now; moments = g.C.Clock.moments c.args.clock.now; state = c.args.service.state } in
    let after : Point = record { written = g.K.Sink.written c.answer_line.new.out; moments = g.C.Clock.moments c.answer_line.new.clock; state = c.in_ok-service.service.state } in
    feeds_line here after c.args.line c.extend-line.result c.clear.result c.args.bytes.now c.line_end-end.result (omega (arith, c.line_end-end.ensures.within)) c.line_end-end.ensures.before
    (c.line_end-end.ensures.there (omega (arith, c.line_end-end.ensures.within))) (rw c.split_at.ensures.front at c.extend-line.ensures) c.in_ok-service.ensures.answered c.clear.ensures

-- the line stopped the service
pub returns-in_err-service-clause-keeps_up_to : goal.returns-in_err-service-clause-keeps_up_to
returns-in_err-service-clause-keeps_up_to g c =
    let here : Point = record { written = g.K.Sink.written c.args.out.now; moments = g.C.Clock.moments c.args.clock.now; state = c.args.service.state } in
    let failed : Type 0 = Rose (g.K.Sink.write_faults c.args.out.now) (g.K.Sink.write_faults c.answer_line.new.out) in
    err_by (λ e. (before : List ℕ) → Holds c.args.line before → HaltsKeepingUp g.J.Keeper here c.args.service.keeper (lines_from before c.args.bytes.now) (output_of g.K.Sink c.args.out.now) (output_of g.K.Sink c.answer_line.new.out) failed e.0 e.1)
    c.from_residual.result c.in_err-service.field-0.0 c.from_residual.ensures.1
    (λ before held.
    let extended = rw c.split_at.ensures.front at c.extend-line.ensures in
    let halts = c.in_err-service.ensures.keeps_up_to (before ++ take c.line_end-end.result c.args.bytes.now) (extended before held) in
    let h = halts.0 in (
      (
        h.0,
        stops_first here before c.args.bytes.now c.line_end-end.result _ failed h.0.answered h.0.after _ (omega (arith, c.line_end-end.ensures.within)) c.line_end-end.ensures.before
            (c.line_end-end.ensures.there (omega (arith, c.line_end-end.ensures.within))) h.1,
      ),
      halts.1,
    ))

pub returns-in_err-service-clause-halted : goal.returns-in_err-service-clause-halted
returns-in_err-service-clause-halted g c = err_one _ _ c.from_residual.result (returns-in_err-service-clause-keeps_up_to g c) (λ e halts before held. (halts before held).0)
