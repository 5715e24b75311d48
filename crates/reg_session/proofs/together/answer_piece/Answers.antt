use Rattle.std.proofs.Common.{◌∙◌, arith, refl, length-drop, take-append-drop, List, ℕ, take, drop}
use Rattle.std.proofs.lemmas.List.{take_all}
use Rattle.reg_outside.specs.Faults.{Rose}
use Rattle.reg_service.specs.Marked.{keeps_up_none, keeps_up_then, part_keeps_up_then}
use Rattle.reg_service.specs.Marks.{output_of}
use Rattle.reg_session.specs.Answered.{Point}
use Rattle.reg_session.specs.Lines.{lines_from, pending_from}
use Rattle.reg_session.specs.Pending.{Holds}
use Rattle.reg_session.specs.Replies.{IsLine}
use Rattle.reg_session.specs.Together.{HaltsTogether}
use Rattle.reg_session.proofs.Answering.{answered_none}
use Rattle.reg_session.proofs.BatchStops.{batch_from, batch_wider, halted_by_then}
use Rattle.reg_session.proofs.Feeding.{feeds_from}
use Rattle.reg_session.proofs.Halting.{kept_then, err_by}
use Rattle.reg_session.proofs.together.answer_piece.Goals as goal

-- no byte was taken yet
pub loop-at-init : goal.loop-at-init
loop-at-init g c =
    let here : Point = record { written = g.K.Sink.written c.args.out.now; moments = g.C.Clock.moments c.args.clock.now; state = c.args.service.state } in
    record {
      fed = λ line held. (held, answered_none here);
      within = omega arith;
      count = omega arith;
      still = (refl, refl);
      kept = c.stays.ensures;
      keeps_up = keeps_up_none g.J.Keeper IsLine _ _ _ _ _ refl refl;
    }

-- the bytes of one batch more were taken
pub loop-at-preserved : goal.loop-at-preserved
loop-at-preserved g c =
    let rest : _ = rw c.split_at.ensures.back at c.in_ok-service.ensures.within in
    record {
      fed = feeds_from _ _ _ c.args.line c.loop-at.line c.in_ok-service.field-0-1 c.args.piece.now c.loop-at.at c.in_ok-service.field-0-2 c.loop-at.invariant.fed (rw c.split_at.ensures.back at c.in_ok-service.ensures.fed);
      within = omega (arith, rest, length-drop c.loop-at.at c.args.piece.now);
      count = omega (arith, c.loop-at.invariant.count, c.in_ok-service.ensures.still.1);
      still = (c.in_ok-service.ensures.still.0 ∙ c.loop-at.invariant.still.0, c.in_ok-service.ensures.still.1 ∙ c.loop-at.invariant.still.1);
      kept = kept_then g.J.Keeper _ _ _ _ _ _ c.loop-at.invariant.kept c.in_ok-service.ensures.kept;
      keeps_up = keeps_up_then g.J.Keeper IsLine _ _ _ _ _ _ _ _ _ c.loop-at.invariant.kept c.in_ok-service.ensures.kept c.loop-at.invariant.keeps_up c.in_ok-service.ensures.keeps_up;
    }

-- a batch stopped the session
pub returns-in_err-service-clause-halted : goal.returns-in_err-service-clause-halted
returns-in_err-service-clause-halted g c =
    let here : Point = record { written = g.K.Sink.written c.args.out.now; moments = g.C.Clock.moments c.args.clock.now; state = c.args.service.state } in
    let faults = g.K.Sink.write_faults in
    let failed : Type 0 = Rose (faults c.loop-at.out) (faults c.answer_batch.new.out) in
    let wider : Type 0 = Rose (faults c.args.out.now) (faults c.answer_batch.new.out) in
    err_by
    (λ e. (before : List ℕ) → Holds c.args.line before
    → HaltsTogether c.args.most g.J.Keeper here c.args.service.keeper (lines_from before c.args.piece.now) (output_of g.K.Sink c.args.out.now) (output_of g.K.Sink c.answer_batch.new.out) wider e.0 e.1)
    c.from_residual.result c.in_err-service.field-0.0 c.from_residual.ensures.1
    (λ before held.
    let fed = c.loop-at.invariant.fed before held in
    let halted = rw c.split_at.ensures.back at c.in_err-service.ensures.halted in
    let halts = halted (pending_from before (take c.loop-at.at c.args.piece.now)) fed.0 in
    let h = halts.0 in
    let stops = batch_wider c.args.most _ _ _ failed wider h.0.answered h.0.after _ (λ rose. omega (arith, rose, c.loop-at.invariant.count)) h.1 in (
      (
        halted_by_then c.args.most g.J.Keeper _ _ _ _ _ c.loop-at.invariant.kept h.0,
        rw take-append-drop at (batch_from c.args.most here _ before (take c.loop-at.at c.args.piece.now) (drop c.loop-at.at c.args.piece.now) _ wider h.0.answered h.0.after _ fed.1 stops),
      ),
      part_keeps_up_then g.J.Keeper IsLine _ _ _ _ _ _ _ _ _ c.loop-at.invariant.kept h.0.kept c.loop-at.invariant.keeps_up halts.1,
    ))

-- all bytes were taken
pub returns-clause-still : goal.returns-clause-still
returns-clause-still g c = c.loop-at.invariant.still

pub returns-clause-fed : goal.returns-clause-fed
returns-clause-fed g c = rw (take_all c.loop-at.at c.args.piece.now (omega (arith, c.loop-at-test.false))) at c.loop-at.invariant.fed
