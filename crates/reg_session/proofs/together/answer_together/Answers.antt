use Rattle.std.proofs.Common.{◌≡◌, ◌∙◌, ap, arith, refl, inl, inr}
use Rattle.std.proofs.lemmas.List.{length-take-le}
use Rattle.reg_outside.specs.Faults.{Rose}
use Rattle.reg_service.specs.Marked.{keeps_up_none, keeps_up_still, keeps_up_then}
use Rattle.reg_service.specs.Marks.{WritesAll, output_of}
use Rattle.reg_session.specs.Answered.{Point}
use Rattle.reg_session.specs.Together.{StopsTogetherKeepingUp}
use Rattle.reg_session.specs.Replies.{IsLine}
use Rattle.reg_session.proofs.Feeding.{taken_none, taken_more, answers_all}
use Rattle.reg_session.proofs.Halting.{kept_then, go_halted, err_by, err_one, err_so, ok_both, ok_so}
use Rattle.reg_session.proofs.BatchStops.{stops_batch, stops_singly}
use Rattle.reg_session.proofs.Reading.{stops_last, stops_early, early_input, early_output, early_disk, early_much, early_never_much, line_not_much}
use Rattle.reg_session.specs.declared.stop.Stop.TheVariants as stop
use Rattle.reg_session.proofs.together.answer_together.Goals as goal

-- nothing was read yet
pub loop-taken-init : goal.loop-taken-init
loop-taken-init g c = record {
  done = taken_none _ _ _;
  held = c.start-line.ensures;
  few = omega arith;
  reads = omega arith;
  writes = omega arith;
  still = (refl, refl, refl);
  kept = c.stays.ensures;
  keeps_up = keeps_up_none g.J.Keeper IsLine _ _ _ _ _ refl refl;
}

-- one piece more was taken
pub loop-taken-preserved : goal.loop-taken-preserved
loop-taken-preserved g c = record {
  done = taken_more _ _ _ _ _ _ _ _ _ _ _ _ c.loop-taken.invariant.done c.in-Ok.ensures.bytes (length-take-le _ _ c.in-Ok.ensures.filled) c.in_ok-service.ensures.fed;
  held = c.loop-taken.invariant.held;
  few = omega (arith, c.in-Ok.ensures.within);
  reads = omega (arith, c.loop-taken.invariant.reads, c.in-Ok.ensures.still);
  writes = omega (arith, c.loop-taken.invariant.writes, c.in_ok-service.ensures.still.1);
  still = (c.in_ok-service.ensures.still.0 ∙ c.loop-taken.invariant.still.0, c.in_ok-service.ensures.still.1 ∙ c.loop-taken.invariant.still.1, c.in-Ok.ensures.still ∙ c.loop-taken.invariant.still.2);
  kept = kept_then g.J.Keeper _ _ _ _ _ _ c.loop-taken.invariant.kept c.in_ok-service.ensures.kept;
  keeps_up = keeps_up_then g.J.Keeper IsLine _ _ _ _ _ _ _ _ _ c.loop-taken.invariant.kept c.in_ok-service.ensures.kept c.loop-taken.invariant.keeps_up c.in_ok-service.ensures.keeps_up;
}

-- the input has ended, and all its lines are answered
pub returns-then-count-eq0-clause-answered : goal.returns-then-count-eq0-clause-answered
returns-then-count-eq0-clause-answered g c = ok_so _ _ c.finish-last.result c.finish-last.ensures.answered
    (λ to answered. answers_all _ _ _ _ _ _ _ _ _ _ _ c.loop-taken.invariant.done c.loop-taken.invariant.held c.loop-taken-test.true c.in-Ok.ensures.bytes c.if-count-eq0.true (c.in-Ok.ensures.end c.if-count-eq0.true) answered)

pub returns-then-count-eq0-clause-kept : goal.returns-then-count-eq0-clause-kept
returns-then-count-eq0-clause-kept g c = ok_so _ _ c.finish-last.result c.finish-last.ensures.kept (λ to kept. kept_then g.J.Keeper _ _ _ _ _ _ c.loop-taken.invariant.kept kept)

pub returns-then-count-eq0-clause-keeps_up : goal.returns-then-count-eq0-clause-keeps_up
returns-then-count-eq0-clause-keeps_up g c = ok_both _ _ _ c.finish-last.result c.finish-last.ensures.kept c.finish-last.ensures.keeps_up
    (λ to kept keeps_up. keeps_up_then g.J.Keeper IsLine _ _ _ _ _ _ _ _ _ c.loop-taken.invariant.kept kept c.loop-taken.invariant.keeps_up keeps_up)

-- and no count of faults changed
pub returns-then-count-eq0-clause-still : goal.returns-then-count-eq0-clause-still
returns-then-count-eq0-clause-still g c =
    let inv = c.loop-taken.invariant in
    ok_so _ _ c.finish-last.result c.finish-last.ensures.still (λ to still. (still.0 ∙ inv.still.0, still.1 ∙ inv.still.1, c.in-Ok.ensures.still ∙ inv.still.2))

pub returns-then-count-eq0-clause-still_too_much : goal.returns-then-count-eq0-clause-still_too_much
returns-then-count-eq0-clause-still_too_much g c = err_one _ _ c.finish-last.result c.finish-last.ensures.others (λ e others is. absurd (line_not_much e.0 others is))

-- the last line stopped the session
pub returns-then-count-eq0-clause-keeps_up_to : goal.returns-then-count-eq0-clause-keeps_up_to
returns-then-count-eq0-clause-keeps_up_to g c =
    let here : Point = record { written = g.K.Sink.written c.args.out.now; moments = g.C.Clock.moments c.args.clock.now; state = c.args.service.state } in
    err_so _ _ _ c.finish-last.result c.finish-last.ensures.keeps_up_to c.finish-last.ensures.others
    (λ e halted others. stops_singly c.args.most g.J.Keeper here _ _ _ _ _ _ _ _ _ c.requires (stops_last g.J.Keeper here _ _ _ _ _ _ _ _ _ _ _ _ _ _ _ _ _ _ _ c.loop-taken.invariant.done c.loop-taken.invariant.held c.loop-taken.invariant.few c.in-Ok.ensures.bytes c.if-count-eq0.true (c.in-Ok.ensures.end c.if-count-eq0.true)
    c.loop-taken.invariant.kept c.loop-taken.invariant.keeps_up others (λ rose. omega (arith, rose, c.loop-taken.invariant.writes)) halted))

pub returns-then-count-eq0-clause-halted : goal.returns-then-count-eq0-clause-halted
returns-then-count-eq0-clause-halted g c = err_one _ _ c.finish-last.result (returns-then-count-eq0-clause-keeps_up_to g c) (λ e stops. stops.0)

-- a batch of a piece did
pub returns-in_err-service-clause-keeps_up_to : goal.returns-in_err-service-clause-keeps_up_to
returns-in_err-service-clause-keeps_up_to g c =
    let here : Point = record { written = g.K.Sink.written c.args.out.now; moments = g.C.Clock.moments c.args.clock.now; state = c.args.service.state } in
    let faults = g.K.Sink.write_faults in
    let failed : Type 0 = Rose (faults c.loop-taken.out) (faults c.answer_piece.new.out) in
    let wider : Type 0 = Rose (faults c.args.out.now) (faults c.answer_piece.new.out) in
    err_by (λ e. StopsTogetherKeepingUp c.args.most g.J.Keeper here c.args.service.keeper (g.S.Source.left c.args.input.now) (g.S.Source.left c.read_some.new.input) (output_of g.K.Sink c.args.out.now) (output_of g.K.Sink c.answer_piece.new.out) (g.K.Sink.flushed c.answer_piece.new.out) wider e.0 e.1)
    c.from_residual.result c.in_err-service.field-0.0 c.from_residual.ensures.1
    (stops_batch c.args.most g.J.Keeper here _ _ _ _ _ _ _ _ _ _ _ failed wider _ _ _ _ _ c.loop-taken.invariant.done c.loop-taken.invariant.held (omega (arith, c.in-Ok.ensures.within, length-take-le _ _ c.in-Ok.ensures.filled)) c.in-Ok.ensures.bytes
    c.loop-taken.invariant.kept c.loop-taken.invariant.keeps_up (λ rose. omega (arith, rose, c.loop-taken.invariant.writes)) c.in_err-service.ensures.halted)

pub returns-in_err-service-clause-halted : goal.returns-in_err-service-clause-halted
returns-in_err-service-clause-halted g c = err_one _ _ c.from_residual.result (returns-in_err-service-clause-keeps_up_to g c) (λ e stops. stops.0)

pub returns-in_err-service-clause-still_too_much : goal.returns-in_err-service-clause-still_too_much
returns-in_err-service-clause-still_too_much g c =
    let keeps = g.J.Keeper.keep_faults in
    let writes = g.K.Sink.write_faults in
    let reads = g.S.Source.read_faults in
    err_by (λ e. e.0 ≡ stop.TooMuch → (keeps e.1 ≡ keeps c.args.service.keeper) × (writes c.answer_piece.new.out ≡ writes c.args.out.now) × (reads c.read_some.new.input ≡ reads c.args.input.now))
    c.from_residual.result c.in_err-service.field-0.0 c.from_residual.ensures.1 (λ is. absurd (line_not_much _ c.in_err-service.ensures.others is))

-- the input failed
pub returns-in-Err-clause-keeps_up_to : goal.returns-in-Err-clause-keeps_up_to
returns-in-Err-clause-keeps_up_to g c =
    stops_singly c.args.most g.J.Keeper _ _ _ _ _ _ _ _ _ _ c.requires
    (stops_early g.J.Keeper _ _ _ _ _ _ _ _ _ _ _ _ _ _ _ _ _ _ c.loop-taken.invariant.done c.loop-taken.invariant.held c.loop-taken.invariant.few c.in-Err.ensures.same c.stop_at_input.ensures.same
    (go_halted g.J.Keeper c.args.service.state.history c.args.service.keeper c.loop-taken.service c.stop_at_input.result.1 c.loop-taken.invariant.kept c.stop_at_input.ensures.keeper c.stop_at_input.ensures.fronts c.stop_at_input.ensures.leaves) refl refl
    (keeps_up_still WritesAll g.J.Keeper IsLine _ _ _ _ _ _ _ c.stop_at_input.ensures.same c.stop_at_input.ensures.marks c.stop_at_input.ensures.keeper c.loop-taken.invariant.keeps_up)
    (inl c.in-Err.ensures.input.0) c.stop_at_input.ensures.why)

pub returns-in-Err-clause-halted : goal.returns-in-Err-clause-halted
returns-in-Err-clause-halted g c = (returns-in-Err-clause-keeps_up_to g c).0

pub returns-in-Err-clause-input : goal.returns-in-Err-clause-input
returns-in-Err-clause-input g c = early_input _ _ _ _ _ _ _ _ c.stop_at_input.ensures.why (λ is. omega (arith, c.in-Err.ensures.input.1, c.loop-taken.invariant.reads))

pub returns-in-Err-clause-output : goal.returns-in-Err-clause-output
returns-in-Err-clause-output g c = early_output _ _ _ _ _ _ _ c.stop_at_input.ensures.why (λ is. let input = c.in-Err.ensures.input.0 in absurd (cc)) c.loop-taken.invariant.writes

pub returns-in-Err-clause-disk : goal.returns-in-Err-clause-disk
returns-in-Err-clause-disk g c is = absurd (early_disk _ _ _ _ _ _ c.stop_at_input.ensures.why (λ d. let input = c.in-Err.ensures.input.0 in absurd (cc)) is)

pub returns-in-Err-clause-still_too_much : goal.returns-in-Err-clause-still_too_much
returns-in-Err-clause-still_too_much g c is = absurd (early_never_much _ _ _ _ _ _ c.stop_at_input.ensures.why (λ d. let input = c.in-Err.ensures.input.0 in absurd (cc)) is)

-- there was too much of it
pub returns-clause-keeps_up_to : goal.returns-clause-keeps_up_to
returns-clause-keeps_up_to g c =
    stops_singly c.args.most g.J.Keeper _ _ _ _ _ _ _ _ _ _ c.requires
    (stops_early g.J.Keeper _ _ _ _ _ _ _ _ _ _ _ _ _ _ _ _ _ _ c.loop-taken.invariant.done c.loop-taken.invariant.held c.loop-taken.invariant.few refl c.stop_at_input-2.ensures.same
    (go_halted g.J.Keeper c.args.service.state.history c.args.service.keeper c.loop-taken.service c.stop_at_input-2.result.1 c.loop-taken.invariant.kept c.stop_at_input-2.ensures.keeper c.stop_at_input-2.ensures.fronts c.stop_at_input-2.ensures.leaves) refl refl
    (keeps_up_still WritesAll g.J.Keeper IsLine _ _ _ _ _ _ _ c.stop_at_input-2.ensures.same c.stop_at_input-2.ensures.marks c.stop_at_input-2.ensures.keeper c.loop-taken.invariant.keeps_up)
    (inr (refl, c.loop-taken-test.false)) c.stop_at_input-2.ensures.why)

pub returns-clause-halted : goal.returns-clause-halted
returns-clause-halted g c = (returns-clause-keeps_up_to g c).0

pub returns-clause-input : goal.returns-clause-input
returns-clause-input g c = early_input _ _ _ _ _ _ _ _ c.stop_at_input-2.ensures.why (λ is. absurd (cc))

pub returns-clause-output : goal.returns-clause-output
returns-clause-output g c = early_output _ _ _ _ _ _ _ c.stop_at_input-2.ensures.why (λ is. absurd (cc)) c.loop-taken.invariant.writes

pub returns-clause-disk : goal.returns-clause-disk
returns-clause-disk g c is = absurd (early_disk _ _ _ _ _ _ c.stop_at_input-2.ensures.why (λ d. absurd (cc)) is)

pub returns-clause-still_too_much : goal.returns-clause-still_too_much
returns-clause-still_too_much g c is =
    let inv = c.loop-taken.invariant in (
      ap (λ (k : _). g.J.Keeper.keep_faults k) c.stop_at_input-2.ensures.keeper ∙ inv.still.0,
      early_much _ _ _ _ _ _ c.stop_at_input-2.ensures.why is ∙ inv.still.1,
      inv.still.2,
    )
