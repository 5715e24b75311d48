use Rattle.std.proofs.Common.{arith, rules, refl, inl, inr}
use Rattle.std.proofs.lemmas.List.{length-take-le}
use Rattle.reg_session.proofs.Halting.{err_by}
use Rattle.reg_session.proofs.Reading.{early_input, early_output}
use Rattle.reg_asof.specs.Ends.{StopsTelling}
use Rattle.reg_asof.proofs.Telling.{ok_so, err_so, has_none, has_more, tells_all, stops_early, stops_last, stops_piece}
use Rattle.reg_asof.proofs.input.answer_input.Goals as goal

-- nothing was read yet
pub loop-taken-init : goal.loop-taken-init
loop-taken-init g c = record {
  done = has_none c.args.earlier.now _ _ _;
  held = c.start-line.ensures;
  few = omega arith;
  reads = omega arith;
  writes = omega arith;
}

-- one piece more was taken
pub loop-taken-preserved : goal.loop-taken-preserved
loop-taken-preserved g c = record {
  done = has_more c.args.earlier.now _ _ _ _ _ _ _ _ _ _ _ _ c.loop-taken.invariant.done c.in-Ok.ensures.bytes (length-take-le _ _ c.in-Ok.ensures.filled) c.in_ok-line.ensures.fed;
  held = c.loop-taken.invariant.held;
  few = omega (arith, c.in-Ok.ensures.within);
  reads = search rules;
  writes = search rules;
}

-- the input has ended, and all its lines are answered
pub returns-then-count-eq0-clause-told : goal.returns-then-count-eq0-clause-told
returns-then-count-eq0-clause-told g c =
    ok_so _ _ c.finish-last.result c.finish-last.ensures.told
    (λ told. tells_all c.args.earlier.now _ _ _ _ _ _ _ _ _ _ _ c.loop-taken.invariant.done c.loop-taken.invariant.held c.loop-taken-test.true c.in-Ok.ensures.bytes c.if-count-eq0.true (c.in-Ok.ensures.end c.if-count-eq0.true) told)

-- the output failed at the last line
pub returns-then-count-eq0-clause-stopped : goal.returns-then-count-eq0-clause-stopped
returns-then-count-eq0-clause-stopped g c =
    err_so _ _ _ c.finish-last.result c.finish-last.ensures.part c.finish-last.ensures.output
    (λ why part output. stops_last c.args.earlier.now _ _ _ _ _ _ _ _ _ _ _ _ why c.loop-taken.invariant.done c.loop-taken.invariant.held c.loop-taken-test.true c.in-Ok.ensures.bytes c.if-count-eq0.true output.0 part)

-- or at a line of a piece
pub returns-in_err-line-clause-stopped : goal.returns-in_err-line-clause-stopped
returns-in_err-line-clause-stopped g c =
    err_by (λ why. StopsTelling c.args.earlier.now (g.S.Source.left c.args.input.now) (g.S.Source.left c.read_some.new.input) (g.K.Sink.written c.args.out.now) (g.K.Sink.written c.feed.new.out) (g.K.Sink.flushed c.feed.new.out) why)
    c.from_residual.result c.in_err-line.field-0.0 c.from_residual.ensures.1
    (stops_piece c.args.earlier.now _ _ _ _ _ _ _ _ _ _ _ _ c.loop-taken.invariant.done c.loop-taken.invariant.held (omega (arith, c.in-Ok.ensures.within, length-take-le _ _ c.in-Ok.ensures.filled)) c.in-Ok.ensures.bytes c.in_err-line.ensures.output.0
    c.in_err-line.ensures.part)

-- the input failed
pub returns-in-Err-clause-stopped : goal.returns-in-Err-clause-stopped
returns-in-Err-clause-stopped g c =
    stops_early c.args.earlier.now _ _ _ _ _ _ _ _ _ _ _ _ _ _ c.loop-taken.invariant.done c.loop-taken.invariant.held c.loop-taken.invariant.few c.in-Err.ensures.same c.stop_flushed.ensures.same (inl c.in-Err.ensures.input.0) c.stop_flushed.ensures.why

pub returns-in-Err-clause-input : goal.returns-in-Err-clause-input
returns-in-Err-clause-input g c = early_input _ _ _ _ _ _ _ _ c.stop_flushed.ensures.why (λ is. omega (arith, c.in-Err.ensures.input.1, c.loop-taken.invariant.reads))

pub returns-in-Err-clause-output : goal.returns-in-Err-clause-output
returns-in-Err-clause-output g c = early_output _ _ _ _ _ _ _ c.stop_flushed.ensures.why (λ is. let input = c.in-Err.ensures.input.0 in absurd (cc)) c.loop-taken.invariant.writes

-- there was too much of it
pub returns-clause-stopped : goal.returns-clause-stopped
returns-clause-stopped g c =
    stops_early c.args.earlier.now _ _ _ _ _ _ _ _ _ _ _ _ _ _ c.loop-taken.invariant.done c.loop-taken.invariant.held c.loop-taken.invariant.few refl c.stop_flushed-2.ensures.same (inr (refl, c.loop-taken-test.false)) c.stop_flushed-2.ensures.why

pub returns-clause-input : goal.returns-clause-input
returns-clause-input g c = early_input _ _ _ _ _ _ _ _ c.stop_flushed-2.ensures.why (λ is. absurd (cc))

pub returns-clause-output : goal.returns-clause-output
returns-clause-output g c = early_output _ _ _ _ _ _ _ c.stop_flushed-2.ensures.why (λ is. absurd (cc)) c.loop-taken.invariant.writes
