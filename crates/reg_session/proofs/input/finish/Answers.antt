use Rattle.std.proofs.Common.{◌∙◌, refl, inl, inr, ◌∷◌, [], List, ℕ}
use Rattle.reg_outside.specs.Faults.{Rose}
use Rattle.reg_service.specs.Marked.{keeps_up_still, part_of_whole}
use Rattle.reg_service.specs.Marks.{WritesAll, output_of}
use Rattle.reg_session.specs.Answered.{Point}
use Rattle.reg_session.specs.Input.{StopsLastKeepingUp}
use Rattle.reg_session.specs.Pending.{Holds}
use Rattle.reg_session.specs.Replies.{IsLine}
use Rattle.reg_session.proofs.Halting.{go_halted, err_by, err_one}
use Rattle.reg_session.proofs.Reading.{stops_behind}
use Rattle.reg_session.proofs.input.finish.Goals as goal

-- the last line was answered
pub returns-in-Ok-clause-answered : goal.returns-in-Ok-clause-answered
returns-in-Ok-clause-answered g c = rw c.flush.ensures.same c.in_ok-service.ensures.answered

pub returns-in-Ok-clause-keeps_up : goal.returns-in-Ok-clause-keeps_up
returns-in-Ok-clause-keeps_up g c = keeps_up_still WritesAll g.J.Keeper IsLine _ _ _ _ _ _ _ c.flush.ensures.same c.flush.ensures.marks refl c.in_ok-service.ensures.keeps_up

pub returns-in-Ok-clause-still : goal.returns-in-Ok-clause-still
returns-in-Ok-clause-still g c = (c.in_ok-service.ensures.still.0, c.in-Ok.ensures.still ∙ c.in_ok-service.ensures.still.1)

-- it wasn't
pub returns-in_err-service-clause-keeps_up_to : goal.returns-in_err-service-clause-keeps_up_to
returns-in_err-service-clause-keeps_up_to g c =
    let here : Point = record { written = g.K.Sink.written c.args.out.now; moments = g.C.Clock.moments c.args.clock.now; state = c.args.service.state } in
    let failed : Type 0 = Rose (g.K.Sink.write_faults c.args.out.now) (g.K.Sink.write_faults c.answer_line.new.out) in
    err_by (λ e. (bytes : List ℕ) → Holds c.args.line.now bytes → StopsLastKeepingUp g.J.Keeper here c.args.service.keeper bytes (output_of g.K.Sink c.args.out.now) (output_of g.K.Sink c.answer_line.new.out) failed e.0 e.1)
    c.from_residual.result c.in_err-service.field-0.0 c.from_residual.ensures.1
    (λ bytes held. let halts = c.in_err-service.ensures.keeps_up_to bytes held in ((halts.0.0, inl halts.0.1), halts.1))

pub returns-in_err-service-clause-halted : goal.returns-in_err-service-clause-halted
returns-in_err-service-clause-halted g c = err_one _ _ c.from_residual.result (returns-in_err-service-clause-keeps_up_to g c) (λ e halts bytes held. (halts bytes held).0)

-- it was, and the output not flushed
pub returns-in-Err-clause-keeps_up_to : goal.returns-in-Err-clause-keeps_up_to
returns-in-Err-clause-keeps_up_to g c bytes held = (
  (
    go_halted g.J.Keeper c.args.service.state.history c.args.service.keeper c.in_ok-service.service c.into_keeper.result c.in_ok-service.ensures.kept c.into_keeper.ensures.keeper c.into_keeper.ensures.fronts
        c.into_keeper.ensures.leaves,
    inr (c.in-Err.ensures.output.0, stops_behind _ _ (bytes ∷ []) _ _ _ (c.in_ok-service.ensures.answered bytes held) c.flush.ensures.same refl refl),
  ),
  part_of_whole g.J.Keeper IsLine _ _ _ _ _ (keeps_up_still WritesAll g.J.Keeper IsLine _ _ _ _ _ _ _ c.flush.ensures.same c.flush.ensures.marks c.into_keeper.ensures.keeper c.in_ok-service.ensures.keeps_up),
)

pub returns-in-Err-clause-halted : goal.returns-in-Err-clause-halted
returns-in-Err-clause-halted g c bytes held = (returns-in-Err-clause-keeps_up_to g c bytes held).0
