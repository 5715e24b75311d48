use Rattle.std.proofs.Common.{◌∙◌, refl, ap, inl, inr, arith, ◌-◌, length, option_map}
use Rattle.reg_keep.specs.JournalWords.{disk_of}
use Rattle.reg_keep.specs.Keeping.{kept_in}
use Rattle.reg_service.specs.Marked.{part_of_whole}
use Rattle.reg_session.specs.Input.{EndsInput}
use Rattle.reg_session.specs.Replies.{IsLine}
use Rattle.reg_run.proofs.Crashing.{untouched_same, survives_kept, stops_whole, stops_halted, no_shorter, answered_front}
use Rattle.reg_run.specs.Ends.{end_of_stop}
use Rattle.reg_run.specs.declared.status.End.TheVariants as the_end
use Rattle.reg_run.proofs.KeepingUp.{disk_keeps_up, halted_fronts, sure_fronts}
use Rattle.reg_run.proofs.Ending.{whole_stop, apply_stopped, did_answer, input_takes, stop_too_much}
use Rattle.reg_run.proofs.perform.apply_over.Goals as goal

-- the journal didn't open, so the disk was only read
pub returns-in-Err-clause-did : goal.returns-in-Err-clause-did
returns-in-Err-clause-did g c n = inl (record {
  cause = c.in-Err.ensures.cause;
  input = (refl, refl);
  output = (refl, refl, refl);
  clock = refl;
  net = refl;
  disk = untouched_same g.D.Disk c.args.disk c.in-Err.disk c.in-Err.ensures.crash_err (g.met.D.Disk.only_now c.args.disk) c.in-Err.ensures.same_err;
})

-- all lines were answered
pub returns-in-Ok-answer_input-clause-did : goal.returns-in-Ok-answer_input-clause-did
returns-in-Ok-answer_input-clause-did g c n =
    let from = c.in-Ok.service.state in
    let to = c.in-Ok-answer_input.service.state in
    let mid = disk_of c.in-Ok.service.keeper in
    let new = disk_of c.in-Ok-answer_input.service.keeper in
    let k = c.in-Ok-answer_input.ensures.kept in
    let a = c.in-Ok-answer_input.ensures.answered in
    let still = c.in-Ok-answer_input.ensures.still in
    inr (
      from,
      c.in-Ok.ensures.opens,
      did_answer 1 EndsInput input_takes _ the_end.Done _ _ from a.taken a.input (omega (arith, a.few)) a.cut a.accepted (length to.history - length from.history) refl (λ is. absurd (cc))
          (record { to = _; all = a.all; written = refl; moments = refl; flushed = c.in-Ok-answer_input.ensures.flushed; ended = a.ended; few = a.few; opens = c.close.ensures.opens; still = (still.2, still.1, ap (λ (d : _). g.D.Disk.faults d) c.close.ensures.disk ∙ (still.0 ∙ c.in-Ok.ensures.still)) })
          (rw c.close.ensures.disk (survives_kept g.D.Disk from.history to.history to.history a.accepted 0 c.args.disk mid new c.in-Ok.ensures.crash (g.met.D.Disk.only_now c.args.disk) c.in-Ok.ensures.same (g.met.D.Disk.reads_now new)
          a.all.grown (no_shorter from.history to.history a.accepted a.all.grown) (inl refl) (λ is. refl)
          (stops_whole from.history to.history c.in-Ok.service.keeper c.in-Ok-answer_input.service.keeper k.crash c.close.ensures.again (rw c.close.ensures.disk at c.close.ensures.images))))
          (rw c.close.ensures.disk (disk_keeps_up _ g.D.Disk IsLine c.in-Ok.service.keeper c.in-Ok-answer_input.service.keeper c.args.disk new _ _ from.history a.accepted to.history
          (part_of_whole _ _ _ _ _ _ _ c.in-Ok-answer_input.ensures.keeps_up) a.all.grown (sure_fronts _ to.history c.close.ensures.again) (record { moment = refl; stops = λ t r s. s }) (ap (option_map kept_in) c.in-Ok.ensures.same))),
    )

-- the session stopped
pub returns-in-Err-answer_input-clause-did : goal.returns-in-Err-answer_input-clause-did
returns-in-Err-answer_input-clause-did g c n =
    let from = c.in-Ok.service.state in
    let mid = disk_of c.in-Ok.service.keeper in
    let new = disk_of c.in-Err-answer_input.keeper in
    let s = c.in-Err-answer_input.ensures.keeps_up_to.0 in
    let h = s.halted in
    rw (c.into_disk.ensures, c.end_of_stop.ensures) (inr (
      from,
      c.in-Ok.ensures.opens,
      did_answer 1 EndsInput input_takes _ (end_of_stop c.in-Err-answer_input.stop) _ _ from s.taken s.input s.few s.cut h.kept.more (length h.answered - length from.history) refl
          (λ is. let still = c.in-Err-answer_input.ensures.still_too_much (stop_too_much c.in-Err-answer_input.stop is) in (still.2, still.1, still.0 ∙ c.in-Ok.ensures.still))
          (apply_stopped EndsInput c.in-Err-answer_input.stop from s.taken _ _ h.kept.more (length h.answered - length from.history) h.answered h.after c.in-Err-answer_input.ensures.input c.in-Err-answer_input.ensures.output
          (λ is. omega (arith, c.in-Err-answer_input.ensures.disk is, c.in-Ok.ensures.later)) (answered_front from.history h.answered h.after h.kept.more h.kept.grown h.first h.last) h.kept.grown s.ends)
          (survives_kept g.D.Disk from.history h.answered h.after h.kept.more _ c.args.disk mid new c.in-Ok.ensures.crash (g.met.D.Disk.only_now c.args.disk) c.in-Ok.ensures.same (g.met.D.Disk.reads_now new)
          h.kept.grown h.first h.last (whole_stop _ _ _ _ _ _ _ _ _ _ s) (stops_halted from.history h.answered h.after c.in-Ok.service.keeper c.in-Err-answer_input.keeper h.kept.crash h.stopped))
          (disk_keeps_up _ g.D.Disk IsLine c.in-Ok.service.keeper c.in-Err-answer_input.keeper c.args.disk new _ _ from.history h.kept.more h.after
          c.in-Err-answer_input.ensures.keeps_up_to.1 h.kept.grown (halted_fronts _ _ _ _ h) (record { moment = refl; stops = λ t r s. s }) (ap (option_map kept_in) c.in-Ok.ensures.same)),
    ))
