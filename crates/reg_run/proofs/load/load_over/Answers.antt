use Rattle.std.proofs.Common.{refl, ap, inl, inr, arith, ◌-◌, length, option_map}
use Rattle.reg_keep.specs.JournalWords.{disk_of}
use Rattle.reg_keep.specs.Keeping.{kept_in}
use Rattle.reg_session.specs.Replies.{IsLine}
use Rattle.reg_run.proofs.Crashing.{untouched_same, survives_kept, stops_halted, answered_front}
use Rattle.reg_run.proofs.KeepingUp.{disk_keeps_up, halted_fronts}
use Rattle.reg_run.proofs.Loading.{load_did, load_ends, load_whole}
use Rattle.reg_run.specs.World.{World, world}
use Rattle.reg_run.proofs.load.load_over.Goals as goal

-- the journal didn't open, so the disk was only read
pub returns-in-Err-clause-did : goal.returns-in-Err-clause-did
returns-in-Err-clause-did g c n = inl (record {
  cause = c.in-Err.ensures.cause;
  input = (refl, refl);
  output = (refl, refl, refl);
  clock = refl;
  net = refl;
  disk = untouched_same g.D.Disk c.args.disk c.in-Err.disk c.in-Err.ensures.crash_err (g.met.D.Disk.only_now c.args.disk) c.in-Err.ensures.same_err;
})

-- the job was run, or the input failed
pub returns-in-Ok-clause-did : goal.returns-in-Ok-clause-did
returns-in-Ok-clause-did g c n =
    let from = c.in-Ok.service.state in
    let mid = disk_of c.in-Ok.service.keeper in
    let new = disk_of c.load-end.result.1 in
    let l = c.load-end.ensures.0 in
    let before : World = world g.S.Source g.K.Sink g.D.Disk g.C.Clock c.args.input.now c.args.out.now c.args.disk c.args.clock.now n in
    let after : World = world g.S.Source g.K.Sink g.D.Disk g.C.Clock c.load-end.new.input c.load-end.new.out new c.load-end.new.clock n in
    let h = l.halted in
    rw c.into_disk.ensures (inr (
      from,
      c.in-Ok.ensures.opens,
      record {
        taken = l.taken;
        input = l.input;
        few = l.few;
        accepted = h.kept.more;
        answered = length h.answered - length from.history;
        ends = load_ends from c.args.job.now l.taken before after c.load-end.result.0 h.kept.more (length h.answered - length from.history) h.answered h.after (answered_front from.history h.answered h.after h.kept.more h.kept.grown h.first h.last) h.kept.grown
            (load_did from c.args.job.now l.taken before after c.load-end.result.0 h.answered h.after (λ is. omega (arith, l.disk is, c.in-Ok.ensures.later)) l.ends);
        net = refl;
        disk = survives_kept g.D.Disk from.history h.answered h.after h.kept.more _ c.args.disk mid new c.in-Ok.ensures.crash (g.met.D.Disk.only_now c.args.disk) c.in-Ok.ensures.same (g.met.D.Disk.reads_now new)
            h.kept.grown h.first h.last (load_whole from c.args.job.now l.taken _ _ _ _ _ _ _ c.load-end.result.0 h.answered h.after l.ends) (stops_halted from.history h.answered h.after c.in-Ok.service.keeper c.load-end.result.1 h.kept.crash h.stopped);
        keeps_up = disk_keeps_up _ g.D.Disk IsLine c.in-Ok.service.keeper c.load-end.result.1 c.args.disk new _ _ from.history h.kept.more h.after
            c.load-end.ensures.1 h.kept.grown (halted_fronts _ _ _ _ h) (record { moment = refl; stops = λ t r s. s }) (ap (option_map kept_in) c.in-Ok.ensures.same);
      },
    ))
