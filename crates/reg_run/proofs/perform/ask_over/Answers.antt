use Rattle.std.proofs.Common.{refl, sym, inl, inr, append-nil, []}
use Rattle.reg_keep.specs.JournalWords.{disk_of}
use Rattle.reg_run.proofs.Crashing.{untouched_same, survives_kept, survives_none, stops_whole, no_shorter}
use Rattle.reg_run.proofs.Ending.{asked_ends}
use Rattle.reg_run.proofs.Opened.{image_opens}
use Rattle.reg_run.proofs.perform.ask_over.Goals as goal

-- the journal didn't open, so the disk was only read
pub returns-in-Err-clause-did : goal.returns-in-Err-clause-did
returns-in-Err-clause-did g c w = inl (record {
  cause = c.in-Err.ensures.cause;
  input = (refl, refl);
  output = (refl, refl, refl);
  clock = refl;
  net = refl;
  disk = untouched_same g.D.Disk c.args.disk c.in-Err.disk c.in-Err.ensures.crash_err (g.met.D.Disk.only_now c.args.disk) c.in-Err.ensures.same_err;
})

-- the query was answered at the history that the file opens to, and nothing was added
pub returns-in-Ok-clause-did : goal.returns-in-Ok-clause-did
returns-in-Ok-clause-did g c w =
    let from = c.in-Ok.service.state in
    let new = disk_of c.in-Ok.service.keeper in
    let same = sym (append-nil from.history) in
    rw (c.into_disk.ensures, c.ask-end.ensures.same) (inr (
      from,
      c.in-Ok.ensures.opens,
      record {
        ends = asked_ends _ c.ask-end.result.0 _ _ c.ask-end.ensures.asked;
        input = (refl, refl);
        clock = c.ask-end.ensures.clock;
        net = refl;
        same = untouched_same g.D.Disk c.args.disk new c.in-Ok.ensures.crash (g.met.D.Disk.only_now c.args.disk) c.in-Ok.ensures.same;
        disk = survives_none g.D.Disk from.history _ _ c.args.disk new (survives_kept g.D.Disk from.history from.history from.history [] _ c.args.disk new new c.in-Ok.ensures.crash (g.met.D.Disk.only_now c.args.disk) c.in-Ok.ensures.same (g.met.D.Disk.reads_now new)
            same (no_shorter from.history from.history [] same) (inl refl) (λ is. refl)
            (stops_whole from.history from.history c.in-Ok.service.keeper c.in-Ok.service.keeper c.stays.ensures.crash c.law_stops.ensures.fronts
            (image_opens (g.D.Disk.may_leave new) from.history c.law_stops.ensures.fronts c.law_stops.ensures.leaves)));
      },
    ))
