use Rattle.std.proofs.Common.{refl, ap, inl, inr, arith, ◌-◌, length, option_map}
use Rattle.reg_keep.specs.JournalWords.{disk_of}
use Rattle.reg_keep.specs.Keeping.{kept_in}
use Rattle.reg_run.proofs.Crashing.{untouched_same, survives_kept, stops_whole, stops_halted, no_shorter, answered_front}
use Rattle.reg_run.proofs.KeepingUp.{halted_fronts, sure_fronts}
use Rattle.reg_run.proofs.Serving.{ceased_whole, serve_ceased, visits_keep_up}
use Rattle.reg_run.proofs.serve.serve_over.Goals as goal

-- the journal didn't open, so the disk was only read
pub returns-in-Err-clause-did : goal.returns-in-Err-clause-did
returns-in-Err-clause-did g c w = inl (record {
  cause = c.in-Err.ensures.cause;
  input = (refl, refl);
  output = (refl, refl, refl);
  clock = refl;
  net = refl;
  disk = untouched_same g.D.Disk c.args.disk c.in-Err.disk c.in-Err.ensures.crash_err (g.met.D.Disk.only_now c.args.disk) c.in-Err.ensures.same_err;
})

-- all were served
pub returns-in-Ok-serve_port-clause-did : goal.returns-in-Ok-serve_port-clause-did
returns-in-Ok-serve_port-clause-did g c w =
    let from = c.in-Ok.service.state in
    let to = c.in-Ok-serve_port.service.state in
    let mid = disk_of c.in-Ok.service.keeper in
    let new = disk_of c.in-Ok-serve_port.service.keeper in
    let k = c.in-Ok-serve_port.ensures.kept in
    inr (
      from,
      c.in-Ok.ensures.opens,
      record {
        accepted = k.more;
        answered = length to.history - length from.history;
        ends = record { last = to; listens = c.in-Ok-serve_port.ensures.port; served = c.in-Ok-serve_port.ensures.served.0; grown = k.grown; opens = c.close.ensures.opens; still = c.in-Ok-serve_port.ensures.still };
        input = (refl, refl);
        output = (refl, refl, refl);
        disk = rw c.close.ensures.disk (survives_kept g.D.Disk from.history to.history to.history k.more 0 c.args.disk mid new c.in-Ok.ensures.crash (g.met.D.Disk.only_now c.args.disk) c.in-Ok.ensures.same (g.met.D.Disk.reads_now new)
            k.grown (no_shorter from.history to.history k.more k.grown) (inl refl) (λ is. refl)
            (stops_whole from.history to.history c.in-Ok.service.keeper c.in-Ok-serve_port.service.keeper k.crash c.close.ensures.again (rw c.close.ensures.disk at c.close.ensures.images)));
        keeps_up = rw c.close.ensures.disk (visits_keep_up _ g.D.Disk c.in-Ok.service.keeper c.in-Ok-serve_port.service.keeper c.args.disk new _ _ c.in-Ok-serve_port.ensures.served.0.visits from.history k.more to.history
            c.in-Ok-serve_port.ensures.served.1 c.in-Ok-serve_port.ensures.served.0.told k.grown (sure_fronts _ to.history c.close.ensures.again) (record { moment = refl; stops = λ t r s. s }) (ap (option_map kept_in) c.in-Ok.ensures.same));
      },
    )

-- serving ceased
pub returns-in-Err-serve_port-clause-did : goal.returns-in-Err-serve_port-clause-did
returns-in-Err-serve_port-clause-did g c w =
    let from = c.in-Ok.service.state in
    let mid = disk_of c.in-Ok.service.keeper in
    let new = disk_of c.in-Err-serve_port.keeper in
    let s = c.in-Err-serve_port.ensures.ceased.0 in
    let h = s.halted in
    rw (c.into_disk.ensures, c.end_of_serve.ensures) (inr (
      from,
      c.in-Ok.ensures.opens,
      record {
        accepted = h.kept.more;
        answered = length h.answered - length from.history;
        ends = serve_ceased c.in-Err-serve_port.ceased from c.args.port c.args.connections _ _ h.kept.more (length h.answered - length from.history) h.answered h.after c.in-Err-serve_port.ensures.listener
            (λ is. omega (arith, c.in-Err-serve_port.ensures.disk is, c.in-Ok.ensures.later)) (answered_front from.history h.answered h.after h.kept.more h.kept.grown h.first h.last) h.kept.grown
            (record { visits = s.visits; listens = c.in-Err-serve_port.ensures.ceased.1; told = s.told; few = s.few; ends = s.ends });
        input = (refl, refl);
        output = (refl, refl, refl);
        disk = survives_kept g.D.Disk from.history h.answered h.after h.kept.more _ c.args.disk mid new c.in-Ok.ensures.crash (g.met.D.Disk.only_now c.args.disk) c.in-Ok.ensures.same (g.met.D.Disk.reads_now new)
            h.kept.grown h.first h.last (ceased_whole c.in-Err-serve_port.ceased from _ s.visits _ h.answered h.after s.ends) (stops_halted from.history h.answered h.after c.in-Ok.service.keeper c.in-Err-serve_port.keeper h.kept.crash h.stopped);
        keeps_up = visits_keep_up _ g.D.Disk c.in-Ok.service.keeper c.in-Err-serve_port.keeper c.args.disk new _ _ s.visits from.history h.kept.more h.after
            c.in-Err-serve_port.ensures.ceased.2 s.told h.kept.grown (halted_fronts _ _ _ _ h) (record { moment = refl; stops = λ t r s. s }) (ap (option_map kept_in) c.in-Ok.ensures.same);
      },
    ))
