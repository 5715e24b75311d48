use Rattle.std.proofs.Common.{refl, inl, inr, arith, ◌-◌, length}
use Rattle.reg_keep.specs.JournalWords.{disk_of}
use Rattle.reg_service.specs.Turn.{at_moment}
use Rattle.reg_run.proofs.Crashing.{untouched_same, survives_kept, stops_halted, answered_front}
use Rattle.reg_run.proofs.Providing.{provides_all, provides_ends, provides_moves, provides_whole}
use Rattle.reg_run.specs.World.{out_of}
use Rattle.reg_run.proofs.provision.provision_over.Goals as goal

-- the journal didn't open, so the disk was only read
pub returns-in-Err-clause-did : goal.returns-in-Err-clause-did
returns-in-Err-clause-did g c w = inl (record {
  cause = c.in-Err.ensures.cause;
  input = (refl, refl);
  output = (refl, refl, refl);
  clock = refl;
  net = refl;
  disk = untouched_same g.D.Disk c.args.disk c.in-Err.disk c.in-Err.ensures.crash_err (g.met.D.Disk.only_now c.args.disk) c.in-Err.ensures.same_err;
})

-- the batch was provided
pub returns-in-Ok-clause-did : goal.returns-in-Ok-clause-did
returns-in-Ok-clause-did g c w =
    let from = c.in-Ok.service.state in
    let mid = disk_of c.in-Ok.service.keeper in
    let new = disk_of c.provide-end.result.1 in
    let old_out = out_of g.K.Sink c.args.out.now in
    let new_out = out_of g.K.Sink c.provide-end.new.out in
    let end = c.provide-end.result.0 in
    let asked = c.args.asked.now in
    let o = c.provide-end.ensures.once in
    let s = at_moment from o.at in
    let h = o.halted in
    let n = length h.answered - length from.history in
    let ends = provides_ends asked s o.at end from.history h.kept.more n h.answered h.after old_out new_out (answered_front from.history h.answered h.after h.kept.more h.kept.grown h.first h.last) h.kept.grown o.ends in
    rw c.into_disk.ensures (inr (
      from,
      c.in-Ok.ensures.opens,
      record {
        at = o.at;
        moment = o.moment;
        accepted = h.kept.more;
        answered = n;
        ends = ends;
        delivers = provides_all asked s o.at end _ _ old_out new_out ends;
        moves = provides_moves asked s o.at end _ _ old_out new_out ends;
        fault = λ is. omega (arith, o.disk is, c.in-Ok.ensures.later);
        input = (refl, refl);
        clock = c.provide-end.ensures.clock;
        net = refl;
        disk = survives_kept g.D.Disk from.history h.answered h.after h.kept.more _ c.args.disk mid new c.in-Ok.ensures.crash (g.met.D.Disk.only_now c.args.disk) c.in-Ok.ensures.same (g.met.D.Disk.reads_now new)
            h.kept.grown h.first h.last (provides_whole asked s o.at end h.answered h.after old_out new_out o.ends) (stops_halted from.history h.answered h.after c.in-Ok.service.keeper c.provide-end.result.1 h.kept.crash h.stopped);
      },
    ))
