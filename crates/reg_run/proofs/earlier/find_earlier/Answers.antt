use Rattle.std.proofs.Common.{◌≡◌, ◌∙◌, ℕ, refl, ap, sym, inl, inr, append-nil, [], max}
use Rattle.reg_keep.specs.JournalWords.{disk_of}
use Rattle.reg_machine.specs.History.{State}
use Rattle.reg_run.proofs.Crashing.{untouched_same, survives_kept, survives_none, stops_whole, no_shorter}
use Rattle.reg_run.proofs.Rereading.{still_same, survives_reread}
use Rattle.reg_run.proofs.earlier.find_earlier.Goals as goal

-- the journal didn't open, so the disk was only read
pub returns-in-Err-clause-finds : goal.returns-in-Err-clause-finds
returns-in-Err-clause-finds g c = inl (c.in-Err.ensures.cause, refl, untouched_same g.D.Disk c.args.disk c.in-Err.disk c.in-Err.ensures.crash_err (g.met.D.Disk.only_now c.args.disk) c.in-Err.ensures.same_err)

-- it did, and was read once more
pub returns-in-Ok-clause-finds : goal.returns-in-Ok-clause-finds
returns-in-Ok-clause-finds g c =
    let from = c.in-Ok.service.state in
    let old = c.args.disk in
    let mid = disk_of c.in-Ok.service.keeper in
    let new = c.find_at.result.1 in
    let same = sym (append-nil from.history) in
    let only = g.met.D.Disk.only_now old in
    let again = rw c.close.ensures.disk at c.find_at.ensures in
    let latest : c.later_of-latest.result ≡ max from.clock c.now-now.result = c.later_of-latest.ensures.value ∙ ap (λ (n : ℕ). max n c.now-now.result) (c.clock.ensures ∙ ap (λ (s : State). s.clock) c.machine.ensures) in
    let left = λ (status : ℕ). survives_none g.D.Disk from.history _ status old mid (survives_kept g.D.Disk from.history from.history from.history [] status old mid mid c.in-Ok.ensures.crash only c.in-Ok.ensures.same (g.met.D.Disk.reads_now mid)
    same (no_shorter from.history from.history [] same) (inl refl) (λ is. refl)
    (stops_whole from.history from.history c.in-Ok.service.keeper c.in-Ok.service.keeper c.stays.ensures.crash c.close.ensures.again (rw c.close.ensures.disk at c.close.ensures.images))) in
    inr (
      from,
      c.in-Ok.ensures.opens,
      record {
        now = c.now-now.result;
        moment = c.now-now.ensures.moment;
        finds = rw latest at (rw (c.in-Ok.ensures.same, c.in-Ok.ensures.still) at (again.finds from (rw c.in-Ok.ensures.same c.in-Ok.ensures.opens)));
        clock = c.now-now.ensures.later;
        same = untouched_same g.D.Disk old new (still_same g.D.Disk old mid new c.in-Ok.ensures.crash again.crash) only (rw c.in-Ok.ensures.same at again.same);
        disk = λ status. survives_reread g.D.Disk from.history [] 0 status old mid new c.in-Ok.ensures.crash.later again.crash again.same (left status);
      },
    )
