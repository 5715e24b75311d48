use Rattle.std.proofs.Common.{arith, ◌≤◌, ◌∙◌, ap, ap₂, ◌++◌, ◌∷◌, length, subst}
use Rattle.reg_outside.specs.Disk.{Changes}
use Rattle.reg_keep.specs.Frames.{length_bytes, payloads_of_records}
use Rattle.reg_keep.specs.Settled.{SameFront}
use Rattle.reg_keep.proofs.Writes.{gate_within}
use Rattle.reg_keep.proofs.Waits.{front_on}
use Rattle.reg_keep.proofs.Framing.{filling_added, filling_step, filling_done}
use Rattle.reg_keep.proofs.fill.write_records.Goals as goal

pub frames-init : goal.frames-init
frames-init g c =
    let d = g.D.Disk in
    let a = c.in_ok-add_both.ensures in
    record {
      filling = filling_added 8 c.args.first.now (payloads_of_records c.args.rest) _ c.four_bytes.result c.new-frames.result c.add_both.new.self _ c.four_bytes.ensures.bytes c.requires.short.1 c.new-frames.ensures a.added;
      within = a.added.within;
      later = subst (λ w. w.0 ≤ c.add_both.new.self.0) c.new-frames.ensures a.added.later;
      crash = subst (λ w. Changes d.moment d.may_leave d.left_since (SameFront w.0) c.args.disk.now c.add_both.new.disk) c.new-frames.ensures a.crash;
      object = a.object;
      told = a.told;
      still = a.cause.still;
    }

pub returns-in_err-add_both-2-clause-crash : goal.returns-in_err-add_both-2-clause-crash
returns-in_err-add_both-2-clause-crash g c =
    let d = g.D.Disk in
    front_on d.moment d.may_leave d.left_since 9 c.frames.frames _ _ _ c.frames.invariant.later c.frames.invariant.crash c.add_both-in-Some.ensures.crash

pub frames-preserved : goal.frames-preserved
frames-preserved g c =
    let d = g.D.Disk in
    let inv = c.frames.invariant in
    let a = c.in_ok-add_both-2.ensures in
    let taken = ap payloads_of_records c.in-Some.ensures.taken in
    let framed = ap₂ (λ a b. a ++ b) (c.five_bytes.ensures.bytes ∙ ap (λ l. 1 ∷ length_bytes (length l)) c.bytes.ensures) c.bytes-in-Some.ensures in
    record {
      filling = filling_step 8 c.args.first.now (payloads_of_records c.args.rest) _ _ _ _ c.in-Some.payload _ _ _ _ inv.filling taken framed (gate_within 8 _ c.requires.place) a.added.whole a.added.long;
      within = a.added.within;
      later = omega (arith, inv.later, a.added.later);
      crash = front_on d.moment d.may_leave d.left_since 9 c.frames.frames _ _ _ inv.later inv.crash a.crash;
      object = a.object ∙ inv.object;
      told = a.told ∙ inv.told;
      still = a.cause.still ∙ inv.still;
    }

pub returns-in_err-add-clause-crash : goal.returns-in_err-add-clause-crash
returns-in_err-add-clause-crash g c =
    let d = g.D.Disk in
    front_on d.moment d.may_leave d.left_since 9 c.frames.frames _ _ _ c.frames.invariant.later c.frames.invariant.crash c.add.ensures.crash

pub returns-in_err-end-clause-crash : goal.returns-in_err-end-clause-crash
returns-in_err-end-clause-crash g c =
    let d = g.D.Disk in
    let inv = c.frames.invariant in
    let so_far = front_on d.moment d.may_leave d.left_since 9 c.frames.frames _ _ _ inv.later inv.crash c.add.ensures.crash in
    front_on d.moment d.may_leave d.left_since 9 c.add.new.self _ _ _ (omega (arith, inv.later, c.in_ok-add.ensures.added.later)) so_far c.write_out.ensures.crash

pub returns-clause-written : goal.returns-clause-written
returns-clause-written g c = filling_done 8 c.args.first.now (payloads_of_records c.args.rest) _ _ _ _ _ c.frames.invariant.filling (ap (λ r. length (payloads_of_records r)) c.in_default.ensures.taken) (gate_within 8 _ c.requires.place) (c.in_ok-end.ensures.written ∙ c.in_ok-add.ensures.added.whole)

pub returns-clause-crash : goal.returns-clause-crash
returns-clause-crash g c =
    let d = g.D.Disk in
    let inv = c.frames.invariant in
    let so_far = front_on d.moment d.may_leave d.left_since 9 c.frames.frames _ _ _ inv.later inv.crash c.add.ensures.crash in
    front_on d.moment d.may_leave d.left_since 9 c.add.new.self _ _ _ (omega (arith, inv.later, c.in_ok-add.ensures.added.later)) so_far c.write_out.ensures.crash
