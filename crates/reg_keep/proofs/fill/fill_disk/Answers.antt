use Rattle.std.proofs.Common.{inl, ◌∷◌, ◌∙◌, ap, sym}
use Rattle.reg_keep.specs.Frames.{payloads_of_records}
use Rattle.reg_keep.specs.Begin.{Begun, WasOrPartly}
use Rattle.reg_keep.proofs.DiskCrash.{all_by}
use Rattle.reg_keep.proofs.Filled.{begun_images, closed_going, closed_none, told_filled, told_none}
use Rattle.reg_keep.proofs.fill.fill_disk.Goals as goal

pub returns-in_err-size-clause-images : goal.returns-in_err-size-clause-images
returns-in_err-size-clause-images g c =
    let d = g.D.Disk in
    all_by d.moment d.may_leave d.left_since (WasOrPartly (d.may_leave c.args.disk.now) (payloads_of_records c.args.payloads)) Begun c.args.disk.now c.begin_closed.new.disk (g.met.D.Disk.only_now c.args.disk.now)
    (λ f left. inl left) (begun_images (payloads_of_records c.args.payloads) (d.may_leave c.args.disk.now)) c.begin_closed.ensures.crash

pub returns-in_default-clause-going : goal.returns-in_default-clause-going
returns-in_default-clause-going g c = closed_going c.in_ok-size.size _ _ c.in_ok-size.ensures.ready c.in_ok-size.ensures.long c.in_ok-size.ensures.durable

pub returns-in_default-clause-opens : goal.returns-in_default-clause-opens
returns-in_default-clause-opens g c = closed_none _ c.args.payloads c.in_default.ensures.taken c.in_ok-size.ensures.ready

pub returns-in_default-clause-written : goal.returns-in_default-clause-written
returns-in_default-clause-written g c = told_none (payloads_of_records c.args.payloads) _ _ (ap payloads_of_records c.in_default.ensures.taken) c.in_ok-size.ensures.written

pub returns-clause-written : goal.returns-clause-written
returns-clause-written g c =
    let is = ap payloads_of_records c.in-Some.ensures.taken ∙ ap (λ b. b ∷ payloads_of_records c.take_first.new.self) (sym c.bytes.ensures) in
    told_filled (payloads_of_records c.args.payloads) c.bytes.result.now (payloads_of_records c.take_first.new.self) _ _ _ is c.in_ok-size.ensures.fit c.in_ok-size.ensures.written c.in_ok-gate.ensures.written
