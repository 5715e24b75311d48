use Rattle.std.proofs.Common.{◌∷◌}
use Rattle.std.proofs.lemmas.Option.{IfSome_then}
use Rattle.reg_outside.specs.Disk.{Torn}
use Rattle.reg_keep.specs.Frames.{payloads_of_records}
use Rattle.reg_keep.specs.Settled.{SameFront}
use Rattle.reg_keep.specs.Begin.{IsPartly}
use Rattle.reg_keep.proofs.DiskCrash.{all_by, goes_on}
use Rattle.reg_keep.proofs.Filled.{closed_long, front_images, here_images, gate_images, stage_reaches, all_payloads, all_going, told_opened}
use Rattle.reg_keep.proofs.fill.put_records.Goals as goal

pub stage_records-requires-clause-place : goal.stage_records-requires-clause-place
stage_records-requires-clause-place g c = IfSome_then (g.D.Disk.contents c.args.disk.now) c.requires.ready (λ file ready. closed_long file ready)

pub open_gate-requires : goal.open_gate-requires
open_gate-requires g c = record { place = stage_reaches c.args.first.now (payloads_of_records c.args.rest) _ _ c.requires.ready c.in_ok-gate.ensures.written }

pub returns-in_err-gate-clause-images : goal.returns-in_err-gate-clause-images
returns-in_err-gate-clause-images g c =
    let d = g.D.Disk in
    let P = IsPartly (c.args.first.now ∷ payloads_of_records c.args.rest) in
    all_by d.moment d.may_leave d.left_since P (SameFront 9) c.args.disk.now c.stage_records.new.disk (g.met.D.Disk.only_now c.args.disk.now)
    (here_images c.args.first.now (payloads_of_records c.args.rest) c.requires.short _ _ c.requires.ready c.requires.durable)
    (front_images c.args.first.now (payloads_of_records c.args.rest) c.requires.short _ _ c.requires.ready c.requires.durable) c.stage_records.ensures.crash

pub returns-in_err-open_gate-clause-images : goal.returns-in_err-open_gate-clause-images
returns-in_err-open_gate-clause-images g c =
    let d = g.D.Disk in
    let P = IsPartly (c.args.first.now ∷ payloads_of_records c.args.rest) in
    goes_on d.moment d.may_leave d.left_since P (Torn 8 1) c.args.disk.now c.stage_records.new.disk c.open_gate.new.disk
    (all_by d.moment d.may_leave d.left_since P (SameFront 9) c.args.disk.now c.stage_records.new.disk (g.met.D.Disk.only_now c.args.disk.now)
    (here_images c.args.first.now (payloads_of_records c.args.rest) c.requires.short _ _ c.requires.ready c.requires.durable)
    (front_images c.args.first.now (payloads_of_records c.args.rest) c.requires.short _ _ c.requires.ready c.requires.durable) c.stage_records.ensures.crash)
    (gate_images c.args.first.now (payloads_of_records c.args.rest) c.requires.short _ _ _ c.requires.ready c.in_ok-gate.ensures.written c.in_ok-gate.ensures.durable) c.open_gate.ensures.crash

pub returns-clause-images : goal.returns-clause-images
returns-clause-images g c =
    let d = g.D.Disk in
    let P = IsPartly (c.args.first.now ∷ payloads_of_records c.args.rest) in
    goes_on d.moment d.may_leave d.left_since P (Torn 8 1) c.args.disk.now c.stage_records.new.disk c.open_gate.new.disk
    (all_by d.moment d.may_leave d.left_since P (SameFront 9) c.args.disk.now c.stage_records.new.disk (g.met.D.Disk.only_now c.args.disk.now)
    (here_images c.args.first.now (payloads_of_records c.args.rest) c.requires.short _ _ c.requires.ready c.requires.durable)
    (front_images c.args.first.now (payloads_of_records c.args.rest) c.requires.short _ _ c.requires.ready c.requires.durable) c.stage_records.ensures.crash)
    (gate_images c.args.first.now (payloads_of_records c.args.rest) c.requires.short _ _ _ c.requires.ready c.in_ok-gate.ensures.written c.in_ok-gate.ensures.durable) c.open_gate.ensures.crash

pub returns-clause-going : goal.returns-clause-going
returns-clause-going g c =
    let w = c.in_ok-gate.ensures in
    all_going c.args.first.now (payloads_of_records c.args.rest) c.requires.short c.in_ok-gate.gate c.args.size _ _ _ _ w.next w.end c.requires.ready c.requires.long w.written c.in_ok-open_gate.ensures.written c.in_ok-open_gate.ensures.durable

pub returns-clause-opens : goal.returns-clause-opens
returns-clause-opens g c = all_payloads c.args.first.now (payloads_of_records c.args.rest) c.requires.short _ _ _ c.requires.ready c.in_ok-gate.ensures.written c.in_ok-open_gate.ensures.written

pub returns-clause-written : goal.returns-clause-written
returns-clause-written g c = told_opened c.args.first.now (payloads_of_records c.args.rest) c.requires.short _ _ _ c.requires.ready c.in_ok-gate.ensures.written c.in_ok-open_gate.ensures.written
