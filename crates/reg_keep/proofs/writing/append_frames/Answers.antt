use Rattle.std.proofs.Common.{◌∷◌}
use Rattle.std.proofs.lemmas.Option.{IfSome_then}
use Rattle.reg_keep.proofs.DiskCrash.{all_by, goes_on}
use Rattle.reg_keep.specs.Settled.{IsBeforeOrAll}
use Rattle.reg_keep.proofs.Gates.{gate_inside}
use Rattle.reg_keep.proofs.Appends.{before_now, before_front, gate_step, rest_after, kept_after, written_once, opens_after}
use Rattle.reg_keep.proofs.writing.append_frames.Goals as goal

pub prepare-requires-clause-place : goal.prepare-requires-clause-place
prepare-requires-clause-place g c = IfSome_then (g.D.Disk.contents c.args.disk.now) c.requires.settled.rest (λ file r. gate_inside c.args.gate file r)

pub returns-in_err-next-clause-any_moment : goal.returns-in_err-next-clause-any_moment
returns-in_err-next-clause-any_moment g c =
    let d = g.D.Disk in
    let s = c.requires.settled in
    all_by d.moment d.may_leave d.left_since (IsBeforeOrAll (d.contents c.args.disk.now) (c.args.first.now ∷ c.args.rest.now)) _ c.args.disk.now c.prepare.new.disk (g.met.D.Disk.only_now c.args.disk.now)
    (before_now c.args.gate c.args.first.now c.args.rest.now _ _ s) (before_front c.args.gate c.args.first.now c.args.rest.now _ _ s) c.prepare.ensures.crash

pub returns-in_err-open_gate-clause-any_moment : goal.returns-in_err-open_gate-clause-any_moment
returns-in_err-open_gate-clause-any_moment g c =
    let d = g.D.Disk in
    let s = c.requires.settled in
    let P = IsBeforeOrAll (d.contents c.args.disk.now) (c.args.first.now ∷ c.args.rest.now) in
    goes_on d.moment d.may_leave d.left_since P _ c.args.disk.now c.prepare.new.disk c.open_gate.new.disk
    (all_by d.moment d.may_leave d.left_since P _ c.args.disk.now c.prepare.new.disk (g.met.D.Disk.only_now c.args.disk.now)
    (before_now c.args.gate c.args.first.now c.args.rest.now _ _ s) (before_front c.args.gate c.args.first.now c.args.rest.now _ _ s) c.prepare.ensures.crash)
    (gate_step c.args.gate c.args.first.now c.args.rest.now c.requires.short _ _ _ s.rest c.in_ok-next.ensures.written c.in_ok-next.ensures.durable) c.open_gate.ensures.crash

pub returns-clause-any_moment : goal.returns-clause-any_moment
returns-clause-any_moment g c =
    let d = g.D.Disk in
    let s = c.requires.settled in
    let P = IsBeforeOrAll (d.contents c.args.disk.now) (c.args.first.now ∷ c.args.rest.now) in
    goes_on d.moment d.may_leave d.left_since P _ c.args.disk.now c.prepare.new.disk c.open_gate.new.disk
    (all_by d.moment d.may_leave d.left_since P _ c.args.disk.now c.prepare.new.disk (g.met.D.Disk.only_now c.args.disk.now)
    (before_now c.args.gate c.args.first.now c.args.rest.now _ _ s) (before_front c.args.gate c.args.first.now c.args.rest.now _ _ s) c.prepare.ensures.crash)
    (gate_step c.args.gate c.args.first.now c.args.rest.now c.requires.short _ _ _ s.rest c.in_ok-next.ensures.written c.in_ok-next.ensures.durable) c.open_gate.ensures.crash

pub returns-clause-settled : goal.returns-clause-settled
returns-clause-settled g c = record {
  rest = rest_after c.args.gate c.args.first.now c.args.rest.now c.requires.short c.in_ok-next.next c.in_ok-next.ensures.next _ _ _ c.requires.settled.rest c.in_ok-next.ensures.written c.in_ok-open_gate.ensures.written;
  durable = c.in_ok-open_gate.ensures.durable;
}

pub returns-clause-kept : goal.returns-clause-kept
returns-clause-kept g c = kept_after c.args.gate c.args.first.now c.args.rest.now c.requires.short _ _ _ c.requires.settled.rest c.in_ok-next.ensures.written c.in_ok-open_gate.ensures.written

pub returns-clause-written : goal.returns-clause-written
returns-clause-written g c = written_once c.args.gate c.args.first.now c.args.rest.now _ _ _ c.requires.settled.rest c.in_ok-next.ensures.written c.in_ok-open_gate.ensures.written

pub returns-clause-after : goal.returns-clause-after
returns-clause-after g c = opens_after (c.args.first.now ∷ c.args.rest.now) _ _ _ (returns-clause-kept g c) c.in_ok-open_gate.ensures.durable
