use Rattle.std.proofs.Common.{◌∙◌}
use Rattle.reg_keep.specs.Begin.{Begun}
use Rattle.reg_keep.proofs.DiskCrash.{then_same}
use Rattle.reg_keep.proofs.Begins.{begins_short}
use Rattle.reg_keep.proofs.Filled.{fit_short, told_kept, told_made, made_long}
use Rattle.reg_keep.proofs.fill.begin_closed.Goals as goal

pub returns-in_err-write_at-clause-crash : goal.returns-in_err-write_at-clause-crash
returns-in_err-write_at-clause-crash g c =
    let d = g.D.Disk in
    let l = c.in_ok-is_closed.ensures in
    begins_short d.moment d.may_leave d.left_since _ _ _ _ l.crash l.durable (rw l.same (fit_short (d.contents c.args.disk.now) c.in_ok-is_closed.is_closed c.if-is_closed.false l.fit l.closed)) c.write_at.ensures.crash

pub returns-in_err-sync-clause-crash : goal.returns-in_err-sync-clause-crash
returns-in_err-sync-clause-crash g c =
    let d = g.D.Disk in
    let l = c.in_ok-is_closed.ensures in
    then_same d.moment d.may_leave d.left_since Begun _ _ _ (begins_short d.moment d.may_leave d.left_since _ _ _ _ l.crash l.durable (rw l.same (fit_short (d.contents c.args.disk.now) c.in_ok-is_closed.is_closed c.if-is_closed.false l.fit l.closed)) c.write_at.ensures.crash) c.sync.ensures.crash

pub returns-clause-crash : goal.returns-clause-crash
returns-clause-crash g c =
    let d = g.D.Disk in
    let l = c.in_ok-is_closed.ensures in
    then_same d.moment d.may_leave d.left_since Begun _ _ _ (begins_short d.moment d.may_leave d.left_since _ _ _ _ l.crash l.durable (rw l.same (fit_short (d.contents c.args.disk.now) c.in_ok-is_closed.is_closed c.if-is_closed.false l.fit l.closed)) c.write_at.ensures.crash) c.sync.ensures.crash

pub returns-then-is_closed-clause-written : goal.returns-then-is_closed-clause-written
returns-then-is_closed-clause-written g c =
    let l = c.in_ok-is_closed.ensures in
    l.same ∙ told_kept (g.D.Disk.contents c.args.disk.now) c.in_ok-is_closed.is_closed c.if-is_closed.true l.closed

pub returns-clause-written : goal.returns-clause-written
returns-clause-written g c =
    let l = c.in_ok-is_closed.ensures in
    c.sync.ensures.same ∙ told_made (g.D.Disk.contents c.args.disk.now) _ c.in_ok-is_closed.is_closed c.if-is_closed.false l.fit l.closed (rw (← l.same) c.in_ok-write_at.ensures.written)

pub returns-clause-long : goal.returns-clause-long
returns-clause-long g c =
    let l = c.in_ok-is_closed.ensures in
    made_long (g.D.Disk.contents c.args.disk.now) _ c.in_ok-is_closed.is_closed c.if-is_closed.false l.fit l.closed (c.sync.ensures.same ∙ rw (← l.same) c.in_ok-write_at.ensures.written)
