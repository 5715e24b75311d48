use Rattle.reg_service.proofs.Migrating.{ended_opening, ended_still, same_images}
use Rattle.reg_service.proofs.migration.migrate.Goals as goal

-- the first file doesn't open
pub returns-in-Err-clause-ends : goal.returns-in-Err-clause-ends
returns-in-Err-clause-ends g c =
    rw c.fault_of_open.ensures (ended_opening g.E.Disk c.in-Err.fault (g.D.Disk.contents c.args.disk) (g.D.Disk.faults c.args.disk) (g.D.Disk.faults c.open_old.new.disk) c.args.second c.in-Err.ensures.opened)

pub returns-in-Err-clause-images : goal.returns-in-Err-clause-images
returns-in-Err-clause-images g c =
    same_images g.E.Disk.moment g.E.Disk.left_since (g.E.Disk.may_leave c.args.second) (g.D.Disk.contents c.args.disk) c.args.second (g.met.E.Disk.only_now c.args.second)

-- it does
pub returns-in-Ok-clause-ends : goal.returns-in-Ok-clause-ends
returns-in-Ok-clause-ends g c =
    let held = g.D.Disk.contents c.args.disk in
    let count = g.D.Disk.faults c.open_old.new.disk in
    let opened = c.in-Ok.ensures.opened in
    ended_still g.E.Disk c.write_new-ended.result.0 held (g.D.Disk.faults c.args.disk) count c.args.second c.write_new-ended.result.1 opened.1 (c.write_new-ended.ensures.ends held count (c.in-Ok.ensures.records, opened.0))

pub returns-in-Ok-clause-images : goal.returns-in-Ok-clause-images
returns-in-Ok-clause-images g c = c.write_new-ended.ensures.images (g.D.Disk.contents c.args.disk) (c.in-Ok.ensures.records, c.in-Ok.ensures.opened.0)

pub returns-in-Ok-clause-done : goal.returns-in-Ok-clause-done
returns-in-Ok-clause-done g c = c.write_new-ended.ensures.done (g.D.Disk.contents c.args.disk) (c.in-Ok.ensures.records, c.in-Ok.ensures.opened.0)

pub returns-in-Ok-clause-bytes : goal.returns-in-Ok-clause-bytes
returns-in-Ok-clause-bytes g c = c.write_new-ended.ensures.bytes (g.D.Disk.contents c.args.disk) (c.in-Ok.ensures.records, c.in-Ok.ensures.opened.0)
