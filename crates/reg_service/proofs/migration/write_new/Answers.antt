use Rattle.std.proofs.Common.{refl}
use Rattle.reg_service.proofs.Migrating.{ended_writing, told_images, told_done, told_bytes}
use Rattle.reg_service.proofs.migration.write_new.Goals as goal

-- it was written
pub returns-in-Ok-clause-ends : goal.returns-in-Ok-clause-ends
returns-in-Ok-clause-ends g c = λ held count old. (old.1, c.in-Ok.ensures.fit, refl, c.in-Ok.ensures.still)

pub returns-in-Ok-clause-images : goal.returns-in-Ok-clause-images
returns-in-Ok-clause-images g c = λ held old.
    told_images c.recoded_says_the_same.ensures g.E.Disk.moment g.E.Disk.left_since (g.E.Disk.may_leave c.args.second) held c.args.second c.in-Ok.second old.1 (c.in-Ok.ensures.images held old.0)

pub returns-in-Ok-clause-done : goal.returns-in-Ok-clause-done
returns-in-Ok-clause-done g c = λ held old.
    told_done c.recoded_says_the_same.ensures (g.E.Disk.may_leave c.in-Ok.second) held old.1 (λ f left. c.in-Ok.ensures.after held old.0 f left)

pub returns-in-Ok-clause-bytes : goal.returns-in-Ok-clause-bytes
returns-in-Ok-clause-bytes g c = λ held old.
    told_bytes c.recoded_says_the_same.ensures held (g.E.Disk.contents c.in-Ok.second) old.1 (c.in-Ok.ensures.payloads held old.0)

-- it wasn't, or not all of it
pub returns-in-Err-clause-ends : goal.returns-in-Err-clause-ends
returns-in-Err-clause-ends g c =
    let e = c.in-Err.ensures in
    rw c.fault_of_fill.ensures (λ held count old. ended_writing g.E.Disk c.in-Err.fault held count c.args.second c.in-Err.second old.1 e.exists e.fault e.still_exists e.untouched e.same_err)

pub returns-in-Err-clause-images : goal.returns-in-Err-clause-images
returns-in-Err-clause-images g c = λ held old.
    told_images c.recoded_says_the_same.ensures g.E.Disk.moment g.E.Disk.left_since (g.E.Disk.may_leave c.args.second) held c.args.second c.in-Err.second old.1 (c.in-Err.ensures.images_err held old.0)
