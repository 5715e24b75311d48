use Rattle.reg_keep.specs.Frames.{payloads_of_records}
use Rattle.reg_keep.specs.Begin.{WasOrPartly}
use Rattle.reg_recode.specs.Recoded.{WasOrRecoded}
use Rattle.reg_recode.proofs.Images.{has_recoded, partly_recoded, told_recoded, told_written, wider}
use Rattle.reg_recode.proofs.files.fill_recoded.Goals as goal

-- it was filled
pub returns-in-Ok-clause-payloads : goal.returns-in-Ok-clause-payloads
returns-in-Ok-clause-payloads g c = rw c.into_disk.ensures (λ held read. told_recoded held _ c.args.records read c.in-Ok.ensures.opens)

pub returns-in-Ok-clause-written : goal.returns-in-Ok-clause-written
returns-in-Ok-clause-written g c = rw c.into_disk.ensures (λ held read. told_written held _ (g.E.Disk.contents c.args.second) c.args.records read c.in-Ok.ensures.written)

pub returns-in-Ok-clause-after : goal.returns-in-Ok-clause-after
returns-in-Ok-clause-after g c = rw c.into_disk.ensures (λ held read f left. has_recoded held c.args.records f read (c.in-Ok.ensures.after f left))

pub returns-in-Ok-clause-images : goal.returns-in-Ok-clause-images
returns-in-Ok-clause-images g c =
    let e = g.E.Disk in
    let leaves = e.may_leave c.args.second in
    rw c.into_disk.ensures (λ held read. wider e.moment e.left_since (WasOrPartly leaves (payloads_of_records c.args.records)) (WasOrRecoded leaves held) c.args.second _ (partly_recoded leaves held c.args.records read) c.in-Ok.ensures.images)

-- it wasn't, or not all of it
pub returns-in-Err-clause-images_err : goal.returns-in-Err-clause-images_err
returns-in-Err-clause-images_err g c =
    let e = g.E.Disk in
    let leaves = e.may_leave c.args.second in
    λ held read. wider e.moment e.left_since (WasOrPartly leaves (payloads_of_records c.args.records)) (WasOrRecoded leaves held) c.args.second _ (partly_recoded leaves held c.args.records read) c.in-Err.ensures.images_err
