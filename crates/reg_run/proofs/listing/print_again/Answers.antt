use Rattle.std.proofs.Common.{inl}
use Rattle.reg_run.proofs.Rereading.{not_reread, prints_due, reread}
use Rattle.reg_run.proofs.listing.print_again.Goals as goal

-- the records are the history's
pub returns-in-Ok-clause-printed : goal.returns-in-Ok-clause-printed
returns-in-Ok-clause-printed g c from opens =
    let held = g.D.Disk.contents c.args.disk in
    inl (prints_due c.args.places.now held c.in-Ok.records from _ _ _ opens c.in-Ok.ensures.records
    (c.print_records-end.ensures held from.history (reread held c.in-Ok.records from opens c.in-Ok.ensures.records)))

-- the file is neither damaged nor of the other format
pub returns-in-Err-clause-printed : goal.returns-in-Err-clause-printed
returns-in-Err-clause-printed g c from opens =
    rw c.end_of_open.ensures (not_reread c.args.places.now (g.D.Disk.contents c.args.disk) (g.D.Disk.faults c.args.disk) (g.D.Disk.faults c.in-Err.disk) _ c.in-Err.fault from c.in-Err.ensures.damaged c.in-Err.ensures.fault c.in-Err.ensures.other opens)
