use Rattle.reg_run.proofs.Opened.{open_caused}
use Rattle.reg_run.proofs.perform.open.Goals as goal

-- the file didn't open
pub returns-in-Err-clause-cause : goal.returns-in-Err-clause-cause
returns-in-Err-clause-cause g c =
    rw c.end_of_open-in-Err.ensures (open_caused c.in-Err.fault (g.D.Disk.contents c.args.disk) (g.D.Disk.faults c.args.disk) (g.D.Disk.faults c.in-Err.disk) c.in-Err.ensures.damaged c.in-Err.ensures.fault c.in-Err.ensures.own_err c.in-Err.ensures.other c.in-Err.ensures.still_damaged c.in-Err.ensures.still_memory c.in-Err.ensures.still_other)
