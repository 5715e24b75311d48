use Rattle.reg_run.proofs.AskedThen.{judged_again, not_reread}
use Rattle.reg_run.proofs.earlier.reread.Goals as goal

-- the records are the history's
pub returns-in-Ok-clause-finds : goal.returns-in-Ok-clause-finds
returns-in-Ok-clause-finds g c last opens =
    c.replayed-found.ensures (g.D.Disk.contents c.args.disk) last (g.D.Disk.faults c.args.disk) _ (judged_again (g.D.Disk.contents c.args.disk) c.in-Ok.records last opens c.in-Ok.ensures.records)

-- the file isn't damaged
pub returns-in-Err-clause-finds : goal.returns-in-Err-clause-finds
returns-in-Err-clause-finds g c last opens =
    rw c.end_of_open.ensures (not_reread last (g.D.Disk.contents c.args.disk) (g.D.Disk.faults c.args.disk) (g.D.Disk.faults c.in-Err.disk) c.in-Err.fault c.in-Err.ensures.damaged c.in-Err.ensures.fault c.in-Err.ensures.other opens)
