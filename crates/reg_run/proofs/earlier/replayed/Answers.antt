use Rattle.std.proofs.Common.{Err, ap}
use Rattle.reg_run.proofs.AskedThen.{as_then, not_replayed}
use Rattle.reg_run.proofs.earlier.replayed.Goals as goal

-- it is that of the history
pub returns-in-Ok : goal.returns-in-Ok
returns-in-Ok c held last faults later opens = as_then held c.args.records last c.in-Ok.earlier c.args.at c.in-Ok.ensures.ok opens

-- there was no memory for it
pub returns-in-Err : goal.returns-in-Err
returns-in-Err c held last faults later opens = rw c.end_of_open.ensures (not_replayed last held faults later c.args.records c.in-Err.fault c.in-Err.ensures.damaged (λ is. c.in-Err.ensures.fault (ap Err is)) (λ is. c.in-Err.ensures.other (ap Err is)) opens)
