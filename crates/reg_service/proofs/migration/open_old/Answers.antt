use Rattle.reg_service.proofs.Judging.{judged_file, made_of_file}
use Rattle.reg_service.proofs.Migrating.{opened_not}
use Rattle.reg_service.proofs.migration.open_old.Goals as goal

-- it was read, and its records are judged
pub returns-in-Ok-clause-opened : goal.returns-in-Ok-clause-opened
returns-in-Ok-clause-opened g c =
    let e = c.judge_old.ensures in
    judged_file (g.D.Disk.contents c.args.disk.now) c.in-Ok.records c.judge_old.result (g.D.Disk.faults c.args.disk.now) (g.D.Disk.faults c.read_old.new.disk) c.in-Ok.ensures.records c.in-Ok.ensures.own c.in-Ok.ensures.still e.judged e.damaged e.other e.fault

pub returns-in-Ok-clause-records : goal.returns-in-Ok-clause-records
returns-in-Ok-clause-records g c = made_of_file (g.D.Disk.contents c.args.disk.now) c.in-Ok.records c.judge_old.result c.in-Ok.ensures.records c.judge_old.ensures.records

-- it wasn't
pub returns-in-Err-clause-opened : goal.returns-in-Err-clause-opened
returns-in-Err-clause-opened g c =
    let e = c.in-Err.ensures in
    opened_not c.in-Err.fault (g.D.Disk.contents c.args.disk.now) (g.D.Disk.faults c.args.disk.now) (g.D.Disk.faults c.read_old.new.disk) e.damaged e.own_err (λ is. e.other (cc)) (λ is. e.fault (cc)) e.still_damaged (λ is. e.still_other (cc)) (λ is. e.still_memory (cc))
