use Rattle.std.proofs.Common.{rules}
use Rattle.reg_run.proofs.Migrating.{migrated_lent}
use Rattle.reg_run.proofs.migrate.migrate_over.Goals as goal

-- the disk that was lent ends as its loan
pub returns-clause-did : goal.returns-clause-did
returns-clause-did g c w =
    let call = c.migrate-done in
    rw c.end_of_migrate.ensures (migrated_lent g.D.Disk g.E.Disk w call.result.0 c.args.disk call.result.1 _ call.result.2 _ (search rules) (g.met.D.Disk.only_now c.args.disk) (g.met.E.Disk.only_now c.args.second.now)
    call.ensures.ends call.ensures.crash call.ensures.same call.ensures.images call.ensures.done call.ensures.bytes)
