use Rattle.reg_run.proofs.Loading.{long_load}
use Rattle.reg_run.proofs.load.too_long.Goals as goal

-- a table that is too long is refused, whatever the job's name
pub returns-clause-reads : goal.returns-clause-reads
returns-clause-reads c job table long = long_load job table long
