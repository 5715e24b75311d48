use Rattle.std.proofs.Common.{◌≡◌, true, rules}
use Rattle.reg_base.specs.Names.{is_extension}
use Rattle.reg_run.proofs.Loading.{load_form}
use Rattle.reg_run.proofs.load.load_of_bytes.Goals as goal

-- a load that is asked has its form
pub returns-in-Ok-clause-form : goal.returns-in-Ok-clause-form
returns-in-Ok-clause-form c =
    let name : is_extension c.args.job.now ≡ true = search rules in
    rw c.in-Ok.ensures (load_form c.args.job.now c.args.table.now name)
