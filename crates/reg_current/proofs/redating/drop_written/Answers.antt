use Rattle.reg_current.proofs.ComingGrants.{all_lost}
use Rattle.reg_current.proofs.redating.drop_written.Goals as goal

pub returns : goal.returns
returns c = all_lost c.args.dates.now _ c.grants_of.result _ c.grants_of.ensures.same c.drop_rows.ensures
