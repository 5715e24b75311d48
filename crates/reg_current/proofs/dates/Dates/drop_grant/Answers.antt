use Rattle.std.proofs.Common.{refl}
use Rattle.reg_current.proofs.ComingGrants.{row_gone}
use Rattle.reg_current.proofs.dates.Dates.drop_grant.Goals as goal

pub returns : goal.returns
returns c = row_gone c.args.self.now _ c.args.row.now c.remove_grant.ensures c.remove_grant-2.ensures refl refl
