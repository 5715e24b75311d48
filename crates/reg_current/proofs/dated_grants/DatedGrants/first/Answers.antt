use Rattle.reg_current.proofs.GrantPlaces.{first_is}
use Rattle.reg_current.proofs.dated_grants.DatedGrants.first.Goals as goal

pub returns : goal.returns
returns c = first_is c.args.self.now c.in_ok-row.row.now c.in_ok-row.ensures.member c.in_ok-row.ensures.least
