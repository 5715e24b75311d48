use Rattle.std.proofs.lemmas.Result.{IfOk-weaker}
use Rattle.reg_current.specs.Dates.{grant_ends_at}
use Rattle.reg_current.proofs.DatesGone.{dated_grants_are}
use Rattle.reg_current.proofs.dates.Dates.ending_grants.Goals as goal

pub returns : goal.returns
returns c = IfOk-weaker c.at.result _ _ (λ found are clock f finds up. dated_grants_are c.args.self.now.grant_ends grant_ends_at clock c.args.date f.grants found.items finds.grant_ends are up) c.at.ensures
