use Rattle.std.proofs.lemmas.Result.{IfOk-weaker}
use Rattle.reg_current.specs.Dates.{ends_at}
use Rattle.reg_current.proofs.DatesGone.{dated_are}
use Rattle.reg_current.proofs.dates.Dates.ending.Goals as goal

pub returns : goal.returns
returns c = IfOk-weaker c.at.result _ _ (λ found are clock f finds up. dated_are c.args.self.now.ends ends_at clock c.args.date f.rows found.items finds.ends are up) c.at.ensures
