use Rattle.reg_asof.proofs.Telling.{asked_as_then}
use Rattle.reg_asof.proofs.earlier.Earlier.law_as_then.Goals as goal

pub returns : goal.returns
returns c reading asks = asked_as_then c.args.self.now reading asks
