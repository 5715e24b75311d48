use Rattle.reg_machine.proofs.Keying.{keyed_more}
use Rattle.reg_machine.proofs.machine.Machine.law_kept_stays.Goals as goal

pub returns : goal.returns
returns g c = λ more by key kept is. keyed_more c.args.self.now.history more by key kept is
