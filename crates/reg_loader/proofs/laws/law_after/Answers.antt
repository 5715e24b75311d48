use Rattle.reg_loader.specs.Plan.{standing, wanted}
use Rattle.reg_loader.proofs.Lasting.{after_same}
use Rattle.reg_loader.proofs.laws.law_after.Goals as goal

pub returns : goal.returns
returns c = λ L job rows f. after_same L (standing job.target f) (wanted job rows f) f
