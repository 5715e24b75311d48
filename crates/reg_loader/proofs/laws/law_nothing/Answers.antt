use Rattle.reg_loader.specs.Plan.{standing, wanted}
use Rattle.reg_loader.proofs.Lasting.{none_added, none_removed, none_vetoed}
use Rattle.reg_loader.proofs.laws.law_nothing.Goals as goal

pub returns-clause-removed : goal.returns-clause-removed
returns-clause-removed c = λ job rows f same. none_removed (standing job.target f) (wanted job rows f) same

pub returns-clause-added : goal.returns-clause-added
returns-clause-added c = λ L job rows f same. none_added (standing job.target f) (wanted job rows f) same L f

pub returns-clause-vetoed : goal.returns-clause-vetoed
returns-clause-vetoed c = λ L job rows f same. none_vetoed (standing job.target f) (wanted job rows f) same L f
