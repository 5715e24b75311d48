use Rattle.reg_loader.proofs.Counts.{all_counted}
use Rattle.reg_loader.proofs.laws.law_counts.Goals as goal

pub returns : goal.returns
returns c = all_counted
