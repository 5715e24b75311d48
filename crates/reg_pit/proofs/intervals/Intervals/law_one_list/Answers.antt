use Rattle.reg_pit.proofs.Alone.{alone}
use Rattle.reg_pit.proofs.intervals.Intervals.law_one_list.Goals as goal

pub returns : goal.returns
returns g c = alone
