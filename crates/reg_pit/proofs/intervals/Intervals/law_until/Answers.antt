use Rattle.reg_pit.proofs.Until.{until}
use Rattle.reg_pit.proofs.intervals.Intervals.law_until.Goals as goal

pub returns : goal.returns
returns g c = until
