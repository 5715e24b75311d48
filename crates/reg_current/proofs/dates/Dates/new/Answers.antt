use Rattle.reg_current.proofs.NoDates.{finds_none}
use Rattle.reg_current.proofs.dates.Dates.new.Goals as goal

pub returns : goal.returns
returns c = finds_none _ c.new.ensures c.new-2.ensures c.new-3.ensures c.new-4.ensures
