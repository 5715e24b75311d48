use Rattle.reg_current.proofs.ComingRows.{row_lost}
use Rattle.reg_current.proofs.dates.Dates.drop_row.Goals as goal

pub returns : goal.returns
returns c = row_lost c.args.self.now c.take_away.new.self c.args.row.now c.take_away.ensures
