use Rattle.reg_current.proofs.dates.Dates.first_row.Goals as goal

pub returns : goal.returns
returns c = record { left = c.first.result; right = c.first-2.result; by_one = c.first.ensures; by_other = c.first-2.ensures; is = c.earliest.ensures }
