use Rattle.std.proofs.Common.{◌≡◌, ◌++◌, map, drop}
use Rattle.reg_current.specs.Dates.{pair_gone}
use Rattle.reg_current.proofs.ending.rows_gone.Given as goal

-- the events so far, and those of the rows that are left, are all
abbrev pub invariant-loop-row : goal.invariant-loop-row
invariant-loop-row l = l.events.items ++ map pair_gone (drop l.row-index l.rows) ≡ map pair_gone l.rows
