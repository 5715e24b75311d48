use Rattle.reg_current.proofs.ComingGrants.{HaveLost}
use Rattle.reg_current.proofs.redating.drop_rows.Given as goal

-- those so far and the rest are all
abbrev pub invariant-loop-row : goal.invariant-loop-row
invariant-loop-row l = HaveLost l.fn.dates l.dates l.row-iterator l.initial.row-iterator
