use Rattle.std.proofs.Common.{◌≡◌, [], take}
use Rattle.reg_effect.specs.Changes.{rows_on}
use Rattle.reg_effect.proofs.live.rows_on.Given as goal

abbrev pub invariant-loop-row : goal.invariant-loop-row
invariant-loop-row l = l.on ≡ rows_on l.at (take l.row-index l.rows) []
