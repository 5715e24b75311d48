use Rattle.std.proofs.Common.{◌≡◌, [], take}
use Rattle.reg_effect.specs.Changes.{composites_in}
use Rattle.reg_effect.proofs.live.composites_in.Given as goal

abbrev pub invariant-loop-row : goal.invariant-loop-row
invariant-loop-row l = l.composites ≡ composites_in (take l.row-index l.rows) []
