use Rattle.std.proofs.Common.{◌≡◌, false}
use Rattle.worked.proofs.tests.keepers.acknowledged.Given as goal

abbrev pub invariant-loop-n : goal.invariant-loop-n
invariant-loop-n g l = g.K.Keeper.has_failed l.keeper ≡ false
