use Rattle.std.proofs.Common.{◌≡◌, ◌++◌, drop}
use Rattle.reg_rules.proofs.settling.listed.Given as goal

abbrev pub invariant-loop-pair : goal.invariant-loop-pair
invariant-loop-pair l = l.list ++ drop l.pair-index l.pairs ≡ l.pairs
