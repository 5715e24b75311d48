use Rattle.std.proofs.Common.{drop}
use Rattle.reg_load.specs.Loading.{AreNames}
use Rattle.reg_machine.proofs.planning.law_names.Given as goal

-- where the rest are names, all are
abbrev pub invariant-loop-name : goal.invariant-loop-name
invariant-loop-name l = AreNames (drop l.name-index l.names) → AreNames l.names
