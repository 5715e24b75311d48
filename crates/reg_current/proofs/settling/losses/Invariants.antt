use Rattle.std.proofs.Common.{◌≡◌, ◌++◌, drop}
use Rattle.reg_rules.specs.Settling.{losses}
use Rattle.reg_current.proofs.settling.losses.Given as goal

abbrev pub invariant-loop-turn : goal.invariant-loop-turn
invariant-loop-turn l = l.ended ++ losses (drop l.turn-index l.turns) ≡ losses l.turns
