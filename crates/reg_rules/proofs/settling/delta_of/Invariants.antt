use Rattle.std.proofs.Common.{◌≡◌, ◌++◌, drop}
use Rattle.reg_rules.specs.Settling.{gains, losses}
use Rattle.reg_rules.proofs.settling.delta_of.Given as goal

abbrev pub invariant-loop-turn : goal.invariant-loop-turn
invariant-loop-turn l = record {
  began : l.began ++ gains (drop l.turn-index l.turns) ≡ gains l.turns;
  ended : l.ended ++ losses (drop l.turn-index l.turns) ≡ losses l.turns;
}
