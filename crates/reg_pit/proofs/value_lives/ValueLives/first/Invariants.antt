use Rattle.std.proofs.Common.{◌≡◌}
use Rattle.reg_pit.proofs.Numbered.{seek}
use Rattle.reg_pit.proofs.value_lives.ValueLives.first.Given as goal

-- the first of those that are left is the first of all
abbrev pub invariant-loop-standing : goal.invariant-loop-standing
invariant-loop-standing l = seek l.fn.assign l.fn.value l.self-inside.values l.standing-iterator ≡ seek l.fn.assign l.fn.value l.self-inside.values l.initial.standing-iterator
