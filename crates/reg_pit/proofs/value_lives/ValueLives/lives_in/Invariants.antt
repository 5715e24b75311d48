use Rattle.std.proofs.Common.{◌≡◌, ◌++◌}
use Rattle.reg_pit.proofs.value_lives.ValueLives.lives_in.Given as goal

-- the lives so far, and those that are left, are all
abbrev pub invariant-loop-life : goal.invariant-loop-life
invariant-loop-life l = l.lives.items ++ l.life-iterator ≡ l.initial.life-iterator
