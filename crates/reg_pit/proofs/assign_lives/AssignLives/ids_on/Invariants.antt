use Rattle.std.proofs.Common.{◌≡◌, ◌++◌}
use Rattle.reg_pit.specs.Lives.{ids_of}
use Rattle.reg_pit.proofs.assign_lives.AssignLives.ids_on.Given as goal

-- the ids so far, and those of the lives that are left, are all
abbrev pub invariant-loop-life : goal.invariant-loop-life
invariant-loop-life l = l.ids.items ++ ids_of l.life-iterator ≡ ids_of l.initial.life-iterator
