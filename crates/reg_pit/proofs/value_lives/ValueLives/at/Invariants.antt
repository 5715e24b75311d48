use Rattle.std.proofs.Common.{◌≡◌, ◌++◌, map, filter}
use Rattle.reg_pit.specs.Lives.{stood}
use Rattle.reg_pit.specs.declared.value_lives.ValueLife.{ValueLife}
use Rattle.reg_pit.proofs.value_lives.ValueLives.at.Given as goal

-- the values so far, and those of the lives that are left, are all
abbrev pub invariant-loop-life : goal.invariant-loop-life
invariant-loop-life l =
    l.values ++ map (λ (life : ValueLife). life.value) (filter (stood l.t) l.life-iterator) ≡ map (λ (life : ValueLife). life.value) (filter (stood l.t) l.initial.life-iterator)
