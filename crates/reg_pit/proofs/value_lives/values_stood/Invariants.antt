use Rattle.std.proofs.Common.{◌≡◌, ◌++◌, drop}
use Rattle.reg_pit.specs.Owned.{values_stood}
use Rattle.reg_pit.proofs.value_lives.values_stood.Given as goal

-- the values so far, and those of the lives that are left, are all
abbrev pub invariant-loop-life : goal.invariant-loop-life
invariant-loop-life l = l.values ++ values_stood l.t (drop l.life-index l.lives) ≡ values_stood l.t l.lives
