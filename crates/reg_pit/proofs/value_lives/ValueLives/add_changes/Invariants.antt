use Rattle.std.proofs.Common.{◌≡◌, ◌||◌, ℕ}
use Rattle.reg_pit.specs.Changes.{among}
use Rattle.reg_pit.proofs.Changes.{any_end}
use Rattle.reg_pit.proofs.value_lives.ValueLives.add_changes.Given as goal

-- the moments so far, and those of the lives that are left, are all
abbrev pub invariant-loop-life : goal.invariant-loop-life
invariant-loop-life l = (m : ℕ) → (among m l.moments.keys || any_end m l.life-iterator) ≡ (among m l.fn.moments.keys || any_end m l.initial.life-iterator)
