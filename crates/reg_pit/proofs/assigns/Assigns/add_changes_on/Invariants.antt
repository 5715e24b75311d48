use Rattle.std.proofs.Common.{◌≡◌, ◌||◌, ℕ}
use Rattle.std.specs.List.{list_any}
use Rattle.reg_pit.specs.Changes.{among, assign_changes}
use Rattle.reg_pit.proofs.assigns.Assigns.add_changes_on.Given as goal

-- the moments so far, and those of the lives that are left, are all
abbrev pub invariant-loop-life : goal.invariant-loop-life
invariant-loop-life l = (m : ℕ) → (among m l.moments.keys || list_any (assign_changes l.fn.self.1 m) l.life-iterator) ≡ (among m l.fn.moments.keys || list_any (assign_changes l.fn.self.1 m) l.initial.life-iterator)
