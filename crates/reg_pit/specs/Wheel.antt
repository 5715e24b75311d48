-- The wheel group as it was noted.
use Rattle.std.specs.Prelude.{◌≤◌, ℕ, List, [], ◌∷◌, Option, None, nat_le, if◌then◌else◌}
use Rattle.std.specs.List.{AllByRecursion}

-- what was noted last up to a moment, of notes in the order of their moments, where something was
-- noted before them
abbrev pub last_up_to : ℕ → Option ℕ → List (ℕ × Option ℕ) → Option ℕ
last_up_to t before [] = before
last_up_to t before (note ∷ notes) = last_up_to t (if nat_le note.0 t then note.1 else before) notes

-- what was noted last up to a moment, of notes in the order of their moments
abbrev pub noted_at : List (ℕ × Option ℕ) → ℕ → Option ℕ
noted_at notes t = last_up_to t None notes

-- nothing was noted later than a moment
abbrev pub AreNotedBy : ℕ → List (ℕ × Option ℕ) → Type 0
AreNotedBy at notes = AllByRecursion (λ note. note.0 ≤ at) notes
