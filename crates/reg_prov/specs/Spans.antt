-- Intervals of moments: from a start until just before an end, or without an end.
use Rattle.std.specs.Prelude.{◌≤◌, ⊤, ℕ, ◌==◌, ◌&&◌, List, [], ◌∷◌, Bool, Option, Some, None}
use Rattle.std.specs.Prelude.{if◌then◌else◌}
use Rattle.std.specs.List.{AllByRecursion, flat_map}
use Rattle.reg_pit.specs.Spans.{covers}

-- whether a pair is wanted at a moment: the group was granted, and the person was a member
abbrev pub wished : List (ℕ × Option ℕ) → List (ℕ × Option ℕ) → ℕ → Bool
wished grants members t = covers grants t && covers members t

-- the moments at which an interval begins and ends
abbrev pub limits : ℕ × Option ℕ → List ℕ
limits (start, None) = start ∷ []
limits (start, Some end) = start ∷ end ∷ []

abbrev pub limits_of : List (ℕ × Option ℕ) → List ℕ
limits_of spans = flat_map limits spans

-- the intervals of a person, among those of several
abbrev pub spans_in : ℕ → List (ℕ × ℕ × Option ℕ) → List (ℕ × Option ℕ)
spans_in s [] = []
spans_in s (row ∷ rows) = if row.0 == s then (row.1, row.2) ∷ spans_in s rows else spans_in s rows

-- the intervals of one person stand together, and persons ascend
abbrev pub ByPerson : List (ℕ × ℕ × Option ℕ) → Type 0
ByPerson [] = ⊤
ByPerson (row ∷ rows) =
    AllByRecursion (λ (later : ℕ × ℕ × Option ℕ). row.0 ≤ later.0) rows × ByPerson rows
