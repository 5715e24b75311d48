-- The certified moments of a stretch, one after another.
use Rattle.std.specs.Prelude.{◌<◌, ◌≤◌, ℕ, List, [], ◌∷◌}
use Rattle.std.specs.List.{AllByRecursion, Contains}

-- no certified moment lies between two moments
abbrev pub NoneBetween : List ℕ → ℕ → ℕ → Type 0
NoneBetween certified from end = AllByRecursion (λ c. from < c → c < end → ⊥) certified

-- all certified moments after a moment and before an end, none before the one in front of it
abbrev pub AllBetween : List ℕ → ℕ → ℕ → List ℕ → Type 0
AllBetween certified from end [] = NoneBetween certified from end
AllBetween certified from end (c ∷ more) =
    (from ≤ c) × (c < end) × Contains certified c × NoneBetween certified from c
    × AllBetween certified c end more
