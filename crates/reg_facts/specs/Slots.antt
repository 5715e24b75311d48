-- Rows that stand in slots: each at the place of its number, and none where a row was taken away.
use Rattle.std.specs.Prelude.{◌≡◌, ⊤, ℕ, suc, List, [], ◌∷◌, Option, None, Some}
use Rattle.std.specs.List.{filter_map}

-- the rows that are there
abbrev pub present : {R : Type 0} → List (Option R) → List R
present slots = filter_map (λ slot. slot) slots

-- each row stands at the place of its number, where the first place is the one of this number
abbrev pub AtPlaces : {R : Type 0} → (R → ℕ) → ℕ → List (Option R) → Type 0
AtPlaces number n [] = ⊤
AtPlaces number n (None ∷ slots) = AtPlaces number (suc n) slots
AtPlaces number n (Some row ∷ slots) = (number row ≡ n) × AtPlaces number (suc n) slots
