-- The rows of one person at the front, and the others behind them.
use Rattle.std.proofs.Common.{◌≡◌, ◌≤◌, ◌<◌, ◌==◌, ℕ, zero, suc, List, [], ◌∷◌, true, false, Option, take, drop, map, arith, refl, sym, ◌∙◌, ap, inl, inr}
use Rattle.std.proofs.lemmas.Bool.{cases_Bool, eqb-true, eqb-false, ne_eqb, eq-eqb}
use Rattle.std.specs.List.{AllByRecursion, prefix_len}
use Rattle.reg_prov.specs.Spans.{ByPerson, spans_in}

abbrev pub Row : Type 0
Row = ℕ × ℕ × Option ℕ

abbrev pub span : Row → ℕ × Option ℕ
span row = (row.1, row.2)

abbrev pub front : ℕ → List Row → ℕ
front s rows = prefix_len (λ (row : Row). row.0 == s) rows

front_takes : (s : ℕ) (row : Row) (rows : List Row) → (row.0 == s) ≡ true → front s (row ∷ rows) ≡ suc (front s rows)
front_takes s row rows y = rw y (omega arith)

front_ends : (s : ℕ) (row : Row) (rows : List Row) → (row.0 == s) ≡ false → front s (row ∷ rows) ≡ zero
front_ends s row rows f = rw f refl

none_in : (s : ℕ) (rows : List Row) → AllByRecursion (λ (row : Row). s < row.0) rows → spans_in s rows ≡ []
none_in s [] h = refl
none_in s (row ∷ rows) h =
    let later : s < row.0 = h.0 in
    let other : (row.0 == s) ≡ false = ne_eqb row.0 s (λ e. absurd (omega (arith, e, later))) in
    rw other (none_in s rows h.1)

later_than : (s n : ℕ) (rows : List Row) → s < n → AllByRecursion (λ (row : Row). n ≤ row.0) rows → AllByRecursion (λ (row : Row). s < row.0) rows
later_than s n [] w h = tt
later_than s n (row ∷ rows) w h = let low : n ≤ row.0 = h.0 in (omega (arith, w, low), later_than s n rows w h.1)

-- the person comes first
pub front_is : (s : ℕ) (rows : List Row) → AllByRecursion (λ (row : Row). s ≤ row.0) rows → ByPerson rows → (map span (take (front s rows) rows) ≡ spans_in s rows) × (spans_in s (drop (front s rows) rows) ≡ [])
front_is s [] low up = (refl, refl)
front_is s (row ∷ rows) low up = elim (cases_Bool (row.0 == s)) [
  | inl y ↦
      let rest = front_is s rows low.1 up.1 in
      rw (front_takes s row rows y, y) (ap (λ (l : List (ℕ × Option ℕ)). span row ∷ l) rest.0, rest.1)
  | inr f ↦
      let least : s ≤ row.0 = low.0 in
      let apart : row.0 ≡ s → ⊥ = eqb-false row.0 s f in
      let none = none_in s rows (later_than s row.0 rows (omega (arith, least, apart)) up.0) in
      rw (front_ends s row rows f, f) (sym none, none)
]

-- what others have stands behind
pub others_behind : (s x : ℕ) (rows : List Row) → (s ≡ x → ⊥) → spans_in x (drop (front s rows) rows) ≡ spans_in x rows
others_behind s x [] ne = refl
others_behind s x (row ∷ rows) ne = elim (cases_Bool (row.0 == s)) [
  | inl y ↦
      let other : (row.0 == x) ≡ false = ne_eqb row.0 x (λ e. ne (sym (eqb-true row.0 s y) ∙ e)) in
      rw (front_takes s row rows y, other) (others_behind s x rows ne)
  | inr f ↦ rw (front_ends s row rows f) refl
]

pub behind_ordered : (k : ℕ) (rows : List Row) → ByPerson rows → ByPerson (drop k rows)
behind_ordered zero rows up = up
behind_ordered (suc k) [] up = tt
behind_ordered (suc k) (row ∷ rows) up = behind_ordered k rows up.1

pub front_some : (row : Row) (rows : List Row) → 1 ≤ front row.0 (row ∷ rows)
front_some row rows = let first : front row.0 (row ∷ rows) ≡ suc (front row.0 rows) = front_takes row.0 row rows (eq-eqb row.0 row.0 refl) in omega (arith, first)

pub first_has : (row : Row) (rows : List Row) → spans_in row.0 (row ∷ rows) ≡ [] → ⊥
first_has row rows h = let here : (row.0 == row.0) ≡ true = eq-eqb row.0 row.0 refl in let none = rw here at h in cc

pub front_least : (row : Row) (rows : List Row) → ByPerson (row ∷ rows) → AllByRecursion (λ (r : Row). row.0 ≤ r.0) (row ∷ rows)
front_least row rows up = (omega arith, up.0)
