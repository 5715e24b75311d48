-- The intervals of persons, one person after another, for all persons whose numbers are less than one.
use Rattle.std.proofs.Common.{◌≡◌, ◌+◌, ◌≤◌, ◌<◌, ◌==◌, ◌⊎◌, ℕ, zero, suc, List, [], ◌∷◌, ◌++◌, Bool, true, false, Option, map, arith, refl, sym, ◌∙◌, ap, subst, inl, inr}
use Rattle.std.proofs.lemmas.Bool.{cases_Bool, cases_lt, eq-eqb, eqb-false, eqb-true, ne_eqb}
use Rattle.std.proofs.lemmas.Bool.Decides.{nat_tests}
use Rattle.std.proofs.lemmas.Grind.{common_steps}
use Rattle.std.specs.List.{AllByRecursion, list_any}
use Rattle.std.specs.List.Sorted.{IsStrictlySortedBy}
use Rattle.std.specs.Ordering.{nat_cmp}
use Rattle.std.specs.declared.cmp.Ordering.TheVariants.{Less}
use Rattle.reg_pit.specs.Spans.{covers}
use Rattle.reg_prov.specs.Spans.{ByPerson, spans_in}
use Rattle.reg_prov.proofs.Rows.{Row}

-- so many numbers, from one on
abbrev pub numbers : ℕ → ℕ → List ℕ
numbers k zero = []
numbers k (suc n) = k ∷ numbers (suc k) n

less_is : (a b : ℕ) → a < b → nat_cmp a b ≡ Less
less_is a b w = grind (arith, nat_tests, common_steps, w)

itself : (k : ℕ) → k ≤ k
itself k = omega arith

all_later : (k j n : ℕ) → k < j → AllByRecursion (λ y. nat_cmp k y ≡ Less) (numbers j n)
all_later k j zero w = tt
all_later k j (suc n) w = (less_is k j w, all_later k (suc j) n (omega (arith, w)))

pub numbers_ascend : (k n : ℕ) → IsStrictlySortedBy nat_cmp (numbers k n)
unfolding IsStrictlySortedBy
numbers_ascend k zero = tt
numbers_ascend k (suc n) = (all_later k (suc k) n (omega arith), numbers_ascend (suc k) n)

has_number : (k n s : ℕ) → k ≤ s → s < k + n → list_any (λ x. x == s) (numbers k n) ≡ true
has_number k zero s w v = absurd (omega (arith, w, v))
has_number k (suc n) s w v = elim (cases_Bool (k == s)) [
  | inl y ↦ rw y refl
  | inr f ↦
      let apart : k ≡ s → ⊥ = eqb-false k s f in
      rw f (has_number (suc k) n s (omega (arith, w, apart)) (omega (arith, v)))
]

pub numbers_have : (n s : ℕ) → s < n → list_any (λ x. x == s) (numbers 0 n) ≡ true
numbers_have n s w = has_number 0 n s (omega arith) (omega (arith, w))

abbrev row : ℕ → ℕ × Option ℕ → Row
row s span = (s, span.0, span.1)

module _ (f : ℕ → List (ℕ × Option ℕ)) where
  -- what each of some persons has, one after another
  abbrev pub rows_of : List ℕ → List Row
  rows_of [] = []
  rows_of (s ∷ ss) = map (row s) (f s) ++ rows_of ss

  own_first : (s : ℕ) (spans : List (ℕ × Option ℕ)) (rows : List Row) → spans_in s (map (row s) spans ++ rows) ≡ spans ++ spans_in s rows
  own_first s [] rows = refl
  own_first s ((start, end) ∷ spans) rows = rw (eq-eqb s s refl) (ap (λ (l : List (ℕ × Option ℕ)). (start, end) ∷ l) (own_first s spans rows))

  others_pass : (x s : ℕ) (spans : List (ℕ × Option ℕ)) (rows : List Row) → (x ≡ s → ⊥) → spans_in s (map (row x) spans ++ rows) ≡ spans_in s rows
  others_pass x s [] rows ne = refl
  others_pass x s (span ∷ spans) rows ne = rw (ne_eqb x s ne) (others_pass x s spans rows ne)

  none_before : (s k n : ℕ) → s < k → spans_in s (rows_of (numbers k n)) ≡ []
  none_before s k zero w = refl
  none_before s k (suc n) w = others_pass k s (f k) (rows_of (numbers (suc k) n)) (λ e. absurd (omega (arith, e, w))) ∙ none_before s (suc k) n (omega (arith, w))

  none_behind : (s k n : ℕ) → k + n ≤ s → spans_in s (rows_of (numbers k n)) ≡ []
  none_behind s k zero w = refl
  none_behind s k (suc n) w = others_pass k s (f k) (rows_of (numbers (suc k) n)) (λ e. absurd (omega (arith, e, w))) ∙ none_behind s (suc k) n (omega (arith, w))

  append_none : (spans : List (ℕ × Option ℕ)) → spans ++ [] ≡ spans
  append_none [] = refl
  append_none (span ∷ spans) = ap (λ (l : List (ℕ × Option ℕ)). span ∷ l) (append_none spans)

  own_among : (s k n : ℕ) → k ≤ s → s < k + n → spans_in s (rows_of (numbers k n)) ≡ f s
  own_among s k zero w v = absurd (omega (arith, w, v))
  own_among s k (suc n) w v = elim (cases_Bool (k == s)) [
    | inl y ↦
        let same : k ≡ s = eqb-true k s y in
        let rest = none_before s (suc k) n (omega (arith, same)) in
        subst (λ (x : ℕ). spans_in s (map (row x) (f x) ++ rows_of (numbers (suc k) n)) ≡ f s) (sym same)
        (own_first s (f s) (rows_of (numbers (suc k) n)) ∙ (ap (λ (l : List (ℕ × Option ℕ)). f s ++ l) rest ∙ append_none (f s)))
    | inr g ↦
        let apart : k ≡ s → ⊥ = eqb-false k s g in
        others_pass k s (f k) (rows_of (numbers (suc k) n)) apart ∙ own_among s (suc k) n (omega (arith, w, apart)) (omega (arith, v))
  ]

  -- ---- persons ascend

  all_from : (low k n : ℕ) → low ≤ k → AllByRecursion (λ (r : Row). low ≤ r.0) (rows_of (numbers k n))
  all_from low k zero w = tt
  all_from low k (suc n) w = before (f k) (all_from low (suc k) n (omega (arith, w)))
    where
      before : (spans : List (ℕ × Option ℕ)) → AllByRecursion (λ (r : Row). low ≤ r.0) (rows_of (numbers (suc k) n)) → AllByRecursion (λ (r : Row). low ≤ r.0) (map (row k) spans ++ rows_of (numbers (suc k) n))
      before [] h = h
      before (span ∷ spans) h = (w, before spans h)

  pub rows_ordered : (k n : ℕ) → ByPerson (rows_of (numbers k n))
  rows_ordered k zero = tt
  rows_ordered k (suc n) = before (f k) (rows_ordered (suc k) n)
    where
      behind : (spans : List (ℕ × Option ℕ)) → AllByRecursion (λ (r : Row). k ≤ r.0) (map (row k) spans ++ rows_of (numbers (suc k) n))
      behind [] = all_from k (suc k) n (omega arith)
      behind (span ∷ spans) = (itself k, behind spans)

      before : (spans : List (ℕ × Option ℕ)) → ByPerson (rows_of (numbers (suc k) n)) → ByPerson (map (row k) spans ++ rows_of (numbers (suc k) n))
      before [] h = h
      before (span ∷ spans) h = (behind spans, before spans h)

  -- ---- when each was a member

  pub rows_cover : (member : ℕ → ℕ → Bool) (clock n : ℕ) → ((s t : ℕ) → t ≤ clock → covers (f s) t ≡ member t s) → ((t s : ℕ) → t ≤ clock → member t s ≡ true → s < n)
      → (s t : ℕ) → t ≤ clock → covers (spans_in s (rows_of (numbers 0 n))) t ≡ member t s
  rows_cover member clock n are known s t w = elim (cases_lt s n) [
    | inl v ↦ ap (λ (l : List (ℕ × Option ℕ)). covers l t) (own_among s 0 n (omega arith) (omega (arith, v))) ∙ are s t w
    | inr v ↦ ap (λ (l : List (ℕ × Option ℕ)). covers l t) (none_behind s 0 n (omega (arith, v))) ∙ sym (never (cases_Bool (member t s)) v)
  ]
    where
      never : ((member t s ≡ true) ⊎ (member t s ≡ false)) → n ≤ s → member t s ≡ false
      never (inl y) v = let low : s < n = known t s w y in absurd (omega (arith, low, v))
      never (inr f) v = f
