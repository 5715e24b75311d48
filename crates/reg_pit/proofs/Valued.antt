-- Lives of values: what stood at each moment, and what is left when the first of them goes.
use Rattle.std.proofs.Common.{◌≡◌, ◌≤◌, ◌==◌, ◌&&◌, ◌++◌, ◌∙◌, ℕ, suc, List, [], ◌∷◌, Bool, true, false, length, Option, Some, None, map, filter, nat_le, nat_lt, if◌then◌else◌, arith, ap, refl, sym, inl, inr}
use Rattle.std.specs.List.{position_or_len, remove}
use Rattle.std.proofs.lemmas.Bool.{cases_Bool, ne_eqb, eqb-true, and_parts, and_left, and_right, and_cases, lt-ltb, le-ltb, eq-eqb, cases_eq, leb-true, ltb-true, ltb-false}
use Rattle.std.proofs.lemmas.Bool.Decides.{nat_tests, Decides-int_eq}
use Rattle.std.proofs.lemmas.Slice.Eq.{bytes_eq-Decides}
use Rattle.std.proofs.lemmas.Grind.{common_steps}
use Rattle.reg_terms.specs.Values.{same_value, without_first}
use Rattle.reg_terms.specs.declared.kinds.AttrValue.{AttrValue}
use Rattle.reg_terms.specs.declared.kinds.AttrValue.TheVariants as attr
use Rattle.reg_pit.specs.Spans.{has_moment}
use Rattle.reg_pit.specs.Lives.{IsBy, stood, is_open, values_at, AreValuesBy}
use Rattle.reg_pit.specs.declared.value_lives.ValueLife.{ValueLife}
use Rattle.reg_pit.proofs.Ending.{by_later}

-- ---- the first of some values goes

without_at : ℕ → List AttrValue → List AttrValue
without_at n xs = elim (if nat_lt n (length xs) then Some n else None) [ None ↦ xs | Some n ↦ remove xs n ]

without_later : (n k : ℕ) (x : AttrValue) (xs : List AttrValue) → n ≡ suc k → without_at n (x ∷ xs) ≡ x ∷ without_at k xs
unfolding without_at
without_later n k x xs e = elim (cases_Bool (nat_lt k (length xs))) [
  | inl t ↦
      let low = ltb-true k (length xs) t in
      rw (e, lt-ltb (suc k) (suc (length xs)) (omega (arith, low)), t, without_at) refl
  | inr t ↦
      let high = ltb-false k (length xs) t in
      rw (e, le-ltb (suc k) (suc (length xs)) (omega (arith, high)), t, without_at) refl
]

pub without_here : (v x : AttrValue) (xs : List AttrValue) → same_value x v ≡ true → without_first v (x ∷ xs) ≡ xs
without_here v x xs h = rw (h, lt-ltb 0 (suc (length xs)) (omega arith), without_first) refl

one_later : (v x : AttrValue) (xs : List AttrValue) → same_value x v ≡ false → position_or_len (λ y. same_value y v) (x ∷ xs) ≡ suc (position_or_len (λ y. same_value y v) xs)
one_later v x xs h = rw h (omega arith)

pub without_there : (v x : AttrValue) (xs : List AttrValue) → same_value x v ≡ false → without_first v (x ∷ xs) ≡ x ∷ without_first v xs
unfolding without_at
without_there v x xs h = without_later (position_or_len (λ y. same_value y v) (x ∷ xs)) (position_or_len (λ y. same_value y v) xs) x xs (one_later v x xs h)

-- two values that are one are equal
pub same_is : (a b : AttrValue) → same_value a b ≡ true → a ≡ b
same_is (attr.Int a) (attr.Int b) h = ap (λ n. attr.Int n) ((Decides-int_eq a b).0 h)
same_is (attr.Text a) (attr.Text b) h = ap (λ t. attr.Text t) ((bytes_eq-Decides a b).0 h)
same_is (attr.Moment a) (attr.Moment b) h = ap (λ m. attr.Moment m) (eqb-true a b h)
same_is _ _ h = cc

-- ---- what stands, and what stood

-- whether a value stands in an assignment
abbrev pub stands : ℕ → ValueLife → Bool
stands a life = (life.assign == a) && is_open life

-- the values that stand in an assignment
abbrev pub standing_in : List ValueLife → ℕ → List AttrValue
standing_in values a = map (λ (life : ValueLife). life.value) (filter (stands a) values)

open_as : (at t s : ℕ) (end : Option ℕ) (life : ValueLife) → at ≤ t → IsBy at (s, end) → has_moment t (s, end) ≡ is_open (record life { until = end })
open_as at t s None life w h = grind (arith, nat_tests, common_steps)
open_as at t s (Some e) life w h = let to = h.1 in grind (arith, nat_tests, common_steps)

-- from the last note on what stands is what stood
pub stood_last : (at t a : ℕ) (values : List ValueLife) → at ≤ t → AreValuesBy at values → values_at values a t ≡ standing_in values a
stood_last at t a [] w h = refl
stood_last at t a (life ∷ values) w h =
    let same : stood t life ≡ is_open life = open_as at t life.from life.until life w h.0 in
    let rest = stood_last at t a values w h.1 in
    elim (cases_Bool (life.assign == a)) [
      | inl k ↦ elim (cases_Bool (is_open life)) [
        | inl m ↦ rw (same, k, m) (ap (λ vs. life.value ∷ vs) rest)
        | inr m ↦ rw (same, k, m) rest
      ]
      | inr k ↦ rw k rest
    ]

-- ---- the first of those that stand goes

-- whether a life is that of a value that stands in an assignment and is this one
abbrev pub is_first : ℕ → AttrValue → ValueLife → Bool
is_first a v life = (life.assign == a) && (is_open life && same_value life.value v)

-- a life that ends at a moment, as lives: none where it would be empty
abbrev pub closed : ℕ → ValueLife → List ValueLife
closed at life = if nat_lt life.from at then (record life { until = Some at }) ∷ [] else []

-- without the first value that is this one
abbrev pub first_closed : ℕ → ℕ → AttrValue → List ValueLife → List ValueLife
first_closed at a v [] = []
first_closed at a v (life ∷ values) = if is_first a v life then closed at life ++ values else life ∷ first_closed at a v values

module _ (at a : ℕ) (v : AttrValue) where
  closed_by : (life : ValueLife) → IsBy at (life.from, life.until) → AreValuesBy at (closed at life)
  closed_by life h = elim (cases_Bool (nat_lt life.from at)) [
    | inl w ↦ let before = ltb-true life.from at w in rw w ((omega arith, omega arith), tt)
    | inr w ↦ rw w tt
  ]

  both_by : (xs ys : List ValueLife) → AreValuesBy at xs → AreValuesBy at ys → AreValuesBy at (xs ++ ys)
  both_by [] ys h k = k
  both_by (x ∷ xs) ys h k = (h.0, both_by xs ys h.1 k)

  pub less_by : (values : List ValueLife) → AreValuesBy at values → AreValuesBy at (first_closed at a v values)
  less_by [] h = tt
  less_by (life ∷ values) h = elim (cases_Bool (is_first a v life)) [
    | inl k ↦ rw k (both_by (closed at life) values (closed_by life h.0) h.1)
    | inr k ↦ rw k (h.0, less_by values h.1)
  ]

  -- none that is closed stands
  none_open : (b : ℕ) (life : ValueLife) (values : List ValueLife) → standing_in (closed at life ++ values) b ≡ standing_in values b
  none_open b life values = elim (cases_Bool (nat_lt life.from at)) [
    | inl w ↦ elim (cases_Bool (life.assign == b)) [
      | inl k ↦ rw (w, k) refl
      | inr k ↦ rw (w, k) refl
    ]
    | inr w ↦ rw w refl
  ]

  pub closed_here : (life : ValueLife) (values : List ValueLife) → is_first a v life ≡ true → first_closed at a v (life ∷ values) ≡ closed at life ++ values
  closed_here life values h = rw h refl

  pub closed_there : (life : ValueLife) (values : List ValueLife) → is_first a v life ≡ false → first_closed at a v (life ∷ values) ≡ life ∷ first_closed at a v values
  closed_there life values h = rw h refl

  standing_more : (life : ValueLife) (values : List ValueLife) → stands a life ≡ true → standing_in (life ∷ values) a ≡ life.value ∷ standing_in values a
  standing_more life values h = rw h refl

  standing_same : (life : ValueLife) (values : List ValueLife) → stands a life ≡ false → standing_in (life ∷ values) a ≡ standing_in values a
  standing_same life values h = rw h refl

  -- a value that stands, and is this one or another, and one that doesn't stand
  first_is : (life : ValueLife) → stands a life ≡ true → same_value life.value v ≡ true → is_first a v life ≡ true
  first_is life h k = let parts = and_parts (life.assign == a) (is_open life) h in rw (parts.0, parts.1, k) refl

  other_is : (life : ValueLife) → same_value life.value v ≡ false → is_first a v life ≡ false
  other_is life k = and_right (life.assign == a) (is_open life && same_value life.value v) (and_right (is_open life) (same_value life.value v) k)

  none_is : (life : ValueLife) → stands a life ≡ false → is_first a v life ≡ false
  none_is life h = elim (and_cases (life.assign == a) (is_open life) h) [
    | inl k ↦ and_left (life.assign == a) (is_open life && same_value life.value v) k
    | inr k ↦ and_right (life.assign == a) (is_open life && same_value life.value v) (and_left (is_open life) (same_value life.value v) k)
  ]

  pub first_gone : (values : List ValueLife) → standing_in (first_closed at a v values) a ≡ without_first v (standing_in values a)
  first_gone [] = refl
  first_gone (life ∷ values) = elim (cases_Bool (stands a life)) [
    | inl k ↦ elim (cases_Bool (same_value life.value v)) [
      | inl n ↦
          ap (λ xs. standing_in xs a) (closed_here life values (first_is life k n))
          ∙ (none_open a life values ∙ (sym (without_here v life.value (standing_in values a) n) ∙ ap (without_first v) (sym (standing_more life values k))))
      | inr n ↦
          ap (λ xs. standing_in xs a) (closed_there life values (other_is life n))
          ∙ (standing_more life (first_closed at a v values) k ∙ (ap (λ vs. life.value ∷ vs) (first_gone values)
          ∙ (sym (without_there v life.value (standing_in values a) n) ∙ ap (without_first v) (sym (standing_more life values k)))))
    ]
    | inr k ↦
        ap (λ xs. standing_in xs a) (closed_there life values (none_is life k))
        ∙ (standing_same life (first_closed at a v values) k ∙ (first_gone values ∙ ap (without_first v) (sym (standing_same life values k))))
  ]

  other_assign : (b : ℕ) (life : ValueLife) → (b ≡ a → ⊥) → life.assign ≡ a → (life.assign == b) ≡ false
  other_assign b life d e = ne_eqb life.assign b (λ h. d (sym h ∙ e))

  values_more : (b t : ℕ) (life : ValueLife) (xs ys : List ValueLife) → values_at xs b t ≡ values_at ys b t → values_at (life ∷ xs) b t ≡ values_at (life ∷ ys) b t
  values_more b t life xs ys e = elim (cases_Bool ((life.assign == b) && stood t life)) [
    | inl m ↦ rw m (ap (λ vs. life.value ∷ vs) e)
    | inr m ↦ rw m e
  ]

  values_same : (b t : ℕ) (life : ValueLife) (xs : List ValueLife) → ((life.assign == b) && stood t life) ≡ false → values_at (life ∷ xs) b t ≡ values_at xs b t
  values_same b t life xs h = rw h refl

  closed_apart : (b t : ℕ) (life : ValueLife) (values : List ValueLife) → (life.assign == b) ≡ false → values_at (closed at life ++ values) b t ≡ values_at values b t
  closed_apart b t life values h = elim (cases_Bool (nat_lt life.from at)) [
    | inl w ↦ rw (w, h) refl
    | inr w ↦ rw w refl
  ]

  pub others_stay : (b t : ℕ) (values : List ValueLife) → (b ≡ a → ⊥) → values_at (first_closed at a v values) b t ≡ values_at values b t
  others_stay b t [] d = refl
  others_stay b t (life ∷ values) d = elim (cases_Bool (is_first a v life)) [
    | inl k ↦
        let other : (life.assign == b) ≡ false = other_assign b life d (eqb-true life.assign a ((and_parts _ _ k).0)) in
        ap (λ xs. values_at xs b t) (closed_here life values k)
        ∙ (closed_apart b t life values other ∙ sym (values_same b t life values (rw other refl)))
    | inr k ↦ ap (λ xs. values_at xs b t) (closed_there life values k) ∙ values_more b t life (first_closed at a v values) values (others_stay b t values d)
  ]

  -- before the moment all stands as it stood
  cut_before : (t s : ℕ) (end : Option ℕ) (life : ValueLife) → is_open (record life { until = end }) ≡ true → nat_le at t ≡ false → has_moment t (s, Some at) ≡ has_moment t (s, end)
  cut_before t s None life o w = grind (arith, nat_tests, common_steps)
  cut_before t s (Some e) life o w = cc

  empty_before : (t s : ℕ) (end : Option ℕ) → nat_le at t ≡ false → nat_lt s at ≡ false → has_moment t (s, end) ≡ false
  empty_before t s None w k = grind (arith, nat_tests, common_steps)
  empty_before t s (Some e) w k = grind (arith, nat_tests, common_steps)

  cut_values : (b t : ℕ) (life : ValueLife) (values : List ValueLife)
      → map (λ (x : ValueLife). x.value) (if (life.assign == b) && stood t life then (record life { until = Some at }) ∷ filter (λ (x : ValueLife). (x.assign == b) && stood t x) values else filter (λ (x : ValueLife). (x.assign == b) && stood t x) values)
      ≡ values_at (life ∷ values) b t
  cut_values b t life values = elim (cases_Bool ((life.assign == b) && stood t life)) [
    | inl m ↦ rw m refl
    | inr m ↦ rw m refl
  ]

  closed_before : (b t : ℕ) (life : ValueLife) (values : List ValueLife) → is_open life ≡ true → nat_le at t ≡ false → values_at (closed at life ++ values) b t ≡ values_at (life ∷ values) b t
  closed_before b t life values o w = elim (cases_Bool (nat_lt life.from at)) [
    | inl m ↦ rw (m, cut_before t life.from life.until life o w) (cut_values b t life values)
    | inr m ↦ rw m (sym (values_same b t life values (rw (empty_before t life.from life.until w m) (and_right (life.assign == b) false refl))))
  ]

  pub before_stays : (b t : ℕ) (values : List ValueLife) → nat_le at t ≡ false → values_at (first_closed at a v values) b t ≡ values_at values b t
  before_stays b t [] w = refl
  before_stays b t (life ∷ values) w = elim (cases_Bool (is_first a v life)) [
    | inl k ↦ ap (λ xs. values_at xs b t) (closed_here life values k) ∙ closed_before b t life values ((and_parts _ _ ((and_parts _ _ k).1)).0) w
    | inr k ↦ ap (λ xs. values_at xs b t) (closed_there life values k) ∙ values_more b t life (first_closed at a v values) values (before_stays b t values w)
  ]

-- the values at each moment, once the first is gone
pub first_removed : (at a : ℕ) (v : AttrValue) (values : List ValueLife) (b t : ℕ) → AreValuesBy at values
    → values_at (first_closed at a v values) b t ≡ (if (b == a) && nat_le at t then without_first v (values_at values b t) else values_at values b t)
first_removed at a v values b t h = elim (cases_Bool (nat_le at t)) [
  | inr w ↦ rw (w, and_right (b == a) false refl) (before_stays at a v b t values w)
  | inl w ↦ elim (cases_eq b a) [
    | inl e ↦
        let late = leb-true at t w in
        rw (e, eq-eqb a a refl, w) (stood_last at t a (first_closed at a v values) late (less_by at a v values h) ∙ (first_gone at a v values ∙ ap (without_first v) (sym (stood_last at t a values late h))))
    | inr d ↦ rw (ne_eqb b a d) (others_stay at a v b t values d)
  ]
]

-- ---- from the last note on all stays

pub values_stay : (at t a : ℕ) (values : List ValueLife) → at ≤ t → AreValuesBy at values → values_at values a t ≡ values_at values a at
values_stay at t a values w h = stood_last at t a values w h ∙ sym (stood_last at at a values (omega arith) h)

pub values_later : (a b : ℕ) (values : List ValueLife) → a ≤ b → AreValuesBy a values → AreValuesBy b values
values_later a b [] w h = tt
values_later a b (life ∷ values) w h = (by_later a b life.from life.until w h.0, values_later a b values w h.1)
