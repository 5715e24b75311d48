-- Lives of values by their numbers: those that stand are found, and the first that is one goes.
use Rattle.std.proofs.Common.{◌≡◌, ◌≤◌, ◌<◌, ◌==◌, ◌&&◌, ◌++◌, ◌∙◌, ◌+◌, ℕ, suc, List, [], ◌∷◌, Bool, true, false, Option, Some, None, map, filter, not, nat_le, nat_lt, if◌then◌else◌, arith, ap, refl, subst, sym, inl, inr}
use Rattle.std.specs.List.{AllByRecursion, find, list_any}
use Rattle.std.specs.Ordering.{nat_cmp, ordering_then}
use Rattle.std.specs.declared.cmp.Ordering.{Ordering}
use Rattle.std.specs.declared.cmp.Ordering.TheVariants.{Equal, Greater}
use Rattle.std.proofs.lemmas.Bool.{cases_Bool, ne_eqb, eq-eqb, eqb-true, and_parts, and_left, and_right, and_cases, false_from_ne_true}
use Rattle.std.proofs.lemmas.Bool.Decides.{nat_tests}
use Rattle.std.proofs.lemmas.Grind.{common_steps}
use Rattle.reg_table.specs.Keyed.{in_order}
use Rattle.reg_terms.specs.Digests.{digest}
use Rattle.reg_terms.specs.Values.{same_value}
use Rattle.reg_terms.specs.declared.kinds.AttrValue.{AttrValue}
use Rattle.reg_pit.specs.Lives.{Rising, stood, is_open, values_at, is_numbered, first_open, closed_in, AreValues, standing_of}
use Rattle.reg_pit.specs.declared.value_lives.ValueLife.{ValueLife}
use Rattle.reg_pit.specs.declared.value_lives.Standing.{Standing}
use Rattle.reg_pit.proofs.Rising.{none_behind, all_above, untouched, rising_push, rising_lower, rising_less, in_order_already}
use Rattle.reg_pit.proofs.Valued.{same_is, is_first, closed, first_closed}

-- whether a value stands in an assignment, by its digest
abbrev pub is_of : ℕ → ℕ → Standing → Bool
is_of a d s = (s.assign == a) && (s.digest == d)

abbrev pub is_standing : ℕ → ℕ → ℕ → Standing → Bool
is_standing a d n s = is_of a d s && (s.number == n)

abbrev numbers : List ValueLife → List ℕ
numbers values = map (λ (life : ValueLife). suc life.number) values

abbrev pub standings : List ValueLife → List Standing
standings values = map standing_of (filter is_open values)

-- ---- the next number is new

below_apart : (n k : ℕ) → n < k → (n == k) ≡ false
below_apart n k w = ne_eqb n k (λ e. absurd (omega (arith, e, w)))

pub none_numbered : (a next : ℕ) (values : List ValueLife) → AllByRecursion (λ (life : ValueLife). life.number < next) values → list_any (is_numbered a next) values ≡ false
none_numbered a next [] h = refl
none_numbered a next (life ∷ values) h = rw (and_right (life.assign == a) (life.number == next) (below_apart life.number next h.0)) (none_numbered a next values h.1)

pub none_standing : (a d next : ℕ) (values : List ValueLife) → AllByRecursion (λ (life : ValueLife). life.number < next) values → list_any (is_standing a d next) (standings values) ≡ false
none_standing a d next [] h = refl
none_standing a d next (life ∷ values) h = elim (cases_Bool (is_open life)) [
  | inl t ↦ rw (t, and_right (is_of a d (standing_of life)) (life.number == next) (below_apart life.number next h.0)) (none_standing a d next values h.1)
  | inr t ↦ rw t (none_standing a d next values h.1)
]

all_up : (next : ℕ) (values : List ValueLife) → AllByRecursion (λ (life : ValueLife). life.number < next) values → AllByRecursion (λ (life : ValueLife). suc life.number ≤ next) values
all_up next [] h = tt
all_up next (life ∷ values) h = let low = h.0 in (omega (arith, low), all_up next values h.1)

below_push : (next later : ℕ) (values : List ValueLife) (life : ValueLife) → AllByRecursion (λ (x : ValueLife). x.number < next) values → next ≤ later → life.number < later
    → AllByRecursion (λ (x : ValueLife). x.number < later) (values ++ life ∷ [])
below_push next later [] life h w v = (v, tt)
below_push next later (x ∷ xs) life h w v = let low = h.0 in (omega (arith, low, w), below_push next later xs life h.1 w v)

standings_push : (values : List ValueLife) (life : ValueLife) → is_open life ≡ true → standings (values ++ life ∷ []) ≡ standings values ++ standing_of life ∷ []
standings_push [] life h = rw h refl
standings_push (x ∷ xs) life h = elim (cases_Bool (is_open x)) [
  | inl t ↦ rw t (ap (λ ss. standing_of x ∷ ss) (standings_push xs life h))
  | inr t ↦ rw t (standings_push xs life h)
]

pub values_more : (values : List ValueLife) (standing : List Standing) (next later : ℕ) (life : ValueLife) → AreValues values standing next → later ≡ next + 1 → life.number ≡ next → is_open life ≡ true
    → AreValues (values ++ life ∷ []) (standing ++ standing_of life ∷ []) later
values_more values standing next later life h e n o = record {
  rising = rising_push (λ (x : ValueLife). suc x.number) 0 next values life h.rising (all_up next values h.below) (omega arith) (omega (arith, n));
  below = below_push next later values life h.below (omega (arith, e)) (omega (arith, e, n));
  known = ap (λ (ss : List Standing). ss ++ standing_of life ∷ []) h.known ∙ sym (standings_push values life o);
}

-- ---- a value that stands is found

abbrev pub seek : ℕ → AttrValue → List ValueLife → List Standing → Option ValueLife
seek a v values [] = None
seek a v values (s ∷ ss) = elim (find (is_numbered a s.number) values) [ None ↦ seek a v values ss | Some life ↦ if same_value life.value v then Some life else seek a v values ss ]

abbrev Found : List ValueLife → List ValueLife → Type 0
Found values some = AllByRecursion (λ (life : ValueLife). find (is_numbered life.assign life.number) values ≡ Some life) some

found_later : (x : ValueLife) (values some : List ValueLife) → Found values some → AllByRecursion (λ (life : ValueLife). suc x.number < suc life.number) some → Found (x ∷ values) some
found_later x values [] h w = tt
found_later x values (life ∷ some) h w =
    let above = w.0 in
    let apart : x.number < life.number = omega (arith, above) in
    (rw (and_right (x.assign == life.assign) (x.number == life.number) (below_apart x.number life.number apart)) h.0, found_later x values some h.1 w.1)

all_found : (floor : ℕ) (values : List ValueLife) → Rising floor (numbers values) → Found values values
all_found floor [] h = tt
all_found floor (x ∷ xs) h =
    (rw (eq-eqb x.assign x.assign refl, eq-eqb x.number x.number refl) refl, found_later x xs xs (all_found (suc x.number) xs h.1) (all_above (λ (life : ValueLife). suc life.number) (suc x.number) (suc x.number) xs h.1 (omega arith)))

seek_more : (a : ℕ) (v : AttrValue) (values : List ValueLife) (s : Standing) (ss : List Standing) (life : ValueLife) → find (is_numbered a s.number) values ≡ Some life
    → seek a v values (s ∷ ss) ≡ (if same_value life.value v then Some life else seek a v values ss)
seek_more a v values s ss life h = rw (h, seek) refl

pub seek_here : (a : ℕ) (v : AttrValue) (values : List ValueLife) (s : Standing) (ss : List Standing) (life : ValueLife) → find (is_numbered a s.number) values ≡ Some life → same_value life.value v ≡ true → seek a v values (s ∷ ss) ≡ Some life
seek_here a v values s ss life h k = seek_more a v values s ss life h ∙ rw k refl

pub seek_past : (a : ℕ) (v : AttrValue) (values : List ValueLife) (s : Standing) (ss : List Standing) (life : ValueLife) → find (is_numbered a s.number) values ≡ Some life → same_value life.value v ≡ false → seek a v values (s ∷ ss) ≡ seek a v values ss
seek_past a v values s ss life h k = seek_more a v values s ss life h ∙ rw k refl

pub seek_none : (a : ℕ) (v : AttrValue) (values : List ValueLife) (s : Standing) (ss : List Standing) → find (is_numbered a s.number) values ≡ None → seek a v values (s ∷ ss) ≡ seek a v values ss
seek_none a v values s ss h = rw (h, seek) refl

-- a value that stands in an assignment and isn't of a digest isn't one that is
other_digest : (v w : AttrValue) → (digest w == digest v) ≡ false → same_value w v ≡ false
other_digest v w h = false_from_ne_true (same_value w v) (λ t. let clash : true ≡ false = sym (eq-eqb (digest w) (digest v) (ap digest (same_is w v t))) ∙ h in cc)

seek_some : (a : ℕ) (v : AttrValue) (values some : List ValueLife) → Found values some → seek a v values (filter (is_of a (digest v)) (standings some)) ≡ first_open a v some
seek_some a v values [] h = refl
seek_some a v values (life ∷ some) h =
    let rest = seek_some a v values some h.1 in
    elim (cases_Bool (is_open life)) [
      | inl o ↦ elim (cases_Bool (life.assign == a)) [
        | inl t ↦ elim (cases_Bool (digest life.value == digest v)) [
          | inl d ↦
              let found : find (is_numbered a life.number) values ≡ Some life = subst (λ b. find (is_numbered b life.number) values ≡ Some life) (eqb-true life.assign a t) h.0 in
              elim (cases_Bool (same_value life.value v)) [
                | inl s ↦ rw (o, t, d, s) (seek_more a v values (standing_of life) (filter (is_of a (digest v)) (standings some)) life found ∙ rw s refl)
                | inr s ↦ rw (o, t, d, s) (seek_more a v values (standing_of life) (filter (is_of a (digest v)) (standings some)) life found ∙ rw s rest)
              ]
          | inr d ↦ rw (o, t, d, other_digest v life.value d) rest
        ]
        | inr t ↦ rw (o, t) rest
      ]
      | inr o ↦ rw (o, and_right (life.assign == a) false refl) rest
    ]

pub first_sought : (a : ℕ) (v : AttrValue) (values : List ValueLife) → Rising 0 (numbers values) → seek a v values (filter (is_of a (digest v)) (standings values)) ≡ first_open a v values
first_sought a v values r = seek_some a v values values (all_found 0 values r)

-- ---- in order

equal_number : (n : ℕ) → nat_cmp n n ≡ Equal
equal_number n = grind (arith, nat_tests, common_steps)

greater_number : (a b : ℕ) → b < a → nat_cmp a b ≡ Greater
greater_number a b w = grind (arith, nat_tests, common_steps)

-- the orders of the tables: by assignment, of those that stand by digest, and then by number
abbrev pub standing_order : Standing → Standing → Ordering
standing_order a b = ordering_then (ordering_then (nat_cmp a.assign b.assign) (nat_cmp a.digest b.digest)) (nat_cmp a.number b.number)

abbrev pub value_order : ValueLife → ValueLife → Ordering
value_order a b = ordering_then (nat_cmp a.assign b.assign) (nat_cmp a.number b.number)

later_standing : (a d : ℕ) (x y : Standing) → is_of a d x ≡ true → is_of a d y ≡ true → suc x.number < suc y.number → standing_order y x ≡ Greater
later_standing a d x y h k w =
    let first = and_parts (x.assign == a) (x.digest == d) h in
    let second = and_parts (y.assign == a) (y.digest == d) k in
    rw (eqb-true x.assign a first.0, eqb-true y.assign a second.0, eqb-true x.digest d first.1, eqb-true y.digest d second.1, equal_number a, equal_number d) (greater_number y.number x.number (omega (arith, w)))

later_value : (a : ℕ) (x y : ValueLife) → (x.assign == a) ≡ true → (y.assign == a) ≡ true → suc x.number < suc y.number → value_order y x ≡ Greater
later_value a x y h k w = rw (eqb-true x.assign a h, eqb-true y.assign a k, equal_number a) (greater_number y.number x.number (omega (arith, w)))

same_numbers : (values : List ValueLife) → map (λ (s : Standing). suc s.number) (map standing_of values) ≡ numbers values
same_numbers [] = refl
same_numbers (life ∷ values) = ap (λ ns. suc life.number ∷ ns) (same_numbers values)

pub standing_in_order : (a d : ℕ) (values : List ValueLife) → Rising 0 (numbers values)
    → in_order standing_order (filter (is_of a d) (standings values)) ≡ filter (is_of a d) (standings values)
standing_in_order a d values r =
    in_order_already (λ (s : Standing). suc s.number) standing_order (is_of a d) (later_standing a d) 0 (standings values)
    (rw (same_numbers (filter is_open values)) (rising_less (λ (life : ValueLife). suc life.number) is_open 0 values r))

pub values_in_order : (a : ℕ) (values : List ValueLife) → Rising 0 (numbers values)
    → in_order value_order (filter (λ (life : ValueLife). life.assign == a) values) ≡ filter (λ (life : ValueLife). life.assign == a) values
values_in_order a values r = in_order_already (λ (life : ValueLife). suc life.number) value_order (λ (life : ValueLife). life.assign == a) (later_value a) 0 values r

pub stood_both : (a t : ℕ) (values : List ValueLife) → map (λ (life : ValueLife). life.value) (filter (stood t) (filter (λ (life : ValueLife). life.assign == a) values)) ≡ values_at values a t
stood_both a t [] = refl
stood_both a t (life ∷ values) =
    let rest = stood_both a t values in
    elim (cases_Bool (life.assign == a)) [
      | inl h ↦ elim (cases_Bool (stood t life)) [
        | inl k ↦ rw (h, k) (ap (λ vs. life.value ∷ vs) rest)
        | inr k ↦ rw (h, k) rest
      ]
      | inr h ↦ rw h rest
    ]

-- ---- the first goes

module _ (at a : ℕ) (v : AttrValue) where
  found_above : (k : ℕ) (w : ValueLife) (values : List ValueLife) → AllByRecursion (λ (life : ValueLife). k < suc life.number) values → first_open a v values ≡ Some w → k < suc w.number
  found_above k w [] h found = cc
  found_above k w (x ∷ xs) h found = elim (cases_Bool (is_first a v x)) [
    | inl t ↦
        let is : Some x ≡ Some w = rw t at found in
        let same : x ≡ w = cc in
        subst (λ (life : ValueLife). k < suc life.number) same h.0
    | inr t ↦ found_above k w xs h.1 (rw t at found)
  ]

  -- those behind the first have other numbers
  none_numbered_behind : (floor : ℕ) (x : ValueLife) (xs : List ValueLife) → Rising floor (numbers (x ∷ xs)) → AllByRecursion (λ (y : ValueLife). is_numbered a x.number y ≡ false) xs
  none_numbered_behind floor x xs r =
      none_behind (λ (life : ValueLife). suc life.number) (is_numbered a x.number) floor x xs (λ y h. ap (λ n. suc n) (eqb-true y.number x.number ((and_parts (y.assign == a) (y.number == x.number) h).1))) r

  -- and so has one that stands before it
  apart_before : (w x : ValueLife) → suc x.number < suc w.number → is_numbered a w.number x ≡ false
  apart_before w x h = let low : x.number < w.number = omega (arith, h) in and_right (x.assign == a) (x.number == w.number) (below_apart x.number w.number low)

  closed_life : (x w : ValueLife) → x ≡ w → is_first a v x ≡ true → (record { assign = a; number = w.number; value = v; from = w.from; until = Some at }) ≡ record x { until = Some at }
  closed_life x w e h =
      let parts = and_parts (x.assign == a) (is_open x && same_value x.value v) h in
      let assign = eqb-true x.assign a parts.0 in
      let value = same_is x.value v ((and_parts (is_open x) (same_value x.value v) parts.1).1) in
      rw (← e, ← assign, ← value) refl

  kept_behind : (n : ℕ) (xs : List ValueLife) → AllByRecursion (λ (y : ValueLife). is_numbered a n y ≡ false) xs → filter (λ (y : ValueLife). not (is_numbered a n y)) xs ≡ xs
  kept_behind n [] h = refl
  kept_behind n (x ∷ xs) h = rw h.0 (ap (λ ys. x ∷ ys) (kept_behind n xs h.1))

  numbered_itself : (x : ValueLife) → is_first a v x ≡ true → is_numbered a x.number x ≡ true
  numbered_itself x h = rw ((and_parts (x.assign == a) (is_open x && same_value x.value v) h).0, eq-eqb x.number x.number refl) refl

  -- those behind an element, and what was found is among them
  found_behind : (floor : ℕ) (x : ValueLife) (xs : List ValueLife) (w : ValueLife) → Rising floor (numbers (x ∷ xs)) → first_open a v xs ≡ Some w → is_numbered a w.number x ≡ false
  found_behind floor x xs w r found = apart_before w x (found_above (suc x.number) w xs (all_above (λ (life : ValueLife). suc life.number) (suc x.number) (suc x.number) xs r.1 (omega arith)) found)

  -- the lives with another in the place of the one with its number
  abbrev put : ValueLife → List ValueLife → List ValueLife
  put w values = map (λ (y : ValueLife). if is_numbered a w.number y then record { assign = a; number = w.number; value = v; from = w.from; until = Some at } else y) values

  abbrev cut : ValueLife → List ValueLife → List ValueLife
  cut w values = filter (λ (y : ValueLife). not (is_numbered a w.number y)) values

  put_here : (floor : ℕ) (x : ValueLife) (xs : List ValueLife) → Rising floor (numbers (x ∷ xs)) → is_first a v x ≡ true → nat_lt x.from at ≡ true → put x (x ∷ xs) ≡ first_closed at a v (x ∷ xs)
  put_here floor x xs r t early =
      rw (numbered_itself x t, t, early) (ap (λ (life : ValueLife). life ∷ put x xs) (closed_life x x refl t)
      ∙ ap (λ ys. record x { until = Some at } ∷ ys) (untouched (is_numbered a x.number) (λ y. record { assign = a; number = x.number; value = v; from = x.from; until = Some at }) xs (none_numbered_behind floor x xs r)))

  replaced_is : (floor : ℕ) (values : List ValueLife) (w : ValueLife) → Rising floor (numbers values) → first_open a v values ≡ Some w → nat_lt w.from at ≡ true
      → map (λ (y : ValueLife). if is_numbered a w.number y then record { assign = a; number = w.number; value = v; from = w.from; until = Some at } else y) values ≡ first_closed at a v values
  replaced_is floor [] w r found early = refl
  replaced_is floor (x ∷ xs) w r found early = elim (cases_Bool (is_first a v x)) [
    | inl t ↦
        let is : Some x ≡ Some w = rw t at found in
        let same : x ≡ w = cc in
        subst (λ (life : ValueLife). put life (x ∷ xs) ≡ first_closed at a v (x ∷ xs)) same (put_here floor x xs r t (subst (λ (life : ValueLife). nat_lt life.from at ≡ true) (sym same) early))
    | inr t ↦
        let behind : first_open a v xs ≡ Some w = rw t at found in
        rw (found_behind floor x xs w r behind, t) (ap (λ ys. x ∷ ys) (replaced_is (suc x.number) xs w r.1 behind early))
  ]

  cut_here : (floor : ℕ) (x : ValueLife) (xs : List ValueLife) → Rising floor (numbers (x ∷ xs)) → is_first a v x ≡ true → nat_lt x.from at ≡ false → cut x (x ∷ xs) ≡ first_closed at a v (x ∷ xs)
  cut_here floor x xs r t late = rw (numbered_itself x t, t, late) (kept_behind x.number xs (none_numbered_behind floor x xs r))

  removed_is : (floor : ℕ) (values : List ValueLife) (w : ValueLife) → Rising floor (numbers values) → first_open a v values ≡ Some w → nat_lt w.from at ≡ false
      → filter (λ (y : ValueLife). not (is_numbered a w.number y)) values ≡ first_closed at a v values
  removed_is floor [] w r found late = refl
  removed_is floor (x ∷ xs) w r found late = elim (cases_Bool (is_first a v x)) [
    | inl t ↦
        let is : Some x ≡ Some w = rw t at found in
        let same : x ≡ w = cc in
        subst (λ (life : ValueLife). cut life (x ∷ xs) ≡ first_closed at a v (x ∷ xs)) same (cut_here floor x xs r t (subst (λ (life : ValueLife). nat_lt life.from at ≡ false) (sym same) late))
    | inr t ↦
        let behind : first_open a v xs ≡ Some w = rw t at found in
        rw (found_behind floor x xs w r behind, t) (ap (λ ys. x ∷ ys) (removed_is (suc x.number) xs w r.1 behind late))
  ]

  -- ---- those that stand then

  -- a life of another number isn't that of a value that stands
  other_number : (d n : ℕ) (y : ValueLife) → is_numbered a n y ≡ false → is_standing a d n (standing_of y) ≡ false
  other_number d n y h = elim (and_cases (y.assign == a) (y.number == n) h) [
    | inl k ↦ and_left (is_of a d (standing_of y)) (y.number == n) (and_left (y.assign == a) (digest y.value == d) k)
    | inr k ↦ and_right (is_of a d (standing_of y)) (y.number == n) k
  ]

  kept_standing : (d n : ℕ) (xs : List ValueLife) → AllByRecursion (λ (y : ValueLife). is_numbered a n y ≡ false) xs → filter (λ (s : Standing). not (is_standing a d n s)) (standings xs) ≡ standings xs
  kept_standing d n [] h = refl
  kept_standing d n (x ∷ xs) h = elim (cases_Bool (is_open x)) [
    | inl o ↦ rw (o, other_number d n x h.0) (ap (λ ss. standing_of x ∷ ss) (kept_standing d n xs h.1))
    | inr o ↦ rw o (kept_standing d n xs h.1)
  ]

  closed_stand : (x : ValueLife) (xs : List ValueLife) → standings (closed at x ++ xs) ≡ standings xs
  closed_stand x xs = elim (cases_Bool (nat_lt x.from at)) [
    | inl t ↦ rw t refl
    | inr t ↦ rw t refl
  ]

  abbrev left : ValueLife → List ValueLife → List Standing
  left w values = filter (λ (s : Standing). not (is_standing a (digest v) w.number s)) (standings values)

  stands_itself : (x : ValueLife) → is_first a v x ≡ true → is_standing a (digest v) x.number (standing_of x) ≡ true
  stands_itself x t =
      let parts = and_parts (x.assign == a) (is_open x && same_value x.value v) t in
      let value = same_is x.value v ((and_parts (is_open x) (same_value x.value v) parts.1).1) in
      rw (parts.0, eq-eqb (digest x.value) (digest v) (ap digest value), eq-eqb x.number x.number refl) refl

  left_here : (floor : ℕ) (x : ValueLife) (xs : List ValueLife) → Rising floor (numbers (x ∷ xs)) → is_first a v x ≡ true → left x (x ∷ xs) ≡ standings (first_closed at a v (x ∷ xs))
  left_here floor x xs r t =
      let open_is : is_open x ≡ true = (and_parts (is_open x) (same_value x.value v) ((and_parts (x.assign == a) (is_open x && same_value x.value v) t).1)).0 in
      rw (t, open_is, stands_itself x t) (kept_standing (digest v) x.number xs (none_numbered_behind floor x xs r) ∙ sym (closed_stand x xs))

  pub standing_left : (floor : ℕ) (values : List ValueLife) (w : ValueLife) → Rising floor (numbers values) → first_open a v values ≡ Some w
      → filter (λ (s : Standing). not (is_standing a (digest v) w.number s)) (standings values) ≡ standings (first_closed at a v values)
  standing_left floor [] w r found = refl
  standing_left floor (x ∷ xs) w r found = elim (cases_Bool (is_first a v x)) [
    | inl t ↦
        let is : Some x ≡ Some w = rw t at found in
        let same : x ≡ w = cc in
        subst (λ (life : ValueLife). left life (x ∷ xs) ≡ standings (first_closed at a v (x ∷ xs))) same (left_here floor x xs r t)
    | inr t ↦
        let behind : first_open a v xs ≡ Some w = rw t at found in
        let apart = other_number (digest v) w.number x (found_behind floor x xs w r behind) in
        let rest = standing_left (suc x.number) xs w r.1 behind in
        elim (cases_Bool (is_open x)) [
          | inl o ↦ rw (t, o, apart) (ap (λ ss. standing_of x ∷ ss) rest)
          | inr o ↦ rw (t, o) rest
        ]
  ]

  pub closed_is : (values : List ValueLife) (w : ValueLife) → Rising 0 (numbers values) → first_open a v values ≡ Some w
      → closed_in (record { assign = a; number = w.number; value = v; from = w.from; until = Some at }) at values ≡ first_closed at a v values
  closed_is values w r found = elim (cases_Bool (nat_lt w.from at)) [
    | inl early ↦ rw early (replaced_is 0 values w r found early)
    | inr late ↦ rw late (removed_is 0 values w r found late)
  ]

  pub rising_closed : (floor : ℕ) (values : List ValueLife) → Rising floor (numbers values) → Rising floor (numbers (first_closed at a v values))
  rising_closed floor [] r = tt
  rising_closed floor (x ∷ xs) r = elim (cases_Bool (is_first a v x)) [
    | inl t ↦ elim (cases_Bool (nat_lt x.from at)) [
      | inl k ↦ rw (t, k) r
      | inr k ↦ let above = r.0 in rw (t, k) (rising_lower (λ (life : ValueLife). suc life.number) floor (suc x.number) xs (omega (arith, above)) r.1)
    ]
    | inr t ↦ rw t (r.0, rising_closed (suc x.number) xs r.1)
  ]

  pub below_closed : (next : ℕ) (values : List ValueLife) → AllByRecursion (λ (life : ValueLife). life.number < next) values → AllByRecursion (λ (life : ValueLife). life.number < next) (first_closed at a v values)
  below_closed next [] h = tt
  below_closed next (x ∷ xs) h = elim (cases_Bool (is_first a v x)) [
    | inl t ↦ elim (cases_Bool (nat_lt x.from at)) [
      | inl k ↦ rw (t, k) h
      | inr k ↦ rw (t, k) h.1
    ]
    | inr t ↦ rw t (h.0, below_closed next xs h.1)
  ]

  -- none is this one: nothing goes
  pub none_first : (values : List ValueLife) → first_open a v values ≡ None → first_closed at a v values ≡ values
  none_first [] h = refl
  none_first (x ∷ xs) h = elim (cases_Bool (is_first a v x)) [
    | inl t ↦ let e : Some x ≡ None = rw t at h in cc
    | inr t ↦ rw t (ap (λ ys. x ∷ ys) (none_first xs (rw t at h)))
  ]

  pub values_closed : (values : List ValueLife) (standing : List Standing) (next : ℕ) (w : ValueLife) → AreValues values standing next → first_open a v values ≡ Some w
      → AreValues (first_closed at a v values) (filter (λ (s : Standing). not (is_standing a (digest v) w.number s)) standing) next
  values_closed values standing next w h found = record {
    rising = rising_closed 0 values h.rising;
    below = below_closed next values h.below;
    known = ap (λ (ss : List Standing). filter (λ (s : Standing). not (is_standing a (digest v) w.number s)) ss) h.known ∙ standing_left 0 values w h.rising found;
  }

-- ---- one value more

pub values_push : (values : List ValueLife) (life : ValueLife) (a t : ℕ) → values_at (values ++ life ∷ []) a t ≡ (if (life.assign == a) && stood t life then values_at values a t ++ life.value ∷ [] else values_at values a t)
values_push [] life a t = elim (cases_Bool ((life.assign == a) && stood t life)) [
  | inl h ↦ rw h refl
  | inr h ↦ rw h refl
]
values_push (x ∷ xs) life a t = elim (cases_Bool ((x.assign == a) && stood t x)) [
  | inl k ↦ elim (cases_Bool ((life.assign == a) && stood t life)) [
    | inl h ↦ rw (k, h) (ap (λ vs. x.value ∷ vs) (values_push xs life a t ∙ rw h refl))
    | inr h ↦ rw (k, h) (ap (λ vs. x.value ∷ vs) (values_push xs life a t ∙ rw h refl))
  ]
  | inr k ↦ rw k (values_push xs life a t)
]

same_test : (a b at t : ℕ) → ((a == b) && (nat_le at t && true)) ≡ ((b == a) && nat_le at t)
same_test a b at t = grind (arith, nat_tests, common_steps)

pub value_pushed : (values : List ValueLife) (a n at : ℕ) (v : AttrValue) (b t : ℕ)
    → values_at (values ++ (record { assign = a; number = n; value = v; from = at; until = None }) ∷ []) b t ≡ (if (b == a) && nat_le at t then values_at values b t ++ v ∷ [] else values_at values b t)
value_pushed values a n at v b t =
    values_push values (record { assign = a; number = n; value = v; from = at; until = None }) b t
    ∙ ap (λ (test : Bool). if test then values_at values b t ++ v ∷ [] else values_at values b t) (same_test a b at t)
