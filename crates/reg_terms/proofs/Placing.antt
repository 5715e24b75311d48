-- Values by their digests: the first of a digest that is one is the first of all, and it goes.
use Rattle.std.proofs.Common.{◌≡◌, ◌≤◌, ◌<◌, ◌==◌, ◌&&◌, ◌++◌, ◌∙◌, ◌+◌, ◌^◌, ℕ, suc, List, [], ◌∷◌, Bool, true, false, length, Option, Some, None, filter, not, if◌then◌else◌, arith, ap, refl, subst, sym, inl, inr}
use Rattle.std.specs.BTreeSet.{insert_key}
use Rattle.std.specs.List.{AllByRecursion, find, list_any, position_or_len, remove}
use Rattle.std.specs.Ordering.{nat_cmp, ordering_then}
use Rattle.std.specs.Prelude.{nat_lt}
use Rattle.std.specs.declared.cmp.Ordering.{Ordering}
use Rattle.std.specs.declared.cmp.Ordering.TheVariants.{Equal, Greater}
use Rattle.std.proofs.lemmas.Bool.{cases_Bool, ne_eqb, eq-eqb, eqb-true, and_right, lt-ltb, le-ltb, ltb-true, ltb-false}
use Rattle.std.proofs.lemmas.Bool.Decides.{nat_tests, Decides-int_eq}
use Rattle.std.proofs.lemmas.Slice.Eq.{bytes_eq-Decides}
use Rattle.std.proofs.lemmas.Grind.{common_steps}
use Rattle.reg_table.specs.Keyed.{in_order, put_into}
use Rattle.reg_terms.specs.Digests.{digest}
use Rattle.reg_terms.specs.Placed.{values_of, Placed, ArePlaced}
use Rattle.reg_terms.specs.Values.{same_value, without_first, has_value}
use Rattle.reg_terms.specs.declared.kinds.AttrValue.{AttrValue}
use Rattle.reg_terms.specs.declared.kinds.AttrValue.TheVariants as attr
use Rattle.reg_terms.specs.declared.many_values.PlacedValue.{PlacedValue}

-- ---- values that are one

-- are equal
same_is : (a b : AttrValue) → same_value a b ≡ true → a ≡ b
same_is (attr.Int a) (attr.Int b) h = ap (λ n. attr.Int n) ((Decides-int_eq a b).0 h)
same_is (attr.Text a) (attr.Text b) h = ap (λ t. attr.Text t) ((bytes_eq-Decides a b).0 h)
same_is (attr.Moment a) (attr.Moment b) h = ap (λ m. attr.Moment m) (eqb-true a b h)
same_is _ _ h = cc

-- and have one digest
pub same_digest : (a b : AttrValue) → same_value a b ≡ true → digest a ≡ digest b
same_digest a b h = ap digest (same_is a b h)

-- ---- lists with a value more, and without the first that is one

without_at : ℕ → List AttrValue → List AttrValue
without_at n xs = elim (if nat_lt n (length xs) then Some n else None) [ None ↦ xs | Some n ↦ remove xs n ]

without_later : (n k : ℕ) (x : AttrValue) (xs : List AttrValue) → n ≡ suc k → without_at n (x ∷ xs) ≡ x ∷ without_at k xs
unfolding without_at
without_later n k x xs e = elim (cases_Bool (nat_lt k (length xs))) [
  | inl t ↦
      let low = ltb-true k (length xs) t in
      rw (e, lt-ltb (suc k) (suc (length xs)) (omega (arith, low)), t, without_at) refl
  | inr t ↦
      let high = ltb-false k (length xs) t in
      rw (e, le-ltb (suc k) (suc (length xs)) (omega (arith, high)), t, without_at) refl
]

without_here : (v x : AttrValue) (xs : List AttrValue) → same_value x v ≡ true → without_first v (x ∷ xs) ≡ xs
without_here v x xs h = rw (h, lt-ltb 0 (suc (length xs)) (omega arith), without_first) refl

one_later : (v x : AttrValue) (xs : List AttrValue) → same_value x v ≡ false → position_or_len (λ y. same_value y v) (x ∷ xs) ≡ suc (position_or_len (λ y. same_value y v) xs)
one_later v x xs h = rw h (omega arith)

without_there : (v x : AttrValue) (xs : List AttrValue) → same_value x v ≡ false → without_first v (x ∷ xs) ≡ x ∷ without_first v xs
unfolding without_at
without_there v x xs h = without_later (position_or_len (λ y. same_value y v) (x ∷ xs)) (position_or_len (λ y. same_value y v) xs) x xs (one_later v x xs h)

-- ---- numbers

below_apart : (n k : ℕ) → n < k → (n == k) ≡ false
below_apart n k w = ne_eqb n k (λ e. absurd (omega (arith, e, w)))

equal_number : (n : ℕ) → nat_cmp n n ≡ Equal
equal_number n = grind (arith, nat_tests, common_steps)

greater_number : (a b : ℕ) → b < a → nat_cmp a b ≡ Greater
greater_number a b w = grind (arith, nat_tests, common_steps)

-- there are no more than numbers
placed_length : (floor next : ℕ) (ps : List PlacedValue) → Placed floor next ps → length ps + floor ≤ next
placed_length floor next [] h = omega (arith, h)
placed_length floor next (p ∷ ps) h =
    let low = h.0 in
    let rest = placed_length (suc p.number) next ps h.1.1 in
    omega (arith, low, rest)

pub few_placed : (next : ℕ) (ps : List PlacedValue) → ArePlaced next ps → length ps ≤ 2 ^ 62
few_placed next ps h =
    let low = placed_length 0 next ps h.placed in
    let small = h.small in
    omega (arith, low, small)

lower : (a b next : ℕ) (ps : List PlacedValue) → a ≤ b → Placed b next ps → Placed a next ps
lower a b next [] w h = omega (arith, w, h)
lower a b next (p ∷ ps) w h = let low = h.0 in (omega (arith, w, low), h.1)

-- those that are left of some
placed_left : (test : PlacedValue → Bool) (floor next : ℕ) (ps : List PlacedValue) → Placed floor next ps → Placed floor next (filter test ps)
placed_left test floor next [] h = h
placed_left test floor next (p ∷ ps) h = elim (cases_Bool (test p)) [
  | inl t ↦ rw t (h.0, (h.1.0, placed_left test (suc p.number) next ps h.1.1))
  | inr t ↦ let low = h.0 in rw t (lower floor (suc p.number) next (filter test ps) (omega (arith, low)) (placed_left test (suc p.number) next ps h.1.1))
]

pub left_placed : (test : PlacedValue → Bool) (next : ℕ) (ps : List PlacedValue) → ArePlaced next ps → ArePlaced next (filter test ps)
left_placed test next ps h = record { placed = placed_left test 0 next ps h.placed; small = h.small }

-- and one more
placed_more : (floor next later : ℕ) (ps : List PlacedValue) (p : PlacedValue) → Placed floor next ps → p.number ≡ next → p.digest ≡ digest p.value → later ≡ next + 1 → Placed floor later (ps ++ p ∷ [])
placed_more floor next later [] p h n d e = (omega (arith, h, n), (d, omega (arith, n, e)))
placed_more floor next later (x ∷ xs) p h n d e = (h.0, (h.1.0, placed_more (suc x.number) next later xs p h.1.1 n d e))

pub more_placed : (next later : ℕ) (ps : List PlacedValue) (p : PlacedValue) → ArePlaced next ps → p.number ≡ next → p.digest ≡ digest p.value → later ≡ next + 1 → next < 2 ^ 62 → ArePlaced later (ps ++ p ∷ [])
more_placed next later ps p h n d e w = record { placed = placed_more 0 next later ps p h.placed n d e; small = omega (arith, e, w) }

abbrev pub is_placed : ℕ → ℕ → PlacedValue → Bool
is_placed d n p = (p.digest == d) && (p.number == n)

-- the next number is new
none_new : (d floor next : ℕ) (ps : List PlacedValue) → Placed floor next ps → list_any (is_placed d next) ps ≡ false
none_new d floor next [] h = refl
none_new d floor next (p ∷ ps) h =
    let rest = placed_length (suc p.number) next ps h.1.1 in
    rw (and_right (p.digest == d) (p.number == next) (below_apart p.number next (omega (arith, rest)))) (none_new d (suc p.number) next ps h.1.1)

pub new_free : (d next : ℕ) (ps : List PlacedValue) → ArePlaced next ps → list_any (is_placed d next) ps ≡ false
new_free d next ps h = none_new d 0 next ps h.placed

pub values_more : (ps : List PlacedValue) (p : PlacedValue) → values_of (ps ++ p ∷ []) ≡ values_of ps ++ p.value ∷ []
values_more [] p = refl
values_more (x ∷ xs) p = ap (λ vs. x.value ∷ vs) (values_more xs p)

-- ---- in order

-- the order of the table: by digest, and then by number
abbrev pub placed_order : PlacedValue → PlacedValue → Ordering
placed_order a b = ordering_then (nat_cmp a.digest b.digest) (nat_cmp a.number b.number)

put_behind : (x : PlacedValue) (found ys : List PlacedValue) → AllByRecursion (λ (y : PlacedValue). placed_order y x ≡ Greater) ys → put_into placed_order (x ∷ found) ys ≡ x ∷ put_into placed_order found ys
put_behind x found [] h = refl
put_behind x found (y ∷ ys) h = rw h.0 (put_behind x (insert_key placed_order found y) ys h.1)

abbrev pub of_digest : ℕ → List PlacedValue → List PlacedValue
of_digest d ps = filter (λ (p : PlacedValue). p.digest == d) ps

later_order : (d : ℕ) (x y : PlacedValue) → (x.digest == d) ≡ true → (y.digest == d) ≡ true → x.number < y.number → placed_order y x ≡ Greater
later_order d x y h k w = rw (eqb-true x.digest d h, eqb-true y.digest d k, equal_number d) (greater_number y.number x.number w)

all_behind : (d floor next : ℕ) (x : PlacedValue) (ys : List PlacedValue) → (x.digest == d) ≡ true → x.number < floor → Placed floor next ys → AllByRecursion (λ (y : PlacedValue). placed_order y x ≡ Greater) (of_digest d ys)
all_behind d floor next x [] t w h = tt
all_behind d floor next x (y ∷ ys) t w h =
    let low = h.0 in
    let rest = all_behind d (suc y.number) next x ys t (omega (arith, w, low)) h.1.1 in
    elim (cases_Bool (y.digest == d)) [
      | inl s ↦ rw s (later_order d x y t s (omega (arith, w, low)), rest)
      | inr s ↦ rw s rest
    ]

ordered : (d floor next : ℕ) (ps : List PlacedValue) → Placed floor next ps → in_order placed_order (of_digest d ps) ≡ of_digest d ps
ordered d floor next [] h = refl
ordered d floor next (p ∷ ps) h = elim (cases_Bool (p.digest == d)) [
  | inl t ↦ rw t (put_behind p [] (of_digest d ps) (all_behind d (suc p.number) next p ps t (omega arith) h.1.1) ∙ ap (λ ys. p ∷ ys) (ordered d (suc p.number) next ps h.1.1))
  | inr t ↦ rw t (ordered d (suc p.number) next ps h.1.1)
]

-- ---- the first that is one

abbrev pub first_in : AttrValue → List PlacedValue → Option PlacedValue
first_in v ps = find (λ (p : PlacedValue). same_value p.value v) ps

-- it is the first of its digest
first_within : (v : AttrValue) (floor next : ℕ) (ps : List PlacedValue) → Placed floor next ps → first_in v (of_digest (digest v) ps) ≡ first_in v ps
first_within v floor next [] h = refl
first_within v floor next (p ∷ ps) h =
    let rest = first_within v (suc p.number) next ps h.1.1 in
    elim (cases_Bool (same_value p.value v)) [
      | inl t ↦ rw (t, eq-eqb p.digest (digest v) (h.1.0 ∙ same_digest p.value v t), t) refl
      | inr t ↦ elim (cases_Bool (p.digest == digest v)) [
        | inl s ↦ rw (s, t) rest
        | inr s ↦ rw (s, t) rest
      ]
    ]

pub first_is : (v : AttrValue) (d next : ℕ) (ps : List PlacedValue) → ArePlaced next ps → d ≡ digest v → first_in v (in_order placed_order (of_digest d ps)) ≡ first_in v ps
first_is v d next ps h e =
    subst (λ n. first_in v (in_order placed_order (of_digest n ps)) ≡ first_in v ps) (sym e)
    (ap (first_in v) (ordered (digest v) 0 next ps h.placed) ∙ first_within v 0 next ps h.placed)

pub first_here : (v : AttrValue) (p : PlacedValue) (ps : List PlacedValue) → same_value p.value v ≡ true → first_in v (p ∷ ps) ≡ Some p
first_here v p ps h = rw h refl

pub first_past : (v : AttrValue) (p : PlacedValue) (ps : List PlacedValue) → same_value p.value v ≡ false → first_in v (p ∷ ps) ≡ first_in v ps
first_past v p ps h = rw h refl

-- whether a value is there
pub none_had : (v : AttrValue) (ps : List PlacedValue) → first_in v ps ≡ None → has_value v (values_of ps) ≡ false
none_had v [] h = refl
none_had v (p ∷ ps) h = elim (cases_Bool (same_value p.value v)) [
  | inl t ↦ let e : Some p ≡ None = rw t at h in cc
  | inr t ↦ rw t (none_had v ps (rw t at h))
]

pub some_had : (v : AttrValue) (w : PlacedValue) (ps : List PlacedValue) → first_in v ps ≡ Some w → has_value v (values_of ps) ≡ true
some_had v w [] h = cc
some_had v w (p ∷ ps) h = elim (cases_Bool (same_value p.value v)) [
  | inl t ↦ rw t refl
  | inr t ↦ rw t (some_had v w ps (rw t at h))
]

-- ---- it goes

kept_behind : (d n floor next : ℕ) (ps : List PlacedValue) → n < floor → Placed floor next ps → filter (λ (p : PlacedValue). not (is_placed d n p)) ps ≡ ps
kept_behind d n floor next [] w h = refl
kept_behind d n floor next (p ∷ ps) w h =
    let low = h.0 in
    rw (and_right (p.digest == d) (p.number == n) (ne_eqb p.number n (λ e. absurd (omega (arith, w, low, e)))))
    (ap (λ qs. p ∷ qs) (kept_behind d n (suc p.number) next ps (omega (arith, w, low)) h.1.1))

first_above : (v : AttrValue) (w : PlacedValue) (floor next : ℕ) (ps : List PlacedValue) → Placed floor next ps → first_in v ps ≡ Some w → floor ≤ w.number
first_above v w floor next [] h found = cc
first_above v w floor next (p ∷ ps) h found = elim (cases_Bool (same_value p.value v)) [
  | inl t ↦
      let is : Some p ≡ Some w = rw t at found in
      let same : p ≡ w = cc in
      subst (λ (q : PlacedValue). floor ≤ q.number) same h.0
  | inr t ↦
      let low = h.0 in
      let rest = first_above v w (suc p.number) next ps h.1.1 (rw t at found) in
      omega (arith, low, rest)
]

abbrev cut : PlacedValue → List PlacedValue → List PlacedValue
cut w ps = filter (λ (p : PlacedValue). not (is_placed w.digest w.number p)) ps

gone_here : (v : AttrValue) (p : PlacedValue) (floor next : ℕ) (ps : List PlacedValue) → Placed floor next (p ∷ ps) → same_value p.value v ≡ true → values_of (cut p (p ∷ ps)) ≡ without_first v (values_of (p ∷ ps))
gone_here v p floor next ps h t =
    let itself : is_placed p.digest p.number p ≡ true = rw (eq-eqb p.digest p.digest refl, eq-eqb p.number p.number refl) refl in
    rw itself (ap values_of (kept_behind p.digest p.number (suc p.number) next ps (omega arith) h.1.1) ∙ sym (without_here v p.value (values_of ps) t))

gone : (v : AttrValue) (w : PlacedValue) (floor next : ℕ) (ps : List PlacedValue) → Placed floor next ps → first_in v ps ≡ Some w → values_of (cut w ps) ≡ without_first v (values_of ps)
gone v w floor next [] h found = cc
gone v w floor next (p ∷ ps) h found = elim (cases_Bool (same_value p.value v)) [
  | inl t ↦
      let is : Some p ≡ Some w = rw t at found in
      let same : p ≡ w = cc in
      subst (λ (q : PlacedValue). values_of (cut q (p ∷ ps)) ≡ without_first v (values_of (p ∷ ps))) same (gone_here v p floor next ps h t)
  | inr t ↦
      let behind : first_in v ps ≡ Some w = rw t at found in
      let above = first_above v w (suc p.number) next ps h.1.1 behind in
      rw (and_right (p.digest == w.digest) (p.number == w.number) (below_apart p.number w.number (omega (arith, above))))
      (ap (λ vs. p.value ∷ vs) (gone v w (suc p.number) next ps h.1.1 behind) ∙ sym (without_there v p.value (values_of ps) t))
]

pub first_gone : (v : AttrValue) (w : PlacedValue) (next : ℕ) (ps : List PlacedValue) → ArePlaced next ps → first_in v ps ≡ Some w → values_of (cut w ps) ≡ without_first v (values_of ps)
first_gone v w next ps h found = gone v w 0 next ps h.placed found

-- ---- values behind others

pub none_gone : (v : AttrValue) (xs : List AttrValue) → has_value v xs ≡ false → without_first v xs ≡ xs
none_gone v [] h = refl
none_gone v (x ∷ xs) h = elim (cases_Bool (same_value x v)) [
  | inl t ↦ let e : true ≡ false = rw t at h in cc
  | inr t ↦ without_there v x xs t ∙ ap (λ ys. x ∷ ys) (none_gone v xs (rw t at h))
]

-- the first of some, and others behind
pub gone_behind : (v : AttrValue) (xs ys : List AttrValue) → has_value v xs ≡ false → without_first v (xs ++ ys) ≡ xs ++ without_first v ys
gone_behind v [] ys h = refl
gone_behind v (x ∷ xs) ys h = elim (cases_Bool (same_value x v)) [
  | inl t ↦ let e : true ≡ false = rw t at h in cc
  | inr t ↦ without_there v x (xs ++ ys) t ∙ ap (λ zs. x ∷ zs) (gone_behind v xs ys (rw t at h))
]

pub gone_before : (v : AttrValue) (xs ys : List AttrValue) → has_value v xs ≡ true → without_first v (xs ++ ys) ≡ without_first v xs ++ ys
gone_before v [] ys h = cc
gone_before v (x ∷ xs) ys h = elim (cases_Bool (same_value x v)) [
  | inl t ↦ without_here v x (xs ++ ys) t ∙ ap (λ zs. zs ++ ys) (sym (without_here v x xs t))
  | inr t ↦ without_there v x (xs ++ ys) t ∙ (ap (λ zs. x ∷ zs) (gone_before v xs ys (rw t at h)) ∙ ap (λ zs. zs ++ ys) (sym (without_there v x xs t)))
]
