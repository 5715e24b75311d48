-- Lists by numbers that ascend: each number stands once.
use Rattle.std.proofs.Common.{◌≡◌, ◌≤◌, ◌<◌, ◌++◌, ◌∙◌, ℕ, List, [], ◌∷◌, Bool, true, false, Some, None, map, filter, if◌then◌else◌, arith, ap, refl, sym, inl, inr}
use Rattle.std.specs.List.{AllByRecursion, find, list_any}
use Rattle.std.specs.BTreeSet.{insert_key}
use Rattle.std.specs.declared.cmp.Ordering.{Ordering}
use Rattle.std.specs.declared.cmp.Ordering.TheVariants.{Greater}
use Rattle.reg_table.specs.Keyed.{in_order, put_into}
use Rattle.std.proofs.lemmas.Bool.{cases_Bool, false_from_ne_true}
use Rattle.reg_pit.specs.Lives.{Rising}

module _ {A : Type 0} where
  -- ---- tests that nothing passes

  pub untouched : (p : A → Bool) (f : A → A) (xs : List A) → AllByRecursion (λ x. p x ≡ false) xs → map (λ x. if p x then f x else x) xs ≡ xs
  untouched p f [] h = refl
  untouched p f (x ∷ xs) h = rw h.0 (ap (λ ys. x ∷ ys) (untouched p f xs h.1))

  pub none_found : (p : A → Bool) (xs : List A) → find p xs ≡ None → AllByRecursion (λ x. p x ≡ false) xs
  none_found p [] h = tt
  none_found p (x ∷ xs) h = elim (cases_Bool (p x)) [
    | inl t ↦ let e : Some x ≡ None = rw t at h in cc
    | inr t ↦ (t, none_found p xs (rw t at h))
  ]

  pub none_any : (p : A → Bool) (xs : List A) → list_any p xs ≡ false → AllByRecursion (λ x. p x ≡ false) xs
  none_any p [] h = tt
  none_any p (x ∷ xs) h = elim (cases_Bool (p x)) [
    | inl t ↦ let e : true ≡ false = rw t at h in cc
    | inr t ↦ (t, none_any p xs (rw t at h))
  ]

  pub any_none : (p : A → Bool) (xs : List A) → AllByRecursion (λ x. p x ≡ false) xs → list_any p xs ≡ false
  any_none p [] h = refl
  any_none p (x ∷ xs) h = rw h.0 (any_none p xs h.1)

  -- ---- each number once

  module _ (key : A → ℕ) where
    pub all_above : (floor k : ℕ) (xs : List A) → Rising floor (map key xs) → k ≤ floor → AllByRecursion (λ x. k < key x) xs
    all_above floor k [] h w = tt
    all_above floor k (x ∷ xs) h w =
        let above = h.0 in
        (omega (arith, above), all_above (key x) k xs h.1 (omega (arith, above)))

    none_pass : (p : A → Bool) (k : ℕ) (xs : List A) → ((x : A) → p x ≡ true → key x ≡ k) → AllByRecursion (λ x. k < key x) xs → AllByRecursion (λ x. p x ≡ false) xs
    none_pass p k [] only h = tt
    none_pass p k (x ∷ xs) only h =
        (false_from_ne_true (p x) (λ t. let e = only x t in let w = h.0 in absurd (omega (arith, e, w))), none_pass p k xs only h.1)

    -- nothing behind an element passes a test that only its number passes
    pub none_behind : (p : A → Bool) (floor : ℕ) (x : A) (xs : List A) → ((y : A) → p y ≡ true → key y ≡ key x) → Rising floor (map key (x ∷ xs)) → AllByRecursion (λ y. p y ≡ false) xs
    none_behind p floor x xs only h = none_pass p (key x) xs only (all_above (key x) (key x) xs h.1 (omega arith))

    -- nothing of a later number is there
    pub none_later : (p : A → Bool) (last k : ℕ) (xs : List A) → ((x : A) → p x ≡ true → key x ≡ k) → AllByRecursion (λ x. key x ≤ last) xs → last < k → AllByRecursion (λ x. p x ≡ false) xs
    none_later p last k [] only h w = tt
    none_later p last k (x ∷ xs) only h w =
        (false_from_ne_true (p x) (λ t. let e = only x t in let low = h.0 in absurd (omega (arith, e, low, w))), none_later p last k xs only h.1 w)

    pub rising_push : (floor last : ℕ) (xs : List A) (x : A) → Rising floor (map key xs) → AllByRecursion (λ y. key y ≤ last) xs → floor ≤ last → last < key x → Rising floor (map key (xs ++ x ∷ []))
    rising_push floor last [] x h low w v = (omega arith, tt)
    rising_push floor last (y ∷ ys) x h low w v = (h.0, rising_push (key y) last ys x h.1 low.1 low.0 v)

    pub rising_lower : (a b : ℕ) (xs : List A) → a ≤ b → Rising b (map key xs) → Rising a (map key xs)
    rising_lower a b [] w h = tt
    rising_lower a b (x ∷ xs) w h = let above = h.0 in (omega (arith, above), h.1)

    pub rising_less : (p : A → Bool) (floor : ℕ) (xs : List A) → Rising floor (map key xs) → Rising floor (map key (filter p xs))
    rising_less p floor [] h = tt
    rising_less p floor (x ∷ xs) h = elim (cases_Bool (p x)) [
      | inl t ↦ rw t (h.0, rising_less p (key x) xs h.1)
      | inr t ↦ let above = h.0 in rw t (rising_less p floor xs (rising_lower floor (key x) xs (omega (arith, above)) h.1))
    ]

    -- an edit that keeps the numbers
    pub rising_same : (f : A → A) (floor : ℕ) (xs : List A) → ((x : A) → key (f x) ≡ key x) → Rising floor (map key xs) → Rising floor (map key (map f xs))
    rising_same f floor [] same h = tt
    rising_same f floor (x ∷ xs) same h = rw (same x) (h.0, rising_same f (key x) xs same h.1)

    untouched_like : (p q : A → Bool) (f g : A → A) (xs : List A) → ((y : A) → q y ≡ p y) → AllByRecursion (λ y. p y ≡ false) xs → map (λ y. if q y then f y else y) xs ≡ map (λ y. if p y then g y else y) xs
    untouched_like p q f g [] like h = refl
    untouched_like p q f g (y ∷ ys) like h = rw (like y, h.0) (ap (λ zs. y ∷ zs) (untouched_like p q f g ys like h.1))

    -- an element found by its number is the one that an edit by a like test meets
    pub found_alone : (p q : A → Bool) (f : A → A) (k floor : ℕ) (x : A) (xs : List A) → ((y : A) → p y ≡ true → key y ≡ k) → ((y : A) → q y ≡ p y) → Rising floor (map key xs) → find p xs ≡ Some x
        → map (λ y. if q y then f x else y) xs ≡ map (λ y. if p y then f y else y) xs
    found_alone p q f k floor x [] only like h found = refl
    found_alone p q f k floor x (y ∷ ys) only like h found = elim (cases_Bool (p y)) [
      | inl t ↦
          let is : Some y ≡ Some x = rw t at found in
          let same : f x ≡ f y = cc in
          let rest = none_behind p floor y ys (λ z s. only z s ∙ sym (only y t)) h in
          rw (like y, t) (ap (λ z. z ∷ map (λ w. if q w then z else w) ys) same ∙ ap (λ zs. f y ∷ zs) (untouched_like p q (λ z. f y) f ys like rest))
      | inr t ↦ rw (like y, t) (ap (λ zs. y ∷ zs) (found_alone p q f k (key y) x ys only like h.1 (rw t at found)))
    ]

-- ---- in order

put_behind : {A : Type 0} (order : A → A → Ordering) (x : A) (found ys : List A) → AllByRecursion (λ y. order y x ≡ Greater) ys → put_into order (x ∷ found) ys ≡ x ∷ put_into order found ys
put_behind order x found [] h = refl
put_behind order x found (y ∷ ys) h = rw h.0 (put_behind order x (insert_key order found y) ys h.1)

module _ {A : Type 0} (key : A → ℕ) (order : A → A → Ordering) (p : A → Bool) (later : (x y : A) → p x ≡ true → p y ≡ true → key x < key y → order y x ≡ Greater) where
  all_behind : (x : A) (ys : List A) → p x ≡ true → AllByRecursion (λ y. key x < key y) ys → AllByRecursion (λ y. order y x ≡ Greater) (filter p ys)
  all_behind x [] t h = tt
  all_behind x (y ∷ ys) t h = elim (cases_Bool (p y)) [
    | inl s ↦ rw s (later x y t s h.0, all_behind x ys t h.1)
    | inr s ↦ rw s (all_behind x ys t h.1)
  ]

  -- what a test passes stands in order already, where later numbers come later
  pub in_order_already : (floor : ℕ) (xs : List A) → Rising floor (map key xs) → in_order order (filter p xs) ≡ filter p xs
  in_order_already floor [] h = refl
  in_order_already floor (x ∷ xs) h = elim (cases_Bool (p x)) [
    | inl t ↦ rw t (put_behind order x [] (filter p xs) (all_behind x xs t (all_above key (key x) (key x) xs h.1 (omega arith))) ∙ ap (λ ys. x ∷ ys) (in_order_already (key x) xs h.1))
    | inr t ↦ rw t (in_order_already (key x) xs h.1)
  ]
