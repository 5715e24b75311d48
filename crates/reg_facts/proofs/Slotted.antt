-- Rows in slots: where one is found by its number, and what a change of its slot does to the list.
use Rattle.std.proofs.Common.{Bor, MutBor, ◌≡◌, ◌<◌, ◌≤◌, ◌+◌, ◌==◌, ◌++◌, ◌∙◌, ℕ, zero, suc, List, [], ◌∷◌, Bool, true, false, not, Option, Some, None, refl, sym, ap, subst, length, map, filter, take, set, arith, option_map, option_and_then, slice_get}
use Rattle.std.specs.List.{AllByRecursion, IsItemAtMut, find, filter_map}
use Rattle.std.specs.List.Sorted.{IsStrictlySortedBy}
use Rattle.std.specs.Option.{option_copied, option_copied_mut}
use Rattle.std.specs.Ordering.{nat_cmp}
use Rattle.std.specs.Slice.{IsItemAt}
use Rattle.std.specs.declared.cmp.Ordering.TheVariants.{Less}
use Rattle.std.proofs.lemmas.Bool.{ne_eqb}
use Rattle.std.proofs.lemmas.Bool.Decides.{nat_tests}
use Rattle.std.proofs.lemmas.List.{append-nil}
use Rattle.std.proofs.lemmas.List.Elements.{filter_map-append}
use Rattle.std.proofs.lemmas.Option.{slice_get_past, slice_get_read}
use Rattle.std.proofs.lemmas.Map.Keys.{sorted_tail, sorted_head}
use Rattle.reg_facts.specs.Slots.{present, AtPlaces}
use Rattle.reg_facts.proofs.RowsById.{last_above}
use Rattle.reg_facts.proofs.Searched.{item_copied}

-- ---- lists of which no row passes a test

none_found : {R : Type 0} (p : R → Bool) (rows : List R) → AllByRecursion (λ r. p r ≡ false) rows → find p rows ≡ None
none_found p [] h = refl
none_found p (r ∷ rows) h = rw h.0 (none_found p rows h.1)

none_taken : {R : Type 0} (p : R → Bool) (rows : List R) → AllByRecursion (λ r. p r ≡ false) rows → rows ≡ filter (λ r. not (p r)) rows
none_taken p [] h = refl
none_taken p (r ∷ rows) h = rw h.0 (ap (λ more. r ∷ more) (none_taken p rows h.1))

none_changed : {R : Type 0} (p : R → Bool) (g : R → R) → ((r : R) → p r ≡ false → g r ≡ r) → (rows : List R) → AllByRecursion (λ r. p r ≡ false) rows → rows ≡ map g rows
none_changed p g same [] h = refl
none_changed p g same (r ∷ rows) h = rw (same r h.0) (ap (λ more. r ∷ more) (none_changed p g same rows h.1))

module _ {R : Type 0} (number : R → ℕ) where
  -- rows of later places have other numbers
  later : (m n : ℕ) (slots : List (Option R)) → m < n → AtPlaces number n slots → AllByRecursion (λ r. (number r == m) ≡ false) (present slots)
  later m n [] low at = tt
  later m n (None ∷ slots) low at = later m (suc n) slots (omega arith) at
  later m n (Some r ∷ slots) low at = (ne_eqb (number r) m (λ e. absurd (omega (arith, e, at.0, low))), later m (suc n) slots (omega arith) at.1)

  differs : (r : R) (n id i : ℕ) → number r ≡ n → id ≡ n + suc i → (number r == id) ≡ false
  differs r n id i at e = ne_eqb (number r) id (λ same. absurd (omega (arith, same, at, e)))

  equals : (r : R) (n id : ℕ) → number r ≡ n → id ≡ n + 0 → (number r == id) ≡ true
  equals r n id at e = eqb (number r) id (omega (arith, at, e))
    where
      eqb : (a b : ℕ) → a ≡ b → (a == b) ≡ true
      eqb a b h = grind (arith, nat_tests)

  -- a row is found in the slot of its number
  pub looked : (n i id : ℕ) (slots : List (Option R)) → AtPlaces number n slots → id ≡ n + i → find (λ r. number r == id) (present slots) ≡ option_and_then (λ slot. slot) (slice_get slots i)
  looked n i id [] at e = refl
  looked n zero id (None ∷ slots) at e = none_found (λ r. number r == id) (present slots) (later id (suc n) slots (omega (arith, e)) at)
  looked n zero id (Some r ∷ slots) at e = rw (equals r n id at.0 e) refl
  looked n (suc i) id (None ∷ slots) at e = looked (suc n) i id slots at (omega (arith, e))
  looked n (suc i) id (Some r ∷ slots) at e = rw (differs r n id i at.0 e) (looked (suc n) i id slots at.1 (omega (arith, e)))

  -- an emptied slot takes the row of its number away
  pub emptied : (n i id : ℕ) (slots : List (Option R)) → AtPlaces number n slots → id ≡ n + i → present (set slots i None) ≡ filter (λ r. not (number r == id)) (present slots)
  emptied n i id [] at e = refl
  emptied n zero id (None ∷ slots) at e = none_taken (λ r. number r == id) (present slots) (later id (suc n) slots (omega (arith, e)) at)
  emptied n zero id (Some r ∷ slots) at e = rw (equals r n id at.0 e) (none_taken (λ x. number x == id) (present slots) (later id (suc n) slots (omega (arith, e)) at.1))
  emptied n (suc i) id (None ∷ slots) at e = emptied (suc n) i id slots at (omega (arith, e))
  emptied n (suc i) id (Some r ∷ slots) at e = rw (differs r n id i at.0 e) (ap (λ more. r ∷ more) (emptied (suc n) i id slots at.1 (omega (arith, e))))

  pub emptied_at : (n i : ℕ) (slots : List (Option R)) → AtPlaces number n slots → AtPlaces number n (set slots i None)
  emptied_at n i [] at = tt
  emptied_at n zero (None ∷ slots) at = at
  emptied_at n zero (Some r ∷ slots) at = at.1
  emptied_at n (suc i) (None ∷ slots) at = emptied_at (suc n) i slots at
  emptied_at n (suc i) (Some r ∷ slots) at = (at.0, emptied_at (suc n) i slots at.1)

  -- behind the last slot no row has the number
  pub past : (n id : ℕ) (slots : List (Option R)) → AtPlaces number n slots → n + length slots ≤ id → AllByRecursion (λ r. (number r == id) ≡ false) (present slots)
  past n id [] at far = tt
  past n id (None ∷ slots) at far = past (suc n) id slots at (omega (arith, far))
  past n id (Some r ∷ slots) at far = (ne_eqb (number r) id (λ e. absurd (omega (arith, e, at.0, far))), past (suc n) id slots at.1 (omega (arith, far)))

  pub untaken : (slots : List (Option R)) (rows : List R) (id : ℕ) → AtPlaces number 0 slots → present slots ≡ rows → length slots ≤ id → rows ≡ filter (λ r. not (number r == id)) rows
  untaken slots rows id at are far = none_taken (λ r. number r == id) rows (subst (λ rs. AllByRecursion (λ r. (number r == id) ≡ false) rs) are (past 0 id slots at (omega (arith, far))))

  -- a changed slot changes the row of its number
  module _ (g h : R → R) (id : ℕ) (here : (r : R) → (number r == id) ≡ true → h r ≡ g r) (same : (r : R) → (number r == id) ≡ false → g r ≡ r) where
    pub changed : (n i : ℕ) (slots : List (Option R)) (slot : Option R) → AtPlaces number n slots → id ≡ n + i → slice_get slots i ≡ Some slot → present (set slots i (option_map h slot)) ≡ map g (present slots)
    changed n i [] slot at e is = refl
    changed n zero (None ∷ slots) None at e is = none_changed (λ r. number r == id) g same (present slots) (later id (suc n) slots (omega (arith, e)) at)
    changed n zero (None ∷ slots) (Some r) at e is = absurd (let clash : ⊥ = cc in clash)
    changed n zero (Some r ∷ slots) None at e is = absurd (let clash : ⊥ = cc in clash)
    changed n zero (Some r ∷ slots) (Some x) at e is =
        let one : r ≡ x = cc in
        ap (λ y. h y ∷ present slots) (sym one)
        ∙ ap (λ y. y ∷ present slots) (here r (equals r n id at.0 e))
        ∙ ap (λ more. g r ∷ more) (none_changed (λ y. number y == id) g same (present slots) (later id (suc n) slots (omega (arith, e)) at.1))
    changed n (suc i) (None ∷ slots) slot at e is = changed (suc n) i slots slot at (omega (arith, e)) is
    changed n (suc i) (Some r ∷ slots) slot at e is = rw (same r (differs r n id i at.0 e)) (ap (λ more. r ∷ more) (changed (suc n) i slots slot at.1 (omega (arith, e)) is))

    pub unchanged : (slots : List (Option R)) (rows : List R) → AtPlaces number 0 slots → present slots ≡ rows → length slots ≤ id → rows ≡ map g rows
    unchanged slots rows at are far = none_changed (λ r. number r == id) g same rows (subst (λ rs. AllByRecursion (λ r. (number r == id) ≡ false) rs) are (past 0 id slots at (omega (arith, far))))

  pub changed_at : (h : R → R) → ((r : R) → number (h r) ≡ number r) → (n i : ℕ) (slots : List (Option R)) (slot : Option R) → AtPlaces number n slots → slice_get slots i ≡ Some slot → AtPlaces number n (set slots i (option_map h slot))
  changed_at h stays n i [] slot at is = tt
  changed_at h stays n zero (None ∷ slots) None at is = at
  changed_at h stays n zero (None ∷ slots) (Some r) at is = absurd (let clash : ⊥ = cc in clash)
  changed_at h stays n zero (Some r ∷ slots) None at is = absurd (let clash : ⊥ = cc in clash)
  changed_at h stays n zero (Some r ∷ slots) (Some x) at is = let one : r ≡ x = cc in (stays x ∙ ap number (sym one) ∙ at.0, at.1)
  changed_at h stays n (suc i) (None ∷ slots) slot at is = changed_at h stays (suc n) i slots slot at is
  changed_at h stays n (suc i) (Some r ∷ slots) slot at is = (at.0, changed_at h stays (suc n) i slots slot at.1 is)

  -- the slots before a place
  pub cut_at : (n k : ℕ) (slots : List (Option R)) → AtPlaces number n slots → AtPlaces number n (take k slots)
  cut_at n zero slots at = tt
  cut_at n (suc k) [] at = tt
  cut_at n (suc k) (None ∷ slots) at = cut_at (suc n) k slots at
  cut_at n (suc k) (Some r ∷ slots) at = (at.0, cut_at (suc n) k slots at.1)

  no_rows : (top n : ℕ) (slots : List (Option R)) → AtPlaces number n slots → top ≤ n → AllByRecursion (λ r. number r < top) (present slots) → [] ≡ present slots
  no_rows top n [] at far below = refl
  no_rows top n (None ∷ slots) at far below = no_rows top (suc n) slots at (omega (arith, far)) below
  no_rows top n (Some r ∷ slots) at far below = absurd (let low = below.0 in omega (arith, far, low, at.0))

  more : (a b : ℕ) → a ≡ b → (rows : List R) → AllByRecursion (λ r. number r < a) rows → AllByRecursion (λ r. number r < b) rows
  more a b e [] h = tt
  more a b e (r ∷ rows) h = ((let low = h.0 in omega (arith, low, e)), more a b e rows h.1)

  pub cut_rows : (n k : ℕ) (slots : List (Option R)) → AtPlaces number n slots → AllByRecursion (λ r. number r < n + k) (present slots) → present (take k slots) ≡ present slots
  cut_rows n zero slots at below = no_rows (n + 0) n slots at (omega arith) below
  cut_rows n (suc k) [] at below = refl
  cut_rows n (suc k) (None ∷ slots) at below = cut_rows (suc n) k slots at (more (n + suc k) (suc n + k) (omega arith) (present slots) below)
  cut_rows n (suc k) (Some r ∷ slots) at below = ap (λ rest. r ∷ rest) (cut_rows (suc n) k slots at.1 (more (n + suc k) (suc n + k) (omega arith) (present slots) below.1))

  -- one slot more
  pub more_at : (n : ℕ) (slots : List (Option R)) → AtPlaces number n slots → AtPlaces number n (slots ++ None ∷ [])
  more_at n [] at = tt
  more_at n (None ∷ slots) at = more_at (suc n) slots at
  more_at n (Some r ∷ slots) at = (at.0, more_at (suc n) slots at.1)

  pub row_at : (n : ℕ) (slots : List (Option R)) (row : R) → AtPlaces number n slots → number row ≡ n + length slots → AtPlaces number n (slots ++ Some row ∷ [])
  row_at n [] row at e = (omega (arith, e), tt)
  row_at n (None ∷ slots) row at e = row_at (suc n) slots row at (omega (arith, e))
  row_at n (Some r ∷ slots) row at e = (at.0, row_at (suc n) slots row at.1 (omega (arith, e)))

  -- where the rows and one more ascend, it is behind the others
  pub all_below : (rows : List R) (row : R) → IsStrictlySortedBy nat_cmp (map number (rows ++ row ∷ [])) → AllByRecursion (λ r. number r < number row) rows
  all_below [] row up = tt
  all_below (r ∷ rows) row up =
      (less (number r) (number row) (last_above number (number r) rows row (sorted_head nat_cmp (number r) (map number (rows ++ row ∷ [])) up)), all_below rows row (sorted_tail nat_cmp (number r) (map number (rows ++ row ∷ [])) up))
    where
      less : (a b : ℕ) → nat_cmp a b ≡ Less → a < b
      less a b h = grind (arith, nat_tests)

pub more_rows : {R : Type 0} (slots : List (Option R)) → present (slots ++ None ∷ []) ≡ present slots
more_rows slots = filter_map-append (λ slot. slot) slots (None ∷ []) ∙ append-nil (present slots)

pub row_rows : {R : Type 0} (slots : List (Option R)) (row : R) → present (slots ++ Some row ∷ []) ≡ present slots ++ row ∷ []
row_rows slots row = filter_map-append (λ slot. slot) slots (Some row ∷ [])

-- what a look at the slot of a number gives
pub got : {R : Type 0} (number : R → ℕ) (slots : List (Option R)) (rows : List R) (id : ℕ) (item : Option (Bor (Option R))) (found : Option (Option R)) → AtPlaces number 0 slots → present slots ≡ rows → IsItemAt slots id item → option_copied item ≡ found
    → option_and_then (λ slot. slot) found ≡ find (λ r. number r == id) rows
got number slots rows id item found at are is copied =
    ap (option_and_then (λ slot. slot)) (sym copied ∙ item_copied slots id item is)
    ∙ sym (looked number 0 id id slots at (omega arith))
    ∙ ap (find (λ r. number r == id)) are

-- no row stands at the place of a later one, or behind it
pub room_kept : {R : Type 0} (number : R → ℕ) (slots : List (Option R)) (rows : List R) (row : R) (place : ℕ) → AtPlaces number 0 slots → present slots ≡ rows → IsStrictlySortedBy nat_cmp (map number (rows ++ row ∷ [])) → place ≡ number row
    → present (take place slots) ≡ rows
room_kept number slots rows row place at are up e =
    cut_rows number 0 place slots at (subst (λ rs. AllByRecursion (λ r. number r < 0 + place) rs) (sym are) (more number (number row) (0 + place) (omega (arith, e)) rows (all_below number rows row up))) ∙ are

-- what a slot that is lent holds
lent : {X : Type 0} (slots : List X) (i : ℕ) (item : Option (MutBor X)) → IsItemAtMut slots i item → option_copied_mut item ≡ slice_get slots i
lent slots i None h = sym (slice_get_past slots i h.3)
lent slots i (Some x) h = sym (slice_get_read slots (length slots) i x.now refl h.3.0 h.1)

-- the slot of a number is lent, and the row in it changed
module _ {R : Type 0} (number : R → ℕ) (g h : R → R) (id i : ℕ) (item : Option (MutBor (Option R))) (slots : List (Option R)) (at : AtPlaces number 0 slots) (place : i ≡ id) (is : IsItemAtMut slots i item) where
  pub lent_at : (slot new : Option R) → ((r : R) → number (h r) ≡ number r) → option_copied_mut item ≡ Some slot → new ≡ option_map h slot → AtPlaces number 0 (set slots i new)
  lent_at slot new stays copied put = subst (λ s. AtPlaces number 0 (set slots i s)) (sym put) (changed_at number h stays 0 i slots slot at (sym (lent slots i item is) ∙ copied))

  pub lent_rows : (rows : List R) (slot new : Option R) → present slots ≡ rows → ((r : R) → (number r == id) ≡ true → h r ≡ g r) → ((r : R) → (number r == id) ≡ false → g r ≡ r)
      → option_copied_mut item ≡ Some slot → new ≡ option_map h slot → present (set slots i new) ≡ map g rows
  lent_rows rows slot new are here same copied put =
      ap (λ s. present (set slots i s)) put
      ∙ changed number g h id here same 0 i slots slot at (omega (arith, place)) (sym (lent slots i item is) ∙ copied)
      ∙ ap (map g) are

-- there is no such slot
pub none_lent : {R : Type 0} (number : R → ℕ) (g : R → R) (id i : ℕ) (item : Option (MutBor (Option R))) (slots : List (Option R)) (rows : List R) → AtPlaces number 0 slots → present slots ≡ rows → i ≡ id → IsItemAtMut slots i item → ((r : R) → (number r == id) ≡ false → g r ≡ r) → option_copied_mut item ≡ None
    → present slots ≡ map g rows
none_lent number g id i None slots rows at are place is same copied = are ∙ unchanged number g g id (λ r t. refl) same slots rows at are (let far = is.3 in omega (arith, far, place))
none_lent number g id i (Some x) slots rows at are place is same copied = absurd (let clash : ⊥ = cc in clash)
