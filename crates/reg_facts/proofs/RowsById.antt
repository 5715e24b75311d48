-- Rows of any kind whose ids ascend: what the id tells of one of them, one more and one less.
use Rattle.std.proofs.Common.{◌≡◌, ◌==◌, ◌++◌, ◌∙◌, ◌||◌, ℕ, List, [], ◌∷◌, Bool, true, false, not, Some, None, inl, inr, refl, sym, ap, subst, map, filter, arith}
use Rattle.std.specs.List.{AllByRecursion, find, list_any}
use Rattle.std.specs.List.Sorted.{IsStrictlySortedBy}
use Rattle.std.specs.Ordering.{nat_cmp}
use Rattle.std.specs.declared.cmp.Ordering.TheVariants.{Less}
use Rattle.std.proofs.lemmas.Bool.{cases_Bool, eqb-true}
use Rattle.std.proofs.lemmas.Bool.Decides.{nat_tests}
use Rattle.std.proofs.lemmas.Map.Keys.{sorted_tail, sorted_head}
use Rattle.reg_facts.proofs.Searched.{above_stay}

-- ---- lists that are seen through a function

pub any_seen : {X Y : Type 0} (f : X → Y) (test : Y → Bool) (xs : List X) → list_any test (map f xs) ≡ list_any (λ x. test (f x)) xs
any_seen f test [] = refl
any_seen f test (x ∷ xs) = ap (λ b. test (f x) || b) (any_seen f test xs)

pub filter_seen : {X Y : Type 0} (f : X → Y) (test : Y → Bool) (xs : List X) → filter test (map f xs) ≡ map f (filter (λ x. test (f x)) xs)
filter_seen f test [] = refl
filter_seen f test (x ∷ xs) = elim (cases_Bool (test (f x))) [
  | inl t ↦ rw t (ap (λ l. f x ∷ l) (filter_seen f test xs))
  | inr t ↦ rw t (filter_seen f test xs)
]

-- ---- ids

pub later_differs : (a b : ℕ) → nat_cmp a b ≡ Less → (a == b) ≡ false
later_differs a b h = grind (arith, nat_tests)

pub earlier_differs : (a b : ℕ) → nat_cmp a b ≡ Less → (b == a) ≡ false
earlier_differs a b h = grind (arith, nat_tests)

-- the ids of rows are above a number
abbrev pub AreAbove : {R : Type 0} → (R → ℕ) → ℕ → List R → Type 0
AreAbove id n rows = AllByRecursion (λ m. nat_cmp n m ≡ Less) (map id rows)

pub last_above : {R : Type 0} (id : R → ℕ) (n : ℕ) (rows : List R) (row : R) → AreAbove id n (rows ++ row ∷ []) → nat_cmp n (id row) ≡ Less
last_above id n [] row h = h.0
last_above id n (r ∷ rows) row h = last_above id n rows row h.1

-- rows behind one of this id
pub above_id : {R : Type 0} (id : R → ℕ) (n : ℕ) (r : R) (rows : List R) → IsStrictlySortedBy nat_cmp (map id (r ∷ rows)) → (id r == n) ≡ true → AreAbove id n rows
above_id id n r rows up t = subst (λ k. AreAbove id k rows) (eqb-true (id r) n t) (sorted_head nat_cmp (id r) (map id rows) up)

pub found_id : {R : Type 0} (id : R → ℕ) (n : ℕ) (rows : List R) (row : R) → find (λ r. id r == n) rows ≡ Some row → id row ≡ n
found_id id n [] row h = absurd (let clash : ⊥ = cc in clash)
found_id {R = R} id n (x ∷ xs) row h = elim (cases_Bool (id x == n)) [
  | inl t ↦ (let at : Some x ≡ Some row = rw t at h in let same : x ≡ row = cc in ap id (sym same) ∙ eqb-true (id x) n t)
  | inr t ↦ found_id id n xs row (rw t at h)
]

-- ---- a test that a row passes, and none of another id

-- one of a later id isn't there yet
pub none_like : {R : Type 0} (id : R → ℕ) (test : R → Bool) (row : R) → ((x : R) → (id x == id row) ≡ false → test x ≡ false) → (rows : List R) → IsStrictlySortedBy nat_cmp (map id (rows ++ row ∷ [])) → list_any test rows ≡ false
none_like id test row apart [] up = refl
none_like id test row apart (r ∷ rows) up =
    rw (apart r (later_differs (id r) (id row) (last_above id (id r) rows row (sorted_head nat_cmp (id r) (map id (rows ++ row ∷ [])) up))))
    (none_like id test row apart rows (sorted_tail nat_cmp (id r) (map id (rows ++ row ∷ [])) up))

others : {R : Type 0} (id : R → ℕ) (test : R → Bool) (n : ℕ) → ((x : R) → (id x == n) ≡ false → test x ≡ false) → (rows : List R) → AreAbove id n rows → filter (λ r. not (test r)) rows ≡ rows
others id test n apart [] h = refl
others id test n apart (x ∷ xs) h = rw (apart x (earlier_differs n (id x) h.0)) (ap (λ l. x ∷ l) (others id test n apart xs h.1))

-- where it stands, it is the one that the test takes away
pub taken : {R : Type 0} (id : R → ℕ) (test : R → Bool) (n : ℕ) (row : R) → ((x : R) → (id x == n) ≡ false → test x ≡ false) → test row ≡ true
    → (rows : List R) → IsStrictlySortedBy nat_cmp (map id rows) → find (λ r. id r == n) rows ≡ Some row → filter (λ r. not (test r)) rows ≡ filter (λ r. not (id r == n)) rows
taken id test n row apart passes [] up h = refl
taken id test n row apart passes (x ∷ xs) up h = elim (cases_Bool (id x == n)) [
  | inl t ↦
      let at : Some x ≡ Some row = rw t at h in
      let same : row ≡ x = cc in
      let above = above_id id n x xs up t in
      rw (t, subst (λ r. test r ≡ true) same passes, above_stay id n xs above) (others id test n apart xs above)
  | inr t ↦ rw (t, apart x t) (ap (λ l. x ∷ l) (taken id test n row apart passes xs (sorted_tail nat_cmp (id x) (map id xs) up) (rw t at h)))
]

pub none_taken : {R : Type 0} (id : R → ℕ) (n : ℕ) (rows : List R) → find (λ r. id r == n) rows ≡ None → filter (λ r. not (id r == n)) rows ≡ rows
none_taken id n [] h = refl
none_taken id n (x ∷ xs) h = elim (cases_Bool (id x == n)) [
  | inl t ↦ absurd (let at : Some x ≡ None = rw t at h in let clash : ⊥ = cc in clash)
  | inr t ↦ rw t (ap (λ l. x ∷ l) (none_taken id n xs (rw t at h)))
]

-- some rows less ascend still
pub less_ascends : {R : Type 0} (id : R → ℕ) (test : R → Bool) (rows : List R) → IsStrictlySortedBy nat_cmp (map id rows) → IsStrictlySortedBy nat_cmp (map id (filter test rows))
unfolding IsStrictlySortedBy
less_ascends id test [] up = up
less_ascends {R = R} id test (r ∷ rows) up = elim (cases_Bool (test r)) [
  | inl t ↦ rw t (all_less rows up.0, less_ascends id test rows up.1)
  | inr t ↦ rw t (less_ascends id test rows up.1)
]
  where
    all_less : (xs : List R) → AreAbove id (id r) xs → AreAbove id (id r) (filter test xs)
    all_less [] a = tt
    all_less (x ∷ xs) a = elim (cases_Bool (test x)) [
      | inl t ↦ rw t (a.0, all_less xs a.1)
      | inr t ↦ rw t (all_less xs a.1)
    ]

-- and rows that keep their ids
ids_stay : {R : Type 0} (id : R → ℕ) (f : R → R) → ((row : R) → id (f row) ≡ id row) → (rows : List R) → map id (map f rows) ≡ map id rows
ids_stay id f stay [] = refl
ids_stay id f stay (r ∷ rows) = rw (stay r, ids_stay id f stay rows) refl

pub changed_ascends : {R : Type 0} (id : R → ℕ) (f : R → R) → ((row : R) → id (f row) ≡ id row) → (rows : List R) → IsStrictlySortedBy nat_cmp (map id rows) → IsStrictlySortedBy nat_cmp (map id (map f rows))
changed_ascends id f stay rows up = subst (λ ids. IsStrictlySortedBy nat_cmp ids) (sym (ids_stay id f stay rows)) up
