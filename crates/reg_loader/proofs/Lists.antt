-- Lists in which each stands once, and what stands among some.
use Rattle.std.proofs.Common.{◌≡◌, ◌<◌, ◌≤◌, ◌+◌, ℕ, Bool, true, false, cond, ◌||◌, ◌==◌, List, [], ◌∷◌, ◌++◌, length, fold, filter, refl, sym, ap, ◌∙◌, arith, inl, inr, map, append-nil, length-append, get_or, take, Option, None, Some}
use Rattle.std.specs.List.{list_any, position, position_or_len, AllByRecursion, filter_map, cons_option}
use Rattle.std.proofs.lemmas.Bool.{cases_Bool, and_from, and_parts, eq-eqb, or_left, or_right, eqb-true}
use Rattle.std.proofs.lemmas.Grind.{common_steps}
use Rattle.std.proofs.lemmas.List.{map-append, take_more}
use Rattle.std.proofs.lemmas.List.Folds.{list_any-append}
use Rattle.std.proofs.lemmas.List.Sums.{fold_push, length-filter, count_by-le-length}
use Rattle.std.proofs.lemmas.List.Elements.{filter-append, filter_map-append}
use Rattle.indexmap.specs.IndexSet.{insert_key}
use Rattle.reg_facts.proofs.Places.{all_push}
use Rattle.reg_loader.specs.Plan.{Key, each_once, is_among, same_key}

or_assoc : (a b c : Bool) → ((a || b) || c) ≡ (a || (b || c))
or_assoc true b c = refl
or_assoc false b c = refl

or_none : (a : Bool) → (a || false) ≡ a
or_none true = refl
or_none false = refl

pub same_key_is : (a b : Key) → same_key a b ≡ true → a ≡ b
same_key_is a b h =
    let parts = and_parts (a.0 == b.0) (a.1 == b.1) h in
    let first = eqb-true a.0 b.0 parts.0 in
    let second = eqb-true a.1 b.1 parts.1 in
    (λ i. (first i, second i))

pub same_key_self : (a : Key) → same_key a a ≡ true
same_key_self a = and_from (a.0 == a.0) (a.1 == a.1) (eq-eqb a.0 a.0 refl) (eq-eqb a.1 a.1 refl)

-- among those and one more
pub among_insert : (key x : Key) (keys : List Key) → is_among key (insert_key same_key keys x) ≡ (is_among key keys || same_key key x)
among_insert key x keys = elim (cases_Bool (list_any (same_key x) keys)) [
  | inl there ↦ rw there (elim (cases_Bool (same_key key x)) [
    | inl same ↦ let e = same_key_is key x same in rw (same, e, there) refl
    | inr other ↦ rw other (sym (or_none (is_among key keys)))
  ])
  | inr missing ↦ rw missing (list_any-append (same_key key) keys (x ∷ []) ∙ ap (λ b. is_among key keys || b) (or_none (same_key key x)))
]

among_fold : (key : Key) (keys xs : List Key) → is_among key (fold (insert_key same_key) keys xs) ≡ (is_among key keys || is_among key xs)
among_fold key keys [] = sym (or_none (is_among key keys))
among_fold key keys (x ∷ xs) = among_fold key (insert_key same_key keys x) xs ∙ ap (λ b. b || is_among key xs) (among_insert key x keys) ∙ or_assoc (is_among key keys) (same_key key x) (is_among key xs)

-- among some where each stands once, and among all
pub among_once : (key : Key) (xs : List Key) → is_among key (each_once same_key xs) ≡ is_among key xs
among_once key xs = among_fold key [] xs

-- the first place stays where others come behind
pub place_within : {A : Type 0} (test : A → Bool) (xs : List A) → list_any test xs ≡ true → position_or_len test xs < length xs
place_within test [] h = cc h
place_within test (x ∷ xs) h = elim (cases_Bool (test x)) [
  | inl here ↦ rw here (omega arith)
  | inr other ↦ let more = place_within test xs (rw other at h) in rw other (omega arith)
]

pub place_stays : {A : Type 0} (test : A → Bool) (xs more : List A) → list_any test xs ≡ true → position_or_len test (xs ++ more) ≡ position_or_len test xs
place_stays test [] more h = cc h
place_stays test (x ∷ xs) more h = elim (cases_Bool (test x)) [
  | inl here ↦ rw here refl
  | inr other ↦ rw other (ap (λ n. 1 + n) (place_stays test xs more (rw other at h)))
]

-- what is put behind the others if it isn't there stands where it did, or at the end
pub place_behind : {A : Type 0} (test : A → Bool) (xs : List A) (x : A) → list_any test xs ≡ false → test x ≡ true → position_or_len test (xs ++ x ∷ []) ≡ length xs
place_behind test [] x none here = rw here refl
place_behind test (y ∷ xs) x none here = elim (cases_Bool (test y)) [
  | inl first ↦ let bad = rw first at none in cc bad
  | inr other ↦ rw other (omega (arith, place_behind test xs x (rw other at none) here))
]

pub place_none : {A : Type 0} (test : A → Bool) (xs : List A) → list_any test xs ≡ false → position_or_len test xs ≡ length xs
place_none test [] none = refl
place_none test (y ∷ xs) none = elim (cases_Bool (test y)) [
  | inl first ↦ let bad = rw first at none in cc bad
  | inr other ↦ rw other (omega (arith, place_none test xs (rw other at none)))
]

pub all_insert : {A : Type 0} (P : A → Type 0) (same : A → A → Bool) (xs : List A) (x : A) → AllByRecursion P xs → P x → AllByRecursion P (insert_key same xs x)
all_insert P same xs x h here = elim (cases_Bool (list_any (same x) xs)) [
  | inl there ↦ rw there h
  | inr missing ↦ rw missing (all_push P xs x h here)
]

pub all_once : {A : Type 0} (P : A → Type 0) (same : A → A → Bool) (keys xs : List A) → AllByRecursion P keys → AllByRecursion P xs → AllByRecursion P (fold (insert_key same) keys xs)
all_once P same keys [] h more = h
all_once P same keys (x ∷ xs) h more = all_once P same (insert_key same keys x) xs (all_insert P same keys x h more.0) more.1

pub place_insert : {A : Type 0} (same : A → A → Bool) (test : A → Bool) (xs : List A) (x : A) → list_any test xs ≡ true → position_or_len test (insert_key same xs x) ≡ position_or_len test xs
place_insert same test xs x there = elim (cases_Bool (list_any (same x) xs)) [
  | inl known ↦ rw known refl
  | inr missing ↦ rw missing (place_stays test xs (x ∷ []) there)
]

pub place_put : {A : Type 0} (same : A → A → Bool) (xs : List A) (x : A) → same x x ≡ true → position_or_len (same x) (insert_key same xs x) ≡ position_or_len (same x) xs
place_put same xs x self = elim (cases_Bool (list_any (same x) xs)) [
  | inl known ↦ rw known refl
  | inr missing ↦ rw missing (place_behind (same x) xs x missing self ∙ sym (place_none (same x) xs missing))
]

pub any_insert : {A : Type 0} (same : A → A → Bool) (test : A → Bool) (xs : List A) (x : A) → list_any test xs ≡ true → list_any test (insert_key same xs x) ≡ true
any_insert same test xs x there = elim (cases_Bool (list_any (same x) xs)) [
  | inl known ↦ rw known there
  | inr missing ↦ rw missing (list_any-append test xs (x ∷ []) ∙ or_left (list_any test xs) (list_any test (x ∷ [])) there)
]

pub any_put : {A : Type 0} (same : A → A → Bool) (xs : List A) (x : A) → same x x ≡ true → list_any (same x) (insert_key same xs x) ≡ true
any_put same xs x self = elim (cases_Bool (list_any (same x) xs)) [
  | inl known ↦ rw known known
  | inr missing ↦ rw missing (list_any-append (same x) xs (x ∷ []) ∙ or_right (list_any (same x) xs) (list_any (same x) (x ∷ [])) (rw self refl))
]

-- a set of keys seen by their bytes
module _ {A B : Type 0} (see : A → B) (same : A → A → Bool) (eq : B → B → Bool) (agrees : (a b : A) → same a b ≡ eq (see a) (see b)) where
  any_seen : (a : A) (xs : List A) → list_any (same a) xs ≡ list_any (eq (see a)) (map see xs)
  any_seen a [] = refl
  any_seen a (b ∷ xs) = rw (agrees a b, any_seen a xs) refl

  pub insert_seen : (xs : List A) (a : A) → map see (insert_key same xs a) ≡ insert_key eq (map see xs) (see a)
  insert_seen xs a = elim (cases_Bool (list_any (same a) xs)) [
    | inl there ↦ rw (there, sym (any_seen a xs) ∙ there) refl
    | inr missing ↦ rw (missing, sym (any_seen a xs) ∙ missing) (map-append see xs (a ∷ []))
  ]

  pub place_seen : (a : A) (xs : List A) → position_or_len (same a) xs ≡ position_or_len (eq (see a)) (map see xs)
  place_seen a [] = refl
  place_seen a (b ∷ xs) = elim (cases_Bool (eq (see a) (see b))) [
    | inl here ↦ rw (agrees a b, here) refl
    | inr other ↦ rw (agrees a b, other) (ap (λ n. 1 + n) (place_seen a xs))
  ]

-- what a test of how they are seen finds among keys
module _ {A B : Type 0} (see : A → B) (test : B → Bool) where
  pub any_found : (xs : List A) → list_any (λ a. test (see a)) xs ≡ list_any test (map see xs)
  any_found [] = refl
  any_found (a ∷ xs) = rw (any_found xs) refl

  place_mapped : (xs : List A) → position_or_len (λ a. test (see a)) xs ≡ position_or_len test (map see xs)
  place_mapped [] = refl
  place_mapped (a ∷ xs) = elim (cases_Bool (test (see a))) [
    | inl here ↦ rw here refl
    | inr other ↦ rw other (ap (λ n. 1 + n) (place_mapped xs))
  ]

  pub place_found : (xs : List A) (i : ℕ) → position (λ a. test (see a)) xs ≡ Some i → i ≡ position_or_len test (map see xs)
  place_found xs i at =
      let first : position_or_len (λ a. test (see a)) xs ≡ i = grind (arith, common_steps) in
      sym first ∙ place_mapped xs

-- what passes a test, with one more behind
module _ {R : Type 0} (test : R → Bool) (rows : List R) (row : R) where
  pub filter_with : test row ≡ true → filter test (rows ++ row ∷ []) ≡ filter test rows ++ row ∷ []
  filter_with h = filter-append test rows (row ∷ []) ∙ rw h refl

  pub filter_without : test row ≡ false → filter test (rows ++ row ∷ []) ≡ filter test rows
  filter_without h = filter-append test rows (row ∷ []) ∙ rw h (append-nil (filter test rows))

  pub count_with : test row ≡ true → length (filter test (rows ++ row ∷ [])) ≡ length (filter test rows) + 1
  count_with h = ap length (filter_with h) ∙ length-append (filter test rows) (row ∷ [])

  pub count_without : test row ≡ false → length (filter test (rows ++ row ∷ [])) ≡ length (filter test rows)
  count_without h = ap length (filter_without h)

  -- what is listed of them by texts, each once
  module _ {T : Type 0} (text : R → T) (same : T → T → Bool) where
    pub once_with : test row ≡ true → each_once same (map text (filter test (rows ++ row ∷ []))) ≡ insert_key same (each_once same (map text (filter test rows))) (text row)
    once_with h = ap (λ rs. each_once same (map text rs)) (filter_with h) ∙ ap (each_once same) (map-append text (filter test rows) (row ∷ [])) ∙ fold_push (insert_key same) [] (map text (filter test rows)) (text row)

    pub once_without : test row ≡ false → each_once same (map text (filter test (rows ++ row ∷ []))) ≡ each_once same (map text (filter test rows))
    once_without h = ap (λ rs. each_once same (map text rs)) (filter_without h)

-- what is listed by two functions that agree
pub mapped_same : {R K : Type 0} (g h : R → Option K) (rows : List R) → AllByRecursion (λ row. g row ≡ h row) rows → filter_map g rows ≡ filter_map h rows
mapped_same g h [] all = refl
mapped_same g h (row ∷ rows) all = rw (all.0, mapped_same g h rows all.1) refl

pub mapped_within : {R K : Type 0} (g : R → Option K) (rows : List R) → length (filter_map g rows) ≤ length rows
mapped_within {R} {K} g [] = omega arith
mapped_within {R} {K} g (row ∷ rows) = by (g row) (mapped_within g rows)
  where
    by : (r : Option K) → length (filter_map g rows) ≤ length rows → length (cons_option r (filter_map g rows)) ≤ length (row ∷ rows)
    by None h = omega arith
    by (Some k) h = omega arith

pub all_each : {A : Type 0} (P Q : A → Type 0) (xs : List A) → ((x : A) → P x → Q x) → AllByRecursion P xs → AllByRecursion Q xs
all_each P Q [] go h = h
all_each P Q (x ∷ xs) go h = (go x h.0, all_each P Q xs go h.1)

-- all that is listed of some has Q, where what each of them gives has it
pub all_mapped : {R K : Type 0} (P : R → Type 0) (Q : K → Type 0) (g : R → Option K) (rows : List R) → ((row : R) → P row → (key : K) → g row ≡ Some key → Q key) → AllByRecursion P rows → AllByRecursion Q (filter_map g rows)
all_mapped P Q g [] go h = tt
all_mapped {R} {K} P Q g (row ∷ rows) go h = by (g row) refl (all_mapped P Q g rows go h.1)
  where
    by : (r : Option K) → g row ≡ r → AllByRecursion Q (filter_map g rows) → AllByRecursion Q (cons_option r (filter_map g rows))
    by None e more = more
    by (Some key) e more = (go row h.0 key e, more)

pub all_joined : {A : Type 0} (P : A → Type 0) (xs ys : List A) → AllByRecursion P xs → AllByRecursion P ys → AllByRecursion P (xs ++ ys)
all_joined P [] ys h more = more
all_joined P (x ∷ xs) ys h more = (h.0, all_joined P xs ys h.1 more)

pub count_more : {R : Type 0} (test : R → Bool) (rows : List R) (row : R) → length (filter test (rows ++ row ∷ [])) ≡ length (filter test rows) + cond (test row) 1 0
count_more test rows row = elim (cases_Bool (test row)) [
  | inl here ↦ rw here (count_with test rows row here)
  | inr other ↦ rw other (omega (arith, count_without test rows row other))
]

pub count_within : {R : Type 0} (test : R → Bool) (rows : List R) → length (filter test rows) ≤ length rows
count_within test rows = omega (arith, length-filter test rows, count_by-le-length test rows)

-- two tests that agree let the same pass
pub filters_same : {A : Type 0} (test other : A → Bool) (xs : List A) → ((x : A) → test x ≡ other x) → filter test xs ≡ filter other xs
filters_same test other [] same = refl
filters_same test other (x ∷ xs) same = rw (same x, filters_same test other xs same) refl

-- all that some are seen as has P, and so have they as they are seen
pub all_map : {A B : Type 0} (P : B → Type 0) (see : A → B) (xs : List A) → AllByRecursion (λ x. P (see x)) xs → AllByRecursion P (map see xs)
all_map P see [] h = tt
all_map P see (x ∷ xs) h = (h.0, all_map P see xs h.1)

pub all_unmap : {A B : Type 0} (P : B → Type 0) (see : A → B) (xs : List A) → AllByRecursion P (map see xs) → AllByRecursion (λ x. P (see x)) xs
all_unmap P see [] h = tt
all_unmap P see (x ∷ xs) h = (h.0, all_unmap P see xs h.1)

-- what passes a test has what the test tells
pub all_passed : {A : Type 0} (P : A → Type 0) (test : A → Bool) (xs : List A) → ((x : A) → test x ≡ true → P x) → AllByRecursion P (filter test xs)
all_passed P test [] go = tt
all_passed P test (x ∷ xs) go = elim (cases_Bool (test x)) [
  | inl here ↦ rw here (go x here, all_passed P test xs go)
  | inr other ↦ rw other (all_passed P test xs go)
]

-- what is listed, with one row more
pub mapped_more : {R K : Type 0} (g : R → Option K) (rows : List R) (i : ℕ) (d : R) → i < length rows → filter_map g (take (i + 1) rows) ≡ filter_map g (take i rows) ++ cons_option (g (get_or rows i d)) []
mapped_more g rows i d inside = ap (filter_map g) (take_more rows i d inside) ∙ filter_map-append g (take i rows) (get_or rows i d ∷ [])
