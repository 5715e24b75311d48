-- Keys of a load and names that it makes, each once, and what is found by them.
use Rattle.std.proofs.Common.{◌≡◌, ◌<◌, ◌+◌, ◌==◌, ◌||◌, ◌++◌, ◌∙◌, ℕ, suc, List, [], ◌∷◌, Bool, true, false, Option, None, Some, map, filter, fold, get_or, refl, sym, ap, subst, arith, inl, inr, bytes_eq}
use Rattle.std.specs.Prelude.{⊤}
use Rattle.std.specs.List.{AllByRecursion, list_all, list_any, position_or_len}
use Rattle.std.proofs.lemmas.Bool.{cases_Bool, eq-eqb, eqb-true, or_left, or_parts, or_right}
use Rattle.std.proofs.lemmas.Bool.Decides.{nat_tests}
use Rattle.std.proofs.lemmas.List.Folds.{list_any-append}
use Rattle.indexmap.specs.IndexSet.{insert_key}
use Rattle.reg_terms.specs.declared.rows.PersonRow.{PersonRow}
use Rattle.reg_terms.specs.declared.rows.SubjectRow.{SubjectRow}
use Rattle.reg_facts.specs.Children as children
use Rattle.reg_facts.specs.Edits.{subject_id}
use Rattle.reg_facts.specs.Lists.{Lists}
use Rattle.reg_facts.specs.Naming.{resolve}
use Rattle.reg_facts.specs.Rows.{subject_row}
use Rattle.reg_facts.specs.Sound.{AreTextsOnce, has_subject}
use Rattle.reg_facts.proofs.Held.{text_other}
use Rattle.reg_facts.proofs.Places.{all_push, bytes_same, bytes_self}
use Rattle.reg_load.specs.LoadChecks.{created_id, first_taken}
use Rattle.reg_load.specs.PersonRows.{comes_twice, is_one_of}
use Rattle.reg_loader.specs.Plan.{Key, is_among, same_key}
use Rattle.reg_loader.proofs.Lists.{same_key_is, same_key_self}

pub some_is : {A : Type 0} (a b : A) → Some a ≡ Some b → a ≡ b
some_is a b h = cc

pub none_some : {A B : Type 0} (a : A) → None ≡ Some a → B
none_some a h = cc

pub apart : (n k : ℕ) → k < n → (k == n) ≡ false
apart n k h = grind (arith, nat_tests, h)

pub apart_from : (n k m : ℕ) → (n == k) ≡ false → m ≡ k → (n == m) ≡ false
apart_from n k m h e = subst (λ x. (n == x) ≡ false) (sym e) h

-- what holds of all of some whose test passes
pub all_filtered : {A : Type 0} (P : A → Type 0) (test : A → Bool) (xs : List A) → AllByRecursion P xs → AllByRecursion (λ x. P x × (test x ≡ true)) (filter test xs)
all_filtered P test [] h = tt
all_filtered P test (x ∷ xs) h = elim (cases_Bool (test x)) [
  | inl t ↦ rw t ((h.0, t), all_filtered P test xs h.1)
  | inr t ↦ rw t (all_filtered P test xs h.1)
]

-- ---- keys, each once

abbrev pub Once : List Key → Type 0
Once [] = ⊤
Once (key ∷ keys) = (is_among key keys ≡ false) × Once keys

key_apart : (a b : Key) → same_key a b ≡ false → same_key b a ≡ false
key_apart a b h = elim (cases_Bool (same_key b a)) [
  | inl t ↦ let clash : true ≡ false = sym (same_key_self a) ∙ subst (λ (k : Key). same_key a k ≡ false) (same_key_is b a t) h in cc clash
  | inr t ↦ t
]

among_less : (key : Key) (test : Key → Bool) (keys : List Key) → is_among key keys ≡ false → is_among key (filter test keys) ≡ false
among_less key test [] h = refl
among_less key test (x ∷ keys) h =
    let parts = or_parts (same_key key x) (is_among key keys) h in
    elim (cases_Bool (test x)) [
      | inl t ↦ rw (t, parts.0) (among_less key test keys parts.1)
      | inr t ↦ rw t (among_less key test keys parts.1)
    ]

pub once_filter : (test : Key → Bool) (keys : List Key) → Once keys → Once (filter test keys)
once_filter test [] h = tt
once_filter test (x ∷ keys) h = elim (cases_Bool (test x)) [
  | inl t ↦ rw t (among_less x test keys h.0, once_filter test keys h.1)
  | inr t ↦ rw t (once_filter test keys h.1)
]

among_more : (key x : Key) (keys : List Key) → is_among key keys ≡ false → same_key key x ≡ false → is_among key (keys ++ x ∷ []) ≡ false
among_more key x [] h other = rw other refl
among_more key x (k ∷ keys) h other =
    let parts = or_parts (same_key key k) (is_among key keys) h in
    rw parts.0 (among_more key x keys parts.1 other)

once_more : (x : Key) (keys : List Key) → Once keys → is_among x keys ≡ false → Once (keys ++ x ∷ [])
once_more x [] h none = (refl, tt)
once_more x (k ∷ keys) h none =
    let parts = or_parts (same_key x k) (is_among x keys) none in
    (among_more k x keys h.0 (key_apart x k parts.0), once_more x keys h.1 parts.1)

once_put : (x : Key) (keys : List Key) → Once keys → Once (insert_key same_key keys x)
once_put x keys h = elim (cases_Bool (is_among x keys)) [
  | inl t ↦ rw t h
  | inr t ↦ rw t (once_more x keys h t)
]

pub once_all : (keys xs : List Key) → Once keys → Once (fold (insert_key same_key) keys xs)
once_all keys [] h = h
once_all keys (x ∷ xs) h = once_all (insert_key same_key keys x) xs (once_put x keys h)

among_none : (key : Key) (xs ys : List Key) → is_among key xs ≡ false → is_among key ys ≡ false → is_among key (xs ++ ys) ≡ false
among_none key xs ys a b = list_any-append (same_key key) xs ys ∙ rw a b

pub once_joined : (xs ys : List Key) → Once xs → Once ys → AllByRecursion (λ (k : Key). is_among k ys ≡ false) xs → Once (xs ++ ys)
once_joined [] ys a b new = b
once_joined (x ∷ xs) ys a b new = (among_none x xs ys a.0 new.0, once_joined xs ys a.1 b new.1)

-- a key as a row
abbrev pub row_of : Key → PersonRow
row_of key = record { group = key.0; person = key.1 }

one_of_keys : (key : Key) (keys : List Key) → is_one_of (map row_of keys) (row_of key) ≡ is_among key keys
one_of_keys key [] = refl
one_of_keys key (x ∷ keys) = ap (λ b. same_key key x || b) (one_of_keys key keys)

pub none_twice : (keys : List Key) → Once keys → comes_twice (map row_of keys) ≡ false
none_twice [] h = refl
none_twice (key ∷ keys) h = rw (one_of_keys key keys, h.0) (none_twice keys h.1)

-- ---- created names, each once and free

abbrev NamesOnce : List (List ℕ) → Type 0
NamesOnce [] = ⊤
NamesOnce (name ∷ names) = AllByRecursion (λ (other : List ℕ). bytes_eq name other ≡ false) names × NamesOnce names

names_more : (x : List ℕ) (names : List (List ℕ)) → NamesOnce names → list_any (bytes_eq x) names ≡ false → NamesOnce (names ++ x ∷ [])
names_more x [] h none = (tt, tt)
names_more x (n ∷ names) h none =
    let parts = or_parts (bytes_eq x n) (list_any (bytes_eq x) names) none in
    (all_push (λ (other : List ℕ). bytes_eq n other ≡ false) names x h.0 (text_other x n parts.0), names_more x names h.1 parts.1)

names_put : (x : List ℕ) (names : List (List ℕ)) → NamesOnce names → NamesOnce (insert_key bytes_eq names x)
names_put x names h = elim (cases_Bool (list_any (bytes_eq x) names)) [
  | inl t ↦ rw t h
  | inr t ↦ rw t (names_more x names h t)
]

pub names_all : (names xs : List (List ℕ)) → NamesOnce names → NamesOnce (fold (insert_key bytes_eq) names xs)
names_all names [] h = h
names_all names (x ∷ xs) h = names_all (insert_key bytes_eq names x) xs (names_put x names h)

-- names that nothing has, and none of which comes twice
pub untaken : (before : List (List ℕ)) (f : Lists) (names : List (List ℕ)) → AllByRecursion (λ (n : List ℕ). resolve n f ≡ None) names → NamesOnce names → AllByRecursion (λ (n : List ℕ). children.is_among n before ≡ false) names → first_taken before f names ≡ None
untaken before f [] free once new = refl
untaken before f (name ∷ names) free once new = rw (free.0, new.0) (untaken (name ∷ before) f names free.1 once.1 (seen names once.0 new.1))
  where
    seen : (ns : List (List ℕ)) → AllByRecursion (λ (n : List ℕ). bytes_eq name n ≡ false) ns → AllByRecursion (λ (n : List ℕ). children.is_among n before ≡ false) ns → AllByRecursion (λ (n : List ℕ). children.is_among n (name ∷ before) ≡ false) ns
    seen [] a b = tt
    seen (n ∷ ns) a b = (rw (a.0, b.0) refl, seen ns a.1 b.1)

pub none_before : (names : List (List ℕ)) → AllByRecursion (λ (n : List ℕ). children.is_among n [] ≡ false) names
none_before [] = tt
none_before (n ∷ names) = (refl, none_before names)

pub all_true : {A : Type 0} (test : A → Bool) (xs : List A) → AllByRecursion (λ x. test x ≡ true) xs → list_all test xs ≡ true
all_true test [] h = refl
all_true test (x ∷ xs) h = rw h.0 (all_true test xs h.1)

pub none_true : {A : Type 0} (test : A → Bool) (xs : List A) → AllByRecursion (λ x. test x ≡ false) xs → list_any test xs ≡ false
none_true test [] h = refl
none_true test (x ∷ xs) h = rw h.0 (none_true test xs h.1)

-- ---- the place of a created name

flipped : (a b : List ℕ) → bytes_eq a b ≡ true → bytes_eq b a ≡ true
flipped a b h = subst (λ (x : List ℕ). bytes_eq b x ≡ true) (sym (bytes_same a b h)) (bytes_self b)

pub id_first : (names : List (List ℕ)) (next : ℕ) (text : List ℕ) → list_any (bytes_eq text) names ≡ true → created_id names next text ≡ Some (next + position_or_len (bytes_eq text) names)
id_first [] next text h = cc h
id_first (n ∷ names) next text h = elim (cases_Bool (bytes_eq text n)) [
  | inl t ↦ rw (flipped text n t, t) (ap Some (omega arith))
  | inr t ↦ rw (text_other text n t, t) (id_first names (next + 1) text (rw t at h) ∙ ap Some (omega arith))
]

get_next : (n : List ℕ) (names : List (List ℕ)) (p : ℕ) → get_or (n ∷ names) (1 + p) [] ≡ get_or names p []
get_next n names p = let size : 1 + p ≡ suc p = omega arith in ap (λ (i : ℕ). get_or (n ∷ names) i []) size

pub get_first : (names : List (List ℕ)) (text : List ℕ) → list_any (bytes_eq text) names ≡ true → get_or names (position_or_len (bytes_eq text) names) [] ≡ text
get_first [] text h = cc h
get_first (n ∷ names) text h = elim (cases_Bool (bytes_eq text n)) [
  | inl t ↦ rw t (sym (bytes_same text n t))
  | inr t ↦ rw t (get_next n names (position_or_len (bytes_eq text) names) ∙ get_first names text (rw t at h))
]

-- ---- persons by their texts

pub text_finds : (s : ℕ) (ss : List SubjectRow) → AreTextsOnce ss → has_subject s ss ≡ true → subject_id (elim (subject_row s ss) [ None ↦ [] | Some row ↦ row.text ]) ss ≡ Some s
text_finds s [] once h = cc h
text_finds s (r ∷ ss) once h = elim (cases_Bool (r.id == s)) [
  | inl t ↦ rw (t, bytes_self r.text) (ap Some (eqb-true r.id s t))
  | inr t ↦
      let text : List ℕ = elim (subject_row s ss) [ None ↦ [] | Some row ↦ row.text ] in
      let more : subject_id text ss ≡ Some s = text_finds s ss once.1 (rw t at h) in
      let other : bytes_eq r.text text ≡ false = elim (cases_Bool (bytes_eq r.text text)) [
        | inl same ↦ none_some s (sym once.0 ∙ subst (λ (x : List ℕ). subject_id x ss ≡ Some s) (sym (bytes_same r.text text same)) more)
        | inr differs ↦ differs
      ] in
      let later : subject_row s (r ∷ ss) ≡ subject_row s ss = rw t refl in
      let inside : subject_id text (r ∷ ss) ≡ Some s = rw other more in
      subst (λ (found : Option SubjectRow). subject_id (elim found [ None ↦ [] | Some row ↦ row.text ]) (r ∷ ss) ≡ Some s) (sym later) inside
]

pub id_stands : (text : List ℕ) (ss : List SubjectRow) (s : ℕ) → subject_id text ss ≡ Some s → has_subject s ss ≡ true
id_stands text [] s h = cc h
id_stands text (r ∷ ss) s h = elim (cases_Bool (bytes_eq r.text text)) [
  | inl t ↦ let found : Some r.id ≡ Some s = rw t at h in or_left (r.id == s) (has_subject s ss) (eq-eqb r.id s (some_is r.id s found))
  | inr t ↦ or_right (r.id == s) (has_subject s ss) (id_stands text ss s (rw t at h))
]
