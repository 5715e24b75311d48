-- What passes a test of some texts in order are those that pass in order.
use Rattle.std.proofs.Common.{◌≡◌, ◌&&◌, ◌++◌, ◌∷◌, ℕ, List, [], Bool, inl, inr, refl, sym, ap, ◌∙◌, map, filter, bytes_eq, arith}
use Rattle.std.specs.Prelude.{codes}
use Rattle.std.specs.List.{list_any}
use Rattle.std.specs.List.Sorted.{IsStrictlySortedBy}
use Rattle.std.specs.BTreeSet.{BTreeSet, insert_key}
use Rattle.std.specs.Cmp.Lexicographic.{slice_cmp}
use Rattle.std.specs.Ordering.{nat_cmp, is_eq, match_ordering}
use Rattle.std.specs.declared.cmp.Ordering.{Ordering}
use Rattle.std.specs.declared.cmp.Ordering.TheVariants.{Less, Equal, Greater}
use Rattle.std.proofs.lemmas.Bool.{cases_Bool, false_from_ne_true, both_ways}
use Rattle.std.proofs.lemmas.Bool.Decides.{nat_tests}
use Rattle.std.proofs.lemmas.Grind.{common_steps}
use Rattle.std.proofs.lemmas.Cmp.{nat_list_cmp_total}
use Rattle.std.proofs.lemmas.List.Kept.{IsStrictlySortedBy-filter}
use Rattle.std.proofs.lemmas.Map.Lookups.{btree_set_from_contains, exact_bytes}
use Rattle.std.proofs.lemmas.Map.Text.{is_eq-slice_cmp}
use Rattle.reg_table.specs.Keyed.{put_into}
use Rattle.reg_facts.specs.Children.{by_bytes, is_among, extensions_in, names_in}
use Rattle.reg_facts.specs.Naming.{Placed, name_in}
use Rattle.reg_view.proofs.Same.{bytes_same, bytes_self}

abbrev text_cmp : List ℕ → List ℕ → Ordering
text_cmp a b = slice_cmp nat_cmp a b

swapped : (a b : List ℕ) → bytes_eq a b ≡ bytes_eq b a
swapped a b = elim (cases_Bool (bytes_eq a b)) [
  | inl t ↦ t ∙ sym (ap (λ x. bytes_eq x a) (sym (bytes_same a b t)) ∙ bytes_self a)
  | inr t ↦ t ∙ sym (false_from_ne_true (bytes_eq b a) (λ u. both_ways (bytes_eq a b) t (ap (λ x. bytes_eq x b) (sym (bytes_same b a u)) ∙ bytes_self b)))
]

among_is : (q : List ℕ) (texts : List (List ℕ)) → list_any (λ k. is_eq (text_cmp q k)) texts ≡ is_among q texts
among_is q [] = refl
among_is q (t ∷ texts) = rw (is_eq-slice_cmp q t, swapped q t, among_is q texts) refl

among_filter : (test : List ℕ → Bool) (q : List ℕ) (texts : List (List ℕ)) → is_among q (filter test texts) ≡ (test q && is_among q texts)
among_filter test q [] = elim (cases_Bool (test q)) [ inl t ↦ rw t refl | inr t ↦ rw t refl ]
among_filter test q (t ∷ texts) = elim (cases_Bool (bytes_eq t q)) [
  | inl e ↦
      let same : test t ≡ test q = ap test (bytes_same t q e) in
      elim (cases_Bool (test q)) [
        | inl y ↦ rw (same, y, e) refl
        | inr y ↦ rw (same, y) (among_filter test q texts ∙ rw y refl)
      ]
  | inr e ↦ elim (cases_Bool (test t)) [
    | inl y ↦ rw (y, e) (among_filter test q texts)
    | inr y ↦ rw (y, e) (among_filter test q texts)
  ]
]

-- by what is known of texts in order: they ascend, and are the same texts
module _ (sorted : (texts : List (List ℕ)) → IsStrictlySortedBy (slice_cmp nat_cmp) (by_bytes texts)) (same : (text : List ℕ) (texts : List (List ℕ)) → is_among text (by_bytes texts) ≡ is_among text texts) where
  pub filter_by_bytes : (test : List ℕ → Bool) (texts : List (List ℕ)) → filter test (by_bytes texts) ≡ by_bytes (filter test texts)
  filter_by_bytes test texts =
      let a : BTreeSet (List ℕ) = record { keys = filter test (by_bytes texts) } in
      let b : BTreeSet (List ℕ) = record { keys = by_bytes (filter test texts) } in
      btree_set_from_contains nat_list_cmp_total a b (IsStrictlySortedBy-filter (slice_cmp nat_cmp) test (by_bytes texts) (sorted texts)) (sorted (filter test texts)) (λ q.
      among_is q (filter test (by_bytes texts))
      ∙ among_filter test q (by_bytes texts)
      ∙ ap (λ x. test q && x) (same q texts)
      ∙ sym (among_filter test q texts)
      ∙ sym (same q (filter test texts))
      ∙ sym (among_is q (by_bytes (filter test texts)))) exact_bytes

-- ---- names put in order are the names of extensions put in order

-- texts that begin alike are in the order of what follows
itself : (n : ℕ) → nat_cmp n n ≡ Equal
itself n = grind (arith, nat_tests, common_steps)

begun_alike : (begin a b : List ℕ) → text_cmp (begin ++ a) (begin ++ b) ≡ text_cmp a b
begun_alike [] a b = refl
begun_alike (n ∷ begin) a b = rw (itself n) (begun_alike begin a b)

names_order : (home a b : List ℕ) → text_cmp (name_in home a) (name_in home b) ≡ text_cmp a b
names_order home a b = elim (cases_Bool (bytes_eq home (codes ":"))) [
  | inl t ↦ rw t refl
  | inr t ↦ rw t (begun_alike home (58 ∷ a) (58 ∷ b))
]

name_put : (home : List ℕ) (xs : List (List ℕ)) (x : List ℕ) → map (name_in home) (insert_key text_cmp xs x) ≡ insert_key text_cmp (map (name_in home) xs) (name_in home x)
name_put home [] x = refl
name_put home (y ∷ xs) x = rw (names_order home x y) (by_order (text_cmp x y) (name_put home xs x))
  where
    by_order : (o : Ordering) → map (name_in home) (insert_key text_cmp xs x) ≡ insert_key text_cmp (map (name_in home) xs) (name_in home x)
        → map (name_in home) (match_ordering o (x ∷ y ∷ xs) (y ∷ xs) (y ∷ insert_key text_cmp xs x))
        ≡ match_ordering o (name_in home x ∷ name_in home y ∷ map (name_in home) xs) (name_in home y ∷ map (name_in home) xs) (name_in home y ∷ insert_key text_cmp (map (name_in home) xs) (name_in home x))
    by_order Less rest = refl
    by_order Equal rest = refl
    by_order Greater rest = ap (λ more. name_in home y ∷ more) rest

names_into : (home : List ℕ) (found xs : List (List ℕ)) → map (name_in home) (put_into text_cmp found xs) ≡ put_into text_cmp (map (name_in home) found) (map (name_in home) xs)
names_into home found [] = refl
names_into home found (x ∷ xs) = names_into home (insert_key text_cmp found x) xs ∙ ap (λ texts. put_into text_cmp texts (map (name_in home) xs)) (name_put home found x)

pub names_ordered : (d : ℕ) (home : List ℕ) (ps : List Placed) → names_in d home ps ≡ by_bytes (map (name_in home) (extensions_in d ps))
names_ordered d home ps = names_into home [] (extensions_in d ps)
