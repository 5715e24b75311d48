-- A group's rows: whether there are any, the first, and the rows that are left without them.
use Rattle.std.proofs.Common.{◌≡◌, List, [], ◌∷◌, Bool, true, false, not, refl, sym, ap, filter, inl, inr}
use Rattle.std.specs.Prelude.{◌||◌}
use Rattle.std.specs.List.{AllByRecursion, list_any}
use Rattle.std.specs.BTreeSet.{insert_key}
use Rattle.std.specs.Ordering.{match_ordering, is_eq}
use Rattle.std.specs.Cmp.{IsTotalOrder}
use Rattle.std.specs.declared.cmp.Ordering.{Ordering}
use Rattle.std.specs.declared.cmp.Ordering.TheVariants.{Less, Equal, Greater}
use Rattle.std.proofs.lemmas.Bool.{cases_Bool, or_left, or_right, and_parts}
use Rattle.reg_table.specs.Keyed.{is_of, is_row, put_into, in_order}
use Rattle.reg_table.proofs.Keys.{itself}
use Rattle.reg_table.proofs.Lists.{unremoved}

module _ {R : Type 0} (order : R → R → Ordering) where
  -- what stands in order stands among the rows
  any_insert : (test : R → Bool) (r : R) (rows : List R) → list_any test (insert_key order rows r) ≡ true → list_any test (r ∷ rows) ≡ true
  any_insert test r [] h = h
  any_insert test r (x ∷ xs) h = by_order (order r x) (any_insert test r xs) h
    where
      by_order : (o : Ordering) → (list_any test (insert_key order xs r) ≡ true → list_any test (r ∷ xs) ≡ true) → list_any test (match_ordering o (r ∷ x ∷ xs) (x ∷ xs) (x ∷ insert_key order xs r)) ≡ true → list_any test (r ∷ x ∷ xs) ≡ true
      by_order Less more h = h
      by_order Equal more h = or_right (test r) (list_any test (x ∷ xs)) h
      by_order Greater more h = elim (cases_Bool (test x)) [
        | inl t ↦ or_right (test r) (list_any test (x ∷ xs)) (or_left (test x) (list_any test xs) t)
        | inr t ↦
            let rest = more (rw t at h) in
            elim (cases_Bool (test r)) [
              | inl u ↦ or_left (test r) (list_any test (x ∷ xs)) u
              | inr u ↦ or_right (test r) (list_any test (x ∷ xs)) (or_right (test x) (list_any test xs) (rw u at rest))
            ]
      ]

  any_into : (test : R → Bool) (found rows : List R) → list_any test (put_into order found rows) ≡ true → (list_any test found || list_any test rows) ≡ true
  any_into test found [] h = or_left (list_any test found) false h
  any_into test found (r ∷ rows) h =
      moved (list_any test (insert_key order found r)) (list_any test found) (test r) (list_any test rows) (any_insert test r found) (any_into test (insert_key order found r) rows h)
    where
      moved : (i a t b : Bool) → (i ≡ true → (t || a) ≡ true) → (i || b) ≡ true → (a || (t || b)) ≡ true
      moved i true t b from h = refl
      moved i false true b from h = refl
      moved true false false b from h = absurd (let clash : false ≡ true = from refl in let none : ⊥ = cc in none)
      moved false false false b from h = h

  pub any_order : (test : R → Bool) (rows : List R) → list_any test (in_order order rows) ≡ true → list_any test rows ≡ true
  any_order test rows h = any_into test [] rows h

  all_insert : (P : R → Type 0) (r : R) (rows : List R) → P r → AllByRecursion P rows → AllByRecursion P (insert_key order rows r)
  all_insert P r [] p all = (p, tt)
  all_insert P r (x ∷ xs) p all = by_order (order r x) (all_insert P r xs p all.1)
    where
      by_order : (o : Ordering) → AllByRecursion P (insert_key order xs r) → AllByRecursion P (match_ordering o (r ∷ x ∷ xs) (x ∷ xs) (x ∷ insert_key order xs r))
      by_order Less rest = (p, all)
      by_order Equal rest = all
      by_order Greater rest = (all.0, rest)

  all_into : (P : R → Type 0) (found rows : List R) → AllByRecursion P found → AllByRecursion P rows → AllByRecursion P (put_into order found rows)
  all_into P found [] before all = before
  all_into P found (r ∷ rows) before all = all_into P (insert_key order found r) rows (all_insert P r found all.0 before) all.1

  pub all_order : (P : R → Type 0) (rows : List R) → AllByRecursion P rows → AllByRecursion P (in_order order rows)
  all_order P rows all = all_into P [] rows tt all

  some_left : (r : R) (rows : List R) → insert_key order rows r ≡ [] → ⊥
  some_left r [] h = cc
  some_left r (x ∷ xs) h = by_order (order r x) h
    where
      by_order : (o : Ordering) → match_ordering o (r ∷ x ∷ xs) (x ∷ xs) (x ∷ insert_key order xs r) ≡ [] → ⊥
      by_order Less h = cc
      by_order Equal h = cc
      by_order Greater h = cc

  none_into : (found rows : List R) → put_into order found rows ≡ [] → (found ≡ []) × (rows ≡ [])
  none_into found [] h = (h, refl)
  none_into found (r ∷ rows) h = absurd (some_left r found (none_into (insert_key order found r) rows h).0)

  pub none_order : (rows : List R) → in_order order rows ≡ [] → rows ≡ []
  none_order rows h = (none_into [] rows h).1

module _ {R : Type 0} (test : R → Bool) where
  all_filter : (rows : List R) → AllByRecursion (λ r. test r ≡ true) (filter test rows)
  all_filter [] = tt
  all_filter (r ∷ rows) = elim (cases_Bool (test r)) [ inl t ↦ rw t (t, all_filter rows) | inr t ↦ rw t (all_filter rows) ]

  any_filter : (other : R → Bool) (rows : List R) → list_any other (filter test rows) ≡ true → list_any other rows ≡ true
  any_filter other [] h = h
  any_filter other (r ∷ rows) h = elim (cases_Bool (other r)) [
    | inl u ↦ or_left (other r) (list_any other rows) u
    | inr u ↦ or_right (other r) (list_any other rows) (any_filter other rows (elim (cases_Bool (test r)) [ inl t ↦ rw (t, u) at h | inr t ↦ rw t at h ]))
  ]

  pub none_filtered : (rows : List R) → filter test rows ≡ [] → list_any test rows ≡ false
  none_filtered [] h = refl
  none_filtered (r ∷ rows) h = elim (cases_Bool (test r)) [
    | inl t ↦ absurd (let some : r ∷ filter test rows ≡ [] = rw t at h in let clash : ⊥ = cc in clash)
    | inr t ↦ rw t (none_filtered rows (rw t at h))
  ]

  -- the rows in order and the test
  pub order_none : (order : R → R → Ordering) (rows : List R) → in_order order (filter test rows) ≡ [] → list_any test rows ≡ false
  order_none order rows h = none_filtered rows (none_order order (filter test rows) h)

  pub order_some : (order : R → R → Ordering) (rows : List R) (x : R) (xs : List R) → in_order order (filter test rows) ≡ x ∷ xs → (test x ≡ true) × ((other : R → Bool) → other x ≡ true → list_any other rows ≡ true)
  order_some order rows x xs h =
      let all : AllByRecursion (λ (r : R). test r ≡ true) (in_order order (filter test rows)) = all_order order (λ (r : R). test r ≡ true) (filter test rows) (all_filter rows) in
      let here : AllByRecursion (λ (r : R). test r ≡ true) (x ∷ xs) = rw h at all in
      (here.0, λ other hit. any_filter other rows (any_order order other (filter test rows) (rw h (or_left (other x) (list_any other xs) hit))))

module _ {G P R : Type 0} (group_eq : G → G → Bool) (place_eq : P → P → Bool) (group_of : R → G) (place_of : R → P) where
  -- a row of the group less leaves those of others
  pub group_over : (g : G) (p : P) (rows : List R) → filter (λ row. not (is_of group_eq group_of g row)) (filter (λ row. not (is_row group_eq place_eq group_of place_of g p row)) rows) ≡ filter (λ row. not (is_of group_eq group_of g row)) rows
  group_over g p [] = refl
  group_over g p (r ∷ rows) = elim (cases_Bool (is_row group_eq place_eq group_of place_of g p r)) [
    | inl t ↦ rw (t, (and_parts (is_of group_eq group_of g r) (place_eq (place_of r) p) t).0) (group_over g p rows)
    | inr t ↦ rw t (elim (cases_Bool (is_of group_eq group_of g r)) [
      | inl u ↦ rw u (group_over g p rows)
      | inr u ↦ rw u (ap (λ l. r ∷ l) (group_over g p rows))
    ])
  ]

  pub group_gone : (g : G) (rows : List R) → list_any (is_of group_eq group_of g) rows ≡ false → filter (λ row. not (is_of group_eq group_of g row)) rows ≡ rows
  group_gone g rows h = sym (unremoved (is_of group_eq group_of g) rows h)

  -- the first row of the group stands at its place
  pub first_stands : (order : R → R → Ordering) (place_cmp : P → P → Ordering) → ((x y : P) → place_eq x y ≡ is_eq (place_cmp x y)) → IsTotalOrder place_cmp → (g : G) (rows : List R) (x : R) (xs : List R) (p : P) → p ≡ place_of x
      → in_order order (filter (is_of group_eq group_of g) rows) ≡ x ∷ xs → list_any (is_row group_eq place_eq group_of place_of g p) rows ≡ true
  first_stands order place_cmp place_is total g rows x xs p at h =
      let some = order_some (is_of group_eq group_of g) order rows x xs h in
      rw at (some.1 (is_row group_eq place_eq group_of place_of g (place_of x)) (rw (some.0, place_is (place_of x) (place_of x), itself place_cmp total (place_of x)) refl))
