-- Rows in the order of their keys: those that look-ups find, put in order, and a part of them.
use Rattle.std.proofs.Common.{◌≡◌, List, [], ◌∷◌, Bool, true, false, cond, Option, Some, None, refl, sym, ap, ◌∙◌, filter, inl, inr}
use Rattle.std.specs.Prelude.{⊤}
use Rattle.std.specs.Option.{option_or}
use Rattle.std.specs.List.{AllByRecursion, list_any, find}
use Rattle.std.specs.Ordering.{match_ordering, ordering_reverse, is_eq}
use Rattle.std.specs.Cmp.{IsTotalOrder}
use Rattle.std.specs.declared.cmp.Ordering.{Ordering}
use Rattle.std.specs.declared.cmp.Ordering.TheVariants.{Less, Equal, Greater}
use Rattle.std.specs.BTreeMap.{is_at}
use Rattle.std.specs.BTreeSet.{insert_key}
use Rattle.std.proofs.lemmas.Bool.{cases_Bool, or_parts}
use Rattle.reg_table.specs.Keyed.{put_into, in_order}
use Rattle.reg_table.specs.Finds.{has_key, AreOnce}
use Rattle.reg_table.proofs.Keys.{equal, itself, turned, same_key, once_filter}
use Rattle.reg_table.proofs.Lists.{not_none, same_some}

module _ {K R : Type 0} (cmp : K → K → Ordering) (key : R → K) (total : IsTotalOrder cmp) where
  -- rows above a key, and rows whose keys ascend
  abbrev pub Above : K → List R → Type 0
  Above k rows = AllByRecursion (λ r. cmp k (key r) ≡ Less) rows

  abbrev pub InOrder : List R → Type 0
  InOrder [] = ⊤
  InOrder (r ∷ rows) = Above (key r) rows × InOrder rows

  above_on : (k q : K) (rows : List R) → cmp k q ≡ Less → Above q rows → Above k rows
  above_on k q [] h up = tt
  above_on k q (r ∷ rows) h up = (total.trans k q (key r) h up.0, above_on k q rows h up.1)

  pub above_same : (k q : K) (rows : List R) → is_at (cmp k) q ≡ true → Above q rows → Above k rows
  above_same k q [] h up = tt
  above_same k q (r ∷ rows) h up = (total.congr k q (key r) (equal (cmp k q) h) ∙ up.0, above_same k q rows h up.1)

  above_none : (k : K) (rows : List R) → Above k rows → find (has_key cmp key k) rows ≡ None
  above_none k [] up = refl
  above_none k (r ∷ rows) up = rw (ap is_eq up.0) (above_none k rows up.1)

  found_first : (r : R) (rows : List R) → find (has_key cmp key (key r)) (r ∷ rows) ≡ Some r
  found_first r rows = rw (itself cmp total (key r)) refl

  back : (p q : K) → cmp p q ≡ Greater → cmp q p ≡ Less
  back p q e = total.antisymm q p ∙ ap ordering_reverse e

  -- rows in order are those that look-ups find
  pub same_rows : (xs ys : List R) → InOrder xs → InOrder ys → ((k : K) → find (has_key cmp key k) xs ≡ find (has_key cmp key k) ys) → xs ≡ ys
  same_rows [] [] up vp same = refl
  same_rows [] (y ∷ ys) up vp same = absurd (not_none y (same (key y) ∙ found_first y ys))
  same_rows (x ∷ xs) [] up vp same = absurd (not_none x (sym (same (key x)) ∙ found_first x xs))
  same_rows (x ∷ xs) (y ∷ ys) up vp same = by_order (cmp (key x) (key y)) refl (λ one. same_rows xs ys up.1 vp.1 (tails one))
    where
      tails : x ≡ y → (k : K) → find (has_key cmp key k) xs ≡ find (has_key cmp key k) ys
      tails one k = elim (cases_Bool (has_key cmp key k x)) [
        | inl t ↦ above_none k xs (above_same k (key x) xs t up.0) ∙ sym (above_none k ys (above_same k (key x) ys t (rw one vp.0)))
        | inr t ↦ let rest = same k in rw (t, ← one, t) at rest
      ]

      by_order : (o : Ordering) → cmp (key x) (key y) ≡ o → (x ≡ y → xs ≡ ys) → x ∷ xs ≡ y ∷ ys
      by_order Less e rest = absurd (not_none x (sym (same (key x) ∙ above_none (key x) (y ∷ ys) (e, above_on (key x) (key y) ys e vp.0)) ∙ found_first x xs))
      by_order Equal e rest =
          let hit : has_key cmp key (key x) y ≡ true = ap is_eq e in
          let first : find (has_key cmp key (key x)) (y ∷ ys) ≡ Some y = rw hit refl in
          let one : x ≡ y = same_some x y (sym (found_first x xs) ∙ (same (key x) ∙ first)) in
          rw (one, rest one) refl
      by_order Greater e rest =
          let low = back (key x) (key y) e in
          absurd (not_none y (sym (sym (same (key y)) ∙ above_none (key y) (x ∷ xs) (low, above_on (key y) (key x) xs low up.0)) ∙ found_first y ys))

  -- ---- rows put in order
  abbrev pub order : R → R → Ordering
  order a b = cmp (key a) (key b)

  insert_above : (k : K) (r : R) (rows : List R) → cmp k (key r) ≡ Less → Above k rows → Above k (insert_key order rows r)
  insert_above k r [] h up = (h, tt)
  insert_above k r (x ∷ xs) h up = by_order (order r x) (insert_above k r xs h up.1)
    where
      by_order : (o : Ordering) → Above k (insert_key order xs r) → Above k (match_ordering o (r ∷ x ∷ xs) (x ∷ xs) (x ∷ insert_key order xs r))
      by_order Less rest = (h, up)
      by_order Equal rest = up
      by_order Greater rest = (up.0, rest)

  pub insert_order : (r : R) (rows : List R) → InOrder rows → InOrder (insert_key order rows r)
  insert_order r [] up = (tt, tt)
  insert_order r (x ∷ xs) up = by_order (order r x) refl (insert_order r xs up.1)
    where
      by_order : (o : Ordering) → order r x ≡ o → InOrder (insert_key order xs r) → InOrder (match_ordering o (r ∷ x ∷ xs) (x ∷ xs) (x ∷ insert_key order xs r))
      by_order Less e rest = ((e, above_on (key r) (key x) xs e up.0), up)
      by_order Equal e rest = up
      by_order Greater e rest = (insert_above (key x) r xs (back (key r) (key x) e) up.0, rest)

  pub insert_find : (k : K) (r : R) (rows : List R) → InOrder rows → find (has_key cmp key (key r)) rows ≡ None → find (has_key cmp key k) (insert_key order rows r) ≡ cond (has_key cmp key k r) (Some r) (find (has_key cmp key k) rows)
  insert_find k r [] up free = refl
  insert_find k r (x ∷ xs) up free = by_order (order r x) refl (insert_find k r xs up.1)
    where
      by_order : (o : Ordering) → order r x ≡ o → (find (has_key cmp key (key r)) xs ≡ None → find (has_key cmp key k) (insert_key order xs r) ≡ cond (has_key cmp key k r) (Some r) (find (has_key cmp key k) xs))
          → find (has_key cmp key k) (match_ordering o (r ∷ x ∷ xs) (x ∷ xs) (x ∷ insert_key order xs r)) ≡ cond (has_key cmp key k r) (Some r) (find (has_key cmp key k) (x ∷ xs))
      by_order Less e rest = refl
      by_order Equal e rest = absurd (not_none x (sym free ∙ rw (ap is_eq e) refl))
      by_order Greater e rest =
          let others = rest (rw (ap is_eq e) at free) in
          elim (cases_Bool (has_key cmp key k x)) [
            | inl t ↦
                let miss : has_key cmp key k r ≡ false = ap is_eq (total.congr k (key x) (key r) (equal (cmp k (key x)) t) ∙ back (key r) (key x) e) in
                rw (t, miss) refl
            | inr t ↦ rw t others
          ]

  into_sorted : (found rows : List R) → InOrder found → InOrder (put_into order found rows)
  into_sorted found [] up = up
  into_sorted found (r ∷ rows) up = into_sorted (insert_key order found r) rows (insert_order r found up)

  pub sorted : (rows : List R) → InOrder (in_order order rows)
  sorted rows = into_sorted [] rows tt

  -- rows whose keys none of the others has
  abbrev pub AreNew : List R → List R → Type 0
  AreNew found rows = AllByRecursion (λ r. find (has_key cmp key (key r)) found ≡ None) rows

  pub all_new : (rows : List R) → AreNew [] rows
  all_new [] = tt
  all_new (r ∷ rows) = (refl, all_new rows)

  pub still_new : (found rows : List R) (r : R) → InOrder found → find (has_key cmp key (key r)) found ≡ None → list_any (has_key cmp key (key r)) rows ≡ false → AreNew found rows → AreNew (insert_key order found r) rows
  still_new found [] r up free once new = tt
  still_new found (x ∷ rows) r up free once new =
      let parts = or_parts (has_key cmp key (key r) x) (list_any (has_key cmp key (key r)) rows) once in
      (insert_find (key x) r found up free ∙ rw (turned cmp total (key x) (key r) ∙ parts.0, new.0) refl, still_new found rows r up free parts.1 new.1)

  into_find : (k : K) (found rows : List R) → InOrder found → AreOnce cmp key rows → AreNew found rows → find (has_key cmp key k) (put_into order found rows) ≡ option_or (find (has_key cmp key k) found) (find (has_key cmp key k) rows)
  into_find k found [] up once new = none_beside (find (has_key cmp key k) found)
    where
      none_beside : (o : Option R) → o ≡ option_or o None
      none_beside None = refl
      none_beside (Some r) = refl
  into_find k found (r ∷ rows) up once new =
      into_find k (insert_key order found r) rows (insert_order r found up) once.1 (still_new found rows r up new.0 once.0 new.1)
      ∙ (ap (λ o. option_or o (find (has_key cmp key k) rows)) (insert_find k r found up new.0)
      ∙ elim (cases_Bool (has_key cmp key k r)) [
        | inl t ↦ let free : find (has_key cmp key k) found ≡ None = ap (λ test. find test found) (same_key cmp key total k (key r) t) ∙ new.0 in rw (t, free) refl
        | inr t ↦ rw t refl
      ])

  pub sorted_find : (k : K) (rows : List R) → AreOnce cmp key rows → find (has_key cmp key k) (in_order order rows) ≡ find (has_key cmp key k) rows
  sorted_find k rows once = into_find k [] rows tt once (all_new rows)

  -- ---- a part of the rows
  module _ (inside : K → Bool) (respects : (p q : K) → is_at (cmp p) q ≡ true → inside p ≡ inside q) where
    filter_find : (k : K) (rows : List R) → find (has_key cmp key k) (filter (λ r. inside (key r)) rows) ≡ cond (inside k) (find (has_key cmp key k) rows) None
    filter_find k [] = none (inside k) None
      where
        none : (b : Bool) (o : Option R) → o ≡ cond b o o
        none true o = refl
        none false o = refl
    filter_find k (r ∷ rows) = elim (cases_Bool (has_key cmp key k r)) [
      | inl t ↦
          let same = respects k (key r) t in
          rw (same, t) (elim (cases_Bool (inside (key r))) [
            | inl u ↦ rw (u, t) refl
            | inr u ↦ rw u (filter_find k rows ∙ rw (same, u) refl)
          ])
      | inr t ↦ rw t (elim (cases_Bool (inside (key r))) [
        | inl u ↦ rw (u, t) (filter_find k rows)
        | inr u ↦ rw u (filter_find k rows)
      ])
    ]

    pub part_find : (k : K) (rows : List R) → AreOnce cmp key rows → find (has_key cmp key k) (in_order order (filter (λ r. inside (key r)) rows)) ≡ cond (inside k) (find (has_key cmp key k) rows) None
    part_find k rows once = sorted_find k (filter (λ r. inside (key r)) rows) (once_filter cmp key total (λ r. inside (key r)) rows once) ∙ filter_find k rows
