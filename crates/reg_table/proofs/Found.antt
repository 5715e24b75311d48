-- The rows of a table after one more, one less and one replaced, and what is found among them.
use Rattle.std.proofs.Common.{◌≡◌, ◌≤◌, ◌<◌, ◌+◌, ◌++◌, ℕ, suc, length, List, [], ◌∷◌, true, not, cond, Some, None, refl, sym, ap, ◌∙◌, map, filter, arith, inl, inr}
use Rattle.std.specs.Prelude.{is_some}
use Rattle.std.specs.Option.{option_map}
use Rattle.std.specs.List.{list_any, find}
use Rattle.std.specs.Ordering.{nat_cmp}
use Rattle.std.specs.Cmp.{IsTotalOrder}
use Rattle.std.specs.declared.cmp.Ordering.{Ordering}
use Rattle.std.specs.Map.{values_of, remove_entry}
use Rattle.std.specs.BTreeMap.{BTreeMap, get, is_at, values, insert_entry, IsOrdered}
use Rattle.std.proofs.lemmas.List.{map-append, length-map}
use Rattle.std.proofs.lemmas.Bool.{cases_Bool}
use Rattle.std.proofs.lemmas.Cmp.{nat_cmp_total}
use Rattle.reg_table.specs.declared.stamped.Stamped.{Stamped}
use Rattle.reg_table.specs.Keyed.{in_order}
use Rattle.reg_table.specs.Stamps.{stamp_of, row_of, stamp_order, by_stamp}
use Rattle.reg_table.specs.Finds.{has_key, AreOnce, Finds}
use Rattle.reg_table.proofs.Entries.{all_put, all_less, apart_more, below_more, key_at, find_entry, any_entry, once_entries, entry_less, entry_put, apart_put}
use Rattle.reg_table.proofs.Groups.{none_filtered}
use Rattle.reg_table.proofs.Keys.{itself, turned, alike, once_at, once_filter, put}
use Rattle.reg_table.proofs.Lists.{PassesOnce, all_map, all_filter, any_of, filter_of, find_map, find_passes, map_of, one_kept, unedited}
use Rattle.reg_table.proofs.Passing.{order_any}
use Rattle.reg_table.proofs.Stamps.{Below, order_map, order_filter, one_filtered, order_find, order_last, order_length}

no_length : {R : Type 0} (rows : List R) → suc (length rows) ≤ 1 → rows ≡ []
no_length [] h = refl
no_length (r ∷ rows) h = absurd (omega (arith, h))

module _ {K R : Type 0} (cmp : K → K → Ordering) (key : R → K) (total : IsTotalOrder cmp) where
  -- where each key has one row at most
  once_by : (rows : List R) → ((k : K) → length (filter (has_key cmp key k) rows) ≤ 1) → AreOnce cmp key rows
  once_by [] most = tt
  once_by (r ∷ rows) most =
      let here : suc (length (filter (has_key cmp key (key r)) rows)) ≤ 1 = rw (itself cmp total (key r)) at (most (key r)) in
      (none_filtered (has_key cmp key (key r)) rows (no_length (filter (has_key cmp key (key r)) rows) here), once_by rows rest)
    where
      rest : (k : K) → length (filter (has_key cmp key k) rows) ≤ 1
      rest k = elim (cases_Bool (has_key cmp key k r)) [
        | inl t ↦ let all : suc (length (filter (has_key cmp key k) rows)) ≤ 1 = rw t at (most k) in omega (arith, all)
        | inr t ↦ rw t at (most k)
      ]

  module _ (stored : BTreeMap K (Stamped R)) (next : ℕ) (kept : Finds cmp key stored next) where
    once_stored : AreOnce cmp (key_at cmp key total) (values stored)
    once_stored = once_entries cmp key total stored.entries kept.ordered kept.keyed

    once_key : (k : K) → PassesOnce (has_key cmp (key_at cmp key total) k) (values stored)
    once_key k = once_at cmp (key_at cmp key total) total k (values stored) once_stored

    pub once_rows : AreOnce cmp key (by_stamp (values stored))
    once_rows = once_by (by_stamp (values stored)) (λ k.
        let same : filter (has_key cmp key k) (by_stamp (values stored)) ≡ map row_of (filter (has_key cmp (key_at cmp key total) k) (values stored)) =
        filter_of row_of (has_key cmp key k) (in_order stamp_order (values stored))
        ∙ ap (map row_of) (order_filter (has_key cmp (key_at cmp key total) k) (values stored) kept.apart ∙ one_filtered (has_key cmp (key_at cmp key total) k) (values stored) (once_key k)) in
        let many = length-map (filter (has_key cmp (key_at cmp key total) k) (values stored)) row_of in
        let most = one_kept (has_key cmp (key_at cmp key total) k) (values stored) (once_key k) in
        rw same (omega (arith, many, most)))

    pub rows_length : length (by_stamp (values stored)) ≡ length (values stored)
    rows_length = length-map (in_order stamp_order (values stored)) row_of ∙ order_length (values stored) kept.apart

    -- what is found
    pub key_stands : (k : K) → is_some (get cmp stored k) ≡ list_any (has_key cmp key k) (by_stamp (values stored))
    key_stands k = sym (
        any_of row_of (has_key cmp key k) (in_order stamp_order (values stored))
        ∙ (order_any nat_cmp stamp_of nat_cmp_total (has_key cmp (key_at cmp key total) k) (values stored) kept.apart
        ∙ any_entry cmp key total k stored.entries kept.keyed))

    pub key_finds : (k : K) → option_map row_of (get cmp stored k) ≡ find (has_key cmp key k) (by_stamp (values stored))
    key_finds k = sym (
        find_map row_of (has_key cmp key k) (in_order stamp_order (values stored))
        ∙ ap (option_map row_of) (order_find (has_key cmp (key_at cmp key total) k) (values stored) kept.apart (once_key k) ∙ find_entry cmp key total k stored.entries kept.keyed))

    -- no row to be replaced
    pub none_put : (row : R) (k : K) → k ≡ key row → get cmp stored k ≡ None → by_stamp (values stored) ≡ map (put cmp key total row) (by_stamp (values stored))
    none_put row k here none =
        unedited (has_key cmp key (key row)) (put cmp key total row) (λ r h. rw h refl) (by_stamp (values stored))
        (sym (key_stands (key row)) ∙ rw (← here) (ap is_some none))

    -- a row more, behind the others
    module _ (new : BTreeMap K (Stamped R)) (k : K) (s : Stamped R) (free : get cmp stored k ≡ None) (last : s.stamp ≡ next) (written : new.entries ≡ insert_entry cmp stored.entries k s) where
      low : Below s.stamp (values stored)
      low = rw last kept.below

      pub rows_more : by_stamp (values new) ≡ by_stamp (values stored) ++ s.row ∷ []
      rows_more =
          ap (λ es. by_stamp (values_of es)) written
          ∙ (ap (map row_of) (order_last cmp k s stored.entries low free)
          ∙ map-append row_of (in_order stamp_order (values stored)) (s ∷ []))

      pub finds_more : has_key cmp key k s.row ≡ true → IsOrdered cmp new → Finds cmp key new (next + 1)
      finds_more at up = record {
        ordered = up;
        keyed = rw written (all_put cmp k s (λ e. has_key cmp key e.0 e.1.row ≡ true) (λ q h. sym (alike cmp total k q (key s.row) h) ∙ at) at stored.entries kept.keyed);
        apart = rw written (apart_more cmp k s stored.entries low free kept.apart);
        below = rw written (below_more cmp k s next stored.entries (omega (arith, last)) kept.below);
      }

    -- a row less
    module _ (new : BTreeMap K (Stamped R)) (k : K) (gone : new.entries ≡ remove_entry (is_at (cmp k)) stored.entries) where
      left : values new ≡ filter (λ s. not (has_key cmp (key_at cmp key total) k s)) (values stored)
      left = ap values_of gone ∙ entry_less cmp key total k stored.entries kept.keyed (once_key k)

      pub rows_less : by_stamp (values new) ≡ filter (λ r. not (has_key cmp key k r)) (by_stamp (values stored))
      rows_less =
          ap by_stamp left
          ∙ (ap (map row_of) (sym (order_filter (λ s. not (has_key cmp (key_at cmp key total) k s)) (values stored) kept.apart))
          ∙ sym (filter_of row_of (λ r. not (has_key cmp key k r)) (in_order stamp_order (values stored))))

      pub finds_less : IsOrdered cmp new → Finds cmp key new next
      finds_less up = record {
        ordered = up;
        keyed = rw gone (all_less (λ e. has_key cmp key e.0 e.1.row ≡ true) (is_at (cmp k)) stored.entries kept.keyed);
        apart = rw left (once_filter nat_cmp stamp_of nat_cmp_total (λ s. not (has_key cmp (key_at cmp key total) k s)) (values stored) kept.apart);
        below = rw left (all_filter (λ s. not (has_key cmp (key_at cmp key total) k s)) (λ s. s.stamp < next) (values stored) kept.below);
      }

    -- a row in the place of another
    module _ (new : BTreeMap K (Stamped R)) (k : K) (row : R) (old : Stamped R) (here : k ≡ key row) (found : get cmp stored k ≡ Some old) (written : new.entries ≡ insert_entry cmp stored.entries k (record { stamp = old.stamp; row = row })) where
      abbrev with_row : Stamped R → Stamped R
      with_row s = cond (has_key cmp key k s.row) (record { stamp = s.stamp; row = row }) s

      same_stamp : (s : Stamped R) → (with_row s).stamp ≡ s.stamp
      same_stamp s = elim (cases_Bool (has_key cmp key k s.row)) [ inl t ↦ rw t refl | inr t ↦ rw t refl ]

      same_row : (s : Stamped R) → cond (has_key cmp key k s.row) row s.row ≡ (with_row s).row
      same_row s = elim (cases_Bool (has_key cmp key k s.row)) [ inl t ↦ rw t refl | inr t ↦ rw t refl ]

      old_here : has_key cmp key k old.row ≡ true
      old_here = find_passes (has_key cmp (key_at cmp key total) k) old (values stored) (find_entry cmp key total k stored.entries kept.keyed ∙ found)

      replaced : values new ≡ map with_row (values stored)
      replaced =
          let same : with_row old ≡ record { stamp = old.stamp; row = row } = rw old_here refl in
          ap values_of written
          ∙ (ap (λ s. values_of (insert_entry cmp stored.entries k s)) (sym same)
          ∙ entry_put cmp key total k with_row (λ s h. rw h refl) old stored.entries kept.ordered kept.keyed (once_key k) found)

      pub rows_put : by_stamp (values new) ≡ map (put cmp key total row) (by_stamp (values stored))
      rows_put =
          ap by_stamp replaced
          ∙ (ap (map row_of) (sym (order_map with_row same_stamp (values stored)))
          ∙ (sym (map_of row_of (λ r. cond (has_key cmp key k r) row r) with_row same_row (in_order stamp_order (values stored)))
          ∙ ap (λ q. map (λ r. cond (has_key cmp key q r) row r) (by_stamp (values stored))) here))

      pub finds_put : IsOrdered cmp new → Finds cmp key new next
      finds_put up = record {
        ordered = up;
        keyed = rw written (all_put cmp k (record { stamp = old.stamp; row = row }) (λ e. has_key cmp key e.0 e.1.row ≡ true) (λ q h. rw (← here) (turned cmp total q k ∙ h)) (rw (← here) (itself cmp total k)) stored.entries kept.keyed);
        apart = rw replaced (apart_put cmp key total with_row same_stamp (values stored) kept.apart);
        below = rw replaced (all_map (λ s. s.stamp < next) with_row (λ s h. rw (same_stamp s) h) (values stored) kept.below);
      }
