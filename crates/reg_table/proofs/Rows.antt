-- What a table's map tells of its rows, by group and place.
use Rattle.std.proofs.Common.{◌≡◌, ℕ, List, Bool, true, false, not, cond, Option, Some, None, refl, sym, ap, ◌∙◌, map, filter}
use Rattle.std.specs.Prelude.{if◌then◌else◌, ◌&&◌, is_some}
use Rattle.std.specs.List.{list_any, find}
use Rattle.std.specs.Ordering.{is_eq, is_le, ordering_then}
use Rattle.std.specs.Cmp.{IsTotalOrder}
use Rattle.std.specs.declared.cmp.Ordering.{Ordering}
use Rattle.std.specs.declared.cmp.Ordering.TheVariants.{Less, Equal, Greater}
use Rattle.std.specs.Option.{option_map}
use Rattle.std.specs.BTreeMap.{BTreeMap, get, is_at, values}
use Rattle.std.specs.BTreeMap.Range.{range_contains, entries_between}
use Rattle.std.specs.declared.ops.Bound.TheVariants.{Included, Excluded}
use Rattle.std.proofs.lemmas.Cmp.{on_total, then_total, alike_right}
use Rattle.reg_table.specs.declared.spot.Spot.{Spot}
use Rattle.reg_table.specs.declared.spot.Spot.TheVariants.{Start, At, End}
use Rattle.reg_table.specs.Keyed.{is_of, is_row, row_order, in_order}
use Rattle.reg_table.specs.Ranges.{listed}
use Rattle.reg_table.specs.declared.stamped.Stamped.{Stamped}
use Rattle.reg_table.specs.Stamps.{row_of, by_stamp}
use Rattle.reg_table.specs.Spots.{spot_total, key_cmp, key_of}
use Rattle.reg_table.specs.Finds.{has_key, AreOnce, Finds}
use Rattle.reg_table.proofs.Found as found
use Rattle.reg_table.proofs.Keys.{put, itself, turned, equal, once_filter}
use Rattle.reg_table.proofs.Parts.{part_rows}
use Rattle.reg_table.proofs.Passing.{order_any}

-- what the types of groups and places say of their comparisons
pub record Laws {G P : Type 0} (group_eq : G → G → Bool) (place_eq : P → P → Bool) (group_cmp : G → G → Ordering) (place_cmp : P → P → Ordering) : Type 0 where
  pub group_is : (x y : G) → group_eq x y ≡ is_eq (group_cmp x y)
  pub place_is : (x y : P) → place_eq x y ≡ is_eq (place_cmp x y)
  pub group_total : IsTotalOrder group_cmp
  pub place_total : IsTotalOrder place_cmp

pub key_total : {G P : Type 0} {group_eq : G → G → Bool} {place_eq : P → P → Bool} {group_cmp : G → G → Ordering} {place_cmp : P → P → Ordering} → Laws group_eq place_eq group_cmp place_cmp → IsTotalOrder (key_cmp group_cmp place_cmp)
key_total {G = G} {P = P} {place_cmp = place_cmp} laws = then_total (on_total (λ (k : G × Spot P). k.0) laws.group_total) (on_total (λ (k : G × Spot P). k.1) (spot_total place_cmp laws.place_total))

both_equal : (a b : Ordering) → (is_eq a && is_eq b) ≡ is_eq (ordering_then a b)
both_equal Less b = refl
both_equal Equal b = refl
both_equal Greater b = refl

pub keyed : {G P R : Type 0} (group_of : R → G) (place_of : R → P) (row : R) (g : G) (p : P) → g ≡ group_of row → p ≡ place_of row → (g, At p) ≡ key_of group_of place_of row
keyed group_of place_of row g p of at = rw (of, at) refl

module _ {G P R : Type 0} {group_eq : G → G → Bool} {place_eq : P → P → Bool} {group_cmp : G → G → Ordering} {place_cmp : P → P → Ordering} (group_of : R → G) (place_of : R → P) (laws : Laws group_eq place_eq group_cmp place_cmp) where
  same_row : (g : G) (p : P) (row : R) → is_row group_eq place_eq group_of place_of g p row ≡ has_key (key_cmp group_cmp place_cmp) (key_of group_of place_of) (g, At p) row
  same_row g p row =
      rw (laws.group_is (group_of row) g, laws.place_is (place_of row) p, turned group_cmp laws.group_total (group_of row) g, turned place_cmp laws.place_total (place_of row) p)
      (both_equal (group_cmp g (group_of row)) (place_cmp p (place_of row)))

  pub by_key : (g : G) (p : P) → is_row group_eq place_eq group_of place_of g p ≡ has_key (key_cmp group_cmp place_cmp) (key_of group_of place_of) (g, At p)
  by_key g p = λ i row. same_row g p row i

  -- what is found
  pub row_stands : (stored : BTreeMap (G × Spot P) (Stamped R)) (next : ℕ) (rows : List R) (g : G) (p : P) → Finds (key_cmp group_cmp place_cmp) (key_of group_of place_of) stored next → by_stamp (values stored) ≡ rows
      → is_some (get (key_cmp group_cmp place_cmp) stored (g, At p)) ≡ list_any (is_row group_eq place_eq group_of place_of g p) rows
  row_stands stored next rows g p kept is = rw (by_key g p, ← is) (found.key_stands _ _ (key_total laws) stored next kept (g, At p))

  pub row_found : (stored : BTreeMap (G × Spot P) (Stamped R)) (next : ℕ) (rows : List R) (g : G) (p : P) (o : Option (Stamped R)) → Finds (key_cmp group_cmp place_cmp) (key_of group_of place_of) stored next → by_stamp (values stored) ≡ rows
      → get (key_cmp group_cmp place_cmp) stored (g, At p) ≡ o → option_map row_of o ≡ find (is_row group_eq place_eq group_of place_of g p) rows
  row_found stored next rows g p o kept is at = ap (option_map row_of) (sym at) ∙ rw (by_key g p, ← is) (found.key_finds _ _ (key_total laws) stored next kept (g, At p))

  -- a row that is free to stand
  pub key_free : (stored : BTreeMap (G × Spot P) (Stamped R)) (next : ℕ) (rows : List R) (g : G) (p : P) (row : R) → Finds (key_cmp group_cmp place_cmp) (key_of group_of place_of) stored next → by_stamp (values stored) ≡ rows → g ≡ group_of row → p ≡ place_of row
      → list_any (is_row group_eq place_eq group_of place_of (group_of row) (place_of row)) rows ≡ false → get (key_cmp group_cmp place_cmp) stored (g, At p) ≡ None
  key_free stored next rows g p row kept is of at free = none_of (get (key_cmp group_cmp place_cmp) stored (g, At p)) (row_stands stored next rows g p kept is ∙ rw (of, at) free)
    where
      none_of : {X : Type 0} (o : Option X) → is_some o ≡ false → o ≡ None
      none_of None h = refl
      none_of (Some x) h = absurd (let clash : ⊥ = cc in clash)

  pub key_has : (g : G) (p : P) (row : R) → g ≡ group_of row → p ≡ place_of row → has_key (key_cmp group_cmp place_cmp) (key_of group_of place_of) (g, At p) row ≡ true
  key_has g p row of at = rw (of, at) (itself (key_cmp group_cmp place_cmp) (key_total laws) (key_of group_of place_of row))

  -- without a row
  pub row_less : (rows old new : List R) (g : G) (p : P) → old ≡ rows → new ≡ filter (λ row. not (has_key (key_cmp group_cmp place_cmp) (key_of group_of place_of) (g, At p) row)) old → new ≡ filter (λ row. not (is_row group_eq place_eq group_of place_of g p row)) rows
  row_less rows old new g p is left = left ∙ (ap (λ test. filter (λ row. not (test row)) old) (sym (by_key g p)) ∙ ap (λ l. filter (λ row. not (is_row group_eq place_eq group_of place_of g p row)) l) is)

  -- with another in its place
  pub row_put : (rows old new : List R) (row : R) → old ≡ rows → new ≡ map (put (key_cmp group_cmp place_cmp) (key_of group_of place_of) (key_total laws) row) old
      → new ≡ map (λ other. if is_row group_eq place_eq group_of place_of (group_of row) (place_of row) other then row else other) rows
  row_put rows old new row is with =
      with ∙ (ap (λ f. map f old) (λ i other. choice (has_key (key_cmp group_cmp place_cmp) (key_of group_of place_of) (key_of group_of place_of row) other) row other i)
      ∙ (ap (λ test. map (λ other. if test other then row else other) old) (sym (by_key (group_of row) (place_of row)))
      ∙ ap (λ l. map (λ other. if is_row group_eq place_eq group_of place_of (group_of row) (place_of row) other then row else other) l) is))
    where
      choice : (b : Bool) (x y : R) → cond b x y ≡ (if b then x else y)
      choice true x y = refl
      choice false x y = refl

  -- the rows of a group are those between its start and its end
  abbrev within : G → G × Spot P → Bool
  within g k = range_contains (key_cmp group_cmp place_cmp) (Included (g, Start)) (Excluded (g, End)) k

  between : (o : Ordering) → (is_le (ordering_then o Less) && not (is_le (ordering_then o Greater))) ≡ is_eq o
  between Less = refl
  between Equal = refl
  between Greater = refl

  within_group : (g : G) (row : R) → within g (key_of group_of place_of row) ≡ is_of group_eq group_of g row
  within_group g row = between (group_cmp g (group_of row)) ∙ sym (laws.group_is (group_of row) g ∙ turned group_cmp laws.group_total (group_of row) g)

  within_same : (g : G) (p q : G × Spot P) → is_at (key_cmp group_cmp place_cmp p) q ≡ true → within g p ≡ within g q
  within_same g p q h =
      let level = equal (key_cmp group_cmp place_cmp p q) h in
      let low : key_cmp group_cmp place_cmp (g, Start) p ≡ key_cmp group_cmp place_cmp (g, Start) q = alike_right (key_total laws) p q (g, Start) level in
      let high : key_cmp group_cmp place_cmp (g, End) p ≡ key_cmp group_cmp place_cmp (g, End) q = alike_right (key_total laws) p q (g, End) level in
      ap (λ (o : Ordering). is_le o && not (is_le (key_cmp group_cmp place_cmp (g, End) p))) low ∙ ap (λ (o : Ordering). is_le (key_cmp group_cmp place_cmp (g, Start) q) && not (is_le o)) high

  pub group_listed : (stored : BTreeMap (G × Spot P) (Stamped R)) (next : ℕ) (rows : List R) (g : G) (es : List ((G × Spot P) × Stamped R)) → Finds (key_cmp group_cmp place_cmp) (key_of group_of place_of) stored next → by_stamp (values stored) ≡ rows
      → es ≡ entries_between (key_cmp group_cmp place_cmp) (Included (g, Start)) (Excluded (g, End)) stored.entries
      → listed es ≡ in_order (row_order group_cmp place_cmp group_of place_of) (filter (is_of group_eq group_of g) rows)
  group_listed stored next rows g es kept is part =
      part_rows (key_cmp group_cmp place_cmp) (key_of group_of place_of) (key_total laws) stored next kept (within g) (within_same g) es part
      ∙ (ap (λ test. in_order (row_order group_cmp place_cmp group_of place_of) (filter test (by_stamp (values stored)))) (λ i row. within_group g row i)
      ∙ ap (λ l. in_order (row_order group_cmp place_cmp group_of place_of) (filter (is_of group_eq group_of g) l)) is)

  -- a row of the group in order passes a test exactly where one of the group does
  pub group_passes : (stored : BTreeMap (G × Spot P) (Stamped R)) (next : ℕ) (rows : List R) (g : G) (test : R → Bool) → Finds (key_cmp group_cmp place_cmp) (key_of group_of place_of) stored next → by_stamp (values stored) ≡ rows
      → list_any test (in_order (row_order group_cmp place_cmp group_of place_of) (filter (is_of group_eq group_of g) rows)) ≡ list_any test (filter (is_of group_eq group_of g) rows)
  group_passes stored next rows g test kept is =
      let once : AreOnce (key_cmp group_cmp place_cmp) (key_of group_of place_of) rows = rw (← is) (found.once_rows _ _ (key_total laws) stored next kept) in
      order_any (key_cmp group_cmp place_cmp) (key_of group_of place_of) (key_total laws) test (filter (is_of group_eq group_of g) rows)
      (once_filter (key_cmp group_cmp place_cmp) (key_of group_of place_of) (key_total laws) (is_of group_eq group_of g) rows once)
