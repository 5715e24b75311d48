-- The rows of a part of the map are rows in the order of their keys.
use Rattle.std.proofs.Common.{◌≡◌, ℕ, List, [], ◌∷◌, Bool, true, cond, None, refl, sym, ap, ◌∙◌, filter, inl, inr}
use Rattle.std.specs.Option.{option_map}
use Rattle.std.specs.List.{AllByRecursion, find}
use Rattle.std.specs.List.Sorted.{IsStrictlySortedBy}
use Rattle.std.specs.Cmp.{IsTotalOrder}
use Rattle.std.specs.declared.cmp.Ordering.{Ordering}
use Rattle.std.specs.declared.cmp.Ordering.TheVariants.{Less}
use Rattle.std.specs.BTreeMap.{BTreeMap, get, is_at, values}
use Rattle.std.specs.Map.{keys_of, lookup}
use Rattle.std.proofs.lemmas.Bool.{cases_Bool}
use Rattle.std.proofs.lemmas.Cmp.{alike_right}
use Rattle.std.proofs.lemmas.List.Kept.{IsStrictlySortedBy-filter}
use Rattle.std.proofs.lemmas.Map.Entries.{lookup-filter-keys}
use Rattle.reg_table.specs.declared.stamped.Stamped.{Stamped}
use Rattle.reg_table.specs.Keyed.{in_order}
use Rattle.reg_table.specs.Ranges.{listed}
use Rattle.reg_table.specs.Stamps.{row_of, by_stamp}
use Rattle.reg_table.specs.Finds.{has_key, Finds}
use Rattle.reg_table.proofs.Entries.{Keyed, level}
use Rattle.reg_table.proofs.Found.{once_rows, key_finds}
use Rattle.reg_table.proofs.Keys.{equal, turned}
use Rattle.reg_table.proofs.Lists.{all_filter}
use Rattle.reg_table.proofs.Ordered.{Above, InOrder, above_same, same_rows, order, sorted, part_find}

module _ {K R : Type 0} (cmp : K → K → Ordering) (key : R → K) (total : IsTotalOrder cmp) where
  listed_above : (k : K) (es : List (K × Stamped R)) → Keyed cmp key total es → AllByRecursion (λ q. cmp k q ≡ Less) (keys_of es) → Above cmp key total k (listed es)
  listed_above k [] keyed up = tt
  listed_above k (e ∷ es) keyed up = (sym (alike_right total e.0 (key e.1.row) k (equal (cmp e.0 (key e.1.row)) keyed.0)) ∙ up.0, listed_above k es keyed.1 up.1)

  listed_order : (es : List (K × Stamped R)) → Keyed cmp key total es → IsStrictlySortedBy cmp (keys_of es) → InOrder cmp key total (listed es)
  unfolding IsStrictlySortedBy
  listed_order [] keyed up = tt
  listed_order (e ∷ es) keyed up =
      (above_same cmp key total (key e.1.row) e.0 (listed es) (turned cmp total (key e.1.row) e.0 ∙ keyed.0) (listed_above e.0 es keyed.1 up.0), listed_order es keyed.1 up.1)

  listed_find : (k : K) (es : List (K × Stamped R)) → Keyed cmp key total es → find (has_key cmp key k) (listed es) ≡ option_map row_of (lookup (is_at (cmp k)) es)
  listed_find k [] keyed = refl
  listed_find k (e ∷ es) keyed = rw (level cmp key total k e.0 e.1.row keyed.0) (elim (cases_Bool (is_at (cmp k) e.0)) [
    | inl t ↦ rw t refl
    | inr t ↦ rw t (listed_find k es keyed.1)
  ])

  keys_filtered : (inside : K → Bool) (es : List (K × Stamped R)) → keys_of (filter (λ (e : K × Stamped R). inside e.0) es) ≡ filter inside (keys_of es)
  keys_filtered inside [] = refl
  keys_filtered inside (e ∷ es) = elim (cases_Bool (inside e.0)) [
    | inl t ↦ rw t (ap (λ ks. e.0 ∷ ks) (keys_filtered inside es))
    | inr t ↦ rw t (keys_filtered inside es)
  ]

  -- the part of the map within bounds has the rows within them, in order
  pub part_rows : (stored : BTreeMap K (Stamped R)) (next : ℕ) → Finds cmp key stored next → (inside : K → Bool) → ((p q : K) → is_at (cmp p) q ≡ true → inside p ≡ inside q) → (es : List (K × Stamped R))
      → es ≡ filter (λ (e : K × Stamped R). inside e.0) stored.entries → listed es ≡ in_order (order cmp key total) (filter (λ r. inside (key r)) (by_stamp (values stored)))
  part_rows stored next kept inside respects es is =
      same_rows cmp key total (listed es) (in_order (order cmp key total) (filter (λ r. inside (key r)) (by_stamp (values stored)))) (listed_order es keyed rise) (sorted cmp key total (filter (λ r. inside (key r)) (by_stamp (values stored))))
      (λ k. found k ∙ sym (part_find cmp key total inside respects k (by_stamp (values stored)) (once_rows cmp key total stored next kept)))
    where
      keyed : Keyed cmp key total es
      keyed = rw is (all_filter (λ (e : K × Stamped R). inside e.0) (λ (e : K × Stamped R). has_key cmp key e.0 e.1.row ≡ true) stored.entries kept.keyed)

      rise : IsStrictlySortedBy cmp (keys_of es)
      rise = rw (is, keys_filtered inside stored.entries) (IsStrictlySortedBy-filter cmp inside (keys_of stored.entries) kept.ordered)

      found : (k : K) → find (has_key cmp key k) (listed es) ≡ cond (inside k) (find (has_key cmp key k) (by_stamp (values stored))) None
      found k =
          let part : lookup (is_at (cmp k)) es ≡ cond (inside k) (get cmp stored k) None = rw is (lookup-filter-keys (is_at (cmp k)) inside (inside k) (λ q t. sym (respects k q t)) stored.entries) in
          listed_find k es keyed ∙ rw part (elim (cases_Bool (inside k)) [
            | inl t ↦ rw t (key_finds cmp key total stored next kept k)
            | inr t ↦ rw t refl
          ])
