-- Rows written into a map by their stamps are in the order of their stamps.
use Rattle.std.proofs.Common.{◌≡◌, ℕ, List, [], ◌∷◌, None, Bor, refl, sym, ap, ◌∙◌, map}
use Rattle.std.specs.List.{find}
use Rattle.std.specs.Ordering.{match_ordering, is_eq, nat_cmp}
use Rattle.std.specs.declared.cmp.Ordering.{Ordering}
use Rattle.std.specs.declared.cmp.Ordering.TheVariants.{Less, Equal, Greater}
use Rattle.std.specs.BTreeMap.{insert_entry}
use Rattle.std.specs.BTreeSet.{insert_key}
use Rattle.std.specs.Map.{values_of}
use Rattle.std.specs.Map.Iter.{deref}
use Rattle.std.proofs.lemmas.Cmp.{nat_cmp_total}
use Rattle.reg_table.specs.declared.stamped.Stamped.{Stamped}
use Rattle.reg_table.specs.Keyed.{put_into, in_order}
use Rattle.reg_table.specs.Stamps.{stamp_of, row_of, stamp_order, by_stamp}
use Rattle.reg_table.specs.Finds.{has_key}
use Rattle.reg_table.proofs.Lists.{not_none}
use Rattle.reg_table.proofs.Ordered.{insert_order, all_new, still_new}
use Rattle.reg_table.proofs.Stamps.{Up, Apart, New}

-- rows written into a map by their stamps, one after another
abbrev pub written : {R : Type 0} → List (ℕ × R) → List (Stamped R) → List (ℕ × R)
written found [] = found
written found (s ∷ rows) = written (insert_entry nat_cmp found s.stamp s.row) rows

-- an entry, without the reference
abbrev pub plain : {R : Type 0} → ℕ × Bor R → ℕ × R
plain e = (e.0, deref e.1)

module _ {R : Type 0} where
  pub insert_plain : (k : ℕ) (v : Bor R) (es : List (ℕ × Bor R)) → map plain (insert_entry nat_cmp es k v) ≡ insert_entry nat_cmp (map plain es) k (deref v)
  insert_plain k v [] = refl
  insert_plain k v (e ∷ es) = by_order (nat_cmp k e.0) (insert_plain k v es)
    where
      by_order : (o : Ordering) → map plain (insert_entry nat_cmp es k v) ≡ insert_entry nat_cmp (map plain es) k (deref v)
          → map plain (match_ordering o ((k, v) ∷ e ∷ es) ((e.0, v) ∷ es) (e ∷ insert_entry nat_cmp es k v)) ≡ match_ordering o ((k, deref v) ∷ plain e ∷ map plain es) ((e.0, deref v) ∷ map plain es) (plain e ∷ insert_entry nat_cmp (map plain es) k (deref v))
      by_order Less rest = refl
      by_order Equal rest = refl
      by_order Greater rest = ap (λ l. plain e ∷ l) rest

  pub values_plain : (es : List (ℕ × Bor R)) → map deref (values_of es) ≡ values_of (map plain es)
  values_plain [] = refl
  values_plain (e ∷ es) = ap (λ l. deref e.1 ∷ l) (values_plain es)

  abbrev pair : Stamped R → ℕ × R
  pair s = (s.stamp, s.row)

  values_pair : (rows : List (Stamped R)) → values_of (map pair rows) ≡ map row_of rows
  values_pair [] = refl
  values_pair (s ∷ rows) = ap (λ l. s.row ∷ l) (values_pair rows)

  insert_pair : (r : Stamped R) (rows : List (Stamped R)) → find (has_key nat_cmp stamp_of r.stamp) rows ≡ None → insert_entry nat_cmp (map pair rows) r.stamp r.row ≡ map pair (insert_key stamp_order rows r)
  insert_pair r [] free = refl
  insert_pair r (x ∷ xs) free = by_order (stamp_order r x) refl (insert_pair r xs)
    where
      by_order : (o : Ordering) → stamp_order r x ≡ o → (find (has_key nat_cmp stamp_of r.stamp) xs ≡ None → insert_entry nat_cmp (map pair xs) r.stamp r.row ≡ map pair (insert_key stamp_order xs r))
          → match_ordering o (pair r ∷ pair x ∷ map pair xs) ((x.stamp, r.row) ∷ map pair xs) (pair x ∷ insert_entry nat_cmp (map pair xs) r.stamp r.row) ≡ map pair (match_ordering o (r ∷ x ∷ xs) (x ∷ xs) (x ∷ insert_key stamp_order xs r))
      by_order Less e rest = refl
      by_order Equal e rest = absurd (not_none x (sym free ∙ rw (ap is_eq e) refl))
      by_order Greater e rest = ap (λ l. pair x ∷ l) (rest (rw (ap is_eq e) at free))

  into_written : (found rows : List (Stamped R)) → Up found → Apart rows → New found rows → written (map pair found) rows ≡ map pair (put_into stamp_order found rows)
  into_written found [] up once new = refl
  into_written found (r ∷ rows) up once new =
      ap (λ l. written l rows) (insert_pair r found new.0)
      ∙ into_written (insert_key stamp_order found r) rows (insert_order nat_cmp stamp_of nat_cmp_total r found up) once.1 (still_new nat_cmp stamp_of nat_cmp_total found rows r up new.0 once.0 new.1)

  pub order_written : (rows : List (Stamped R)) → Apart rows → values_of (written [] rows) ≡ by_stamp rows
  order_written rows once = ap values_of (into_written [] rows tt once (all_new nat_cmp stamp_of nat_cmp_total rows)) ∙ values_pair (in_order stamp_order rows)
