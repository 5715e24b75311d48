-- Rows put in order: whether one of them passes a test.
use Rattle.std.proofs.Common.{◌≡◌, List, [], ◌∷◌, Bool, true, false, None, refl, sym, ap, ◌∙◌}
use Rattle.std.specs.Prelude.{◌||◌}
use Rattle.std.specs.List.{list_any, find}
use Rattle.std.specs.BTreeSet.{insert_key}
use Rattle.std.specs.Ordering.{match_ordering, is_eq}
use Rattle.std.specs.Cmp.{IsTotalOrder}
use Rattle.std.specs.declared.cmp.Ordering.{Ordering}
use Rattle.std.specs.declared.cmp.Ordering.TheVariants.{Less, Equal, Greater}
use Rattle.reg_table.specs.Keyed.{put_into, in_order}
use Rattle.reg_table.specs.Finds.{has_key, AreOnce}
use Rattle.reg_table.proofs.Ordered.{order, InOrder, AreNew, insert_order, all_new, still_new}
use Rattle.reg_table.proofs.Lists.{not_none}

swapped : (a b c : Bool) → (a || (b || c)) ≡ (b || (a || c))
swapped true true c = refl
swapped true false c = refl
swapped false true c = refl
swapped false false c = refl

beside : (a : Bool) → (a || false) ≡ a
beside true = refl
beside false = refl

module _ {K R : Type 0} (cmp : K → K → Ordering) (key : R → K) (total : IsTotalOrder cmp) (test : R → Bool) where
  -- a row whose key is new loses none
  insert_any : (r : R) (rows : List R) → find (has_key cmp key (key r)) rows ≡ None → list_any test (insert_key (order cmp key total) rows r) ≡ (test r || list_any test rows)
  insert_any r [] free = refl
  insert_any r (x ∷ xs) free = by_order (order cmp key total r x) refl (insert_any r xs)
    where
      by_order : (o : Ordering) → order cmp key total r x ≡ o → (find (has_key cmp key (key r)) xs ≡ None → list_any test (insert_key (order cmp key total) xs r) ≡ (test r || list_any test xs))
          → list_any test (match_ordering o (r ∷ x ∷ xs) (x ∷ xs) (x ∷ insert_key (order cmp key total) xs r)) ≡ (test r || (test x || list_any test xs))
      by_order Less e rest = refl
      by_order Equal e rest = absurd (not_none x (sym free ∙ rw (ap is_eq e) refl))
      by_order Greater e rest = ap (λ b. test x || b) (rest (rw (ap is_eq e) at free)) ∙ swapped (test x) (test r) (list_any test xs)

  into_any : (found rows : List R) → InOrder cmp key total found → AreOnce cmp key rows → AreNew cmp key total found rows → list_any test (put_into (order cmp key total) found rows) ≡ (list_any test found || list_any test rows)
  into_any found [] up once new = sym (beside (list_any test found))
  into_any found (r ∷ rows) up once new =
      into_any (insert_key (order cmp key total) found r) rows (insert_order cmp key total r found up) once.1 (still_new cmp key total found rows r up new.0 once.0 new.1)
      ∙ (ap (λ b. b || list_any test rows) (insert_any r found new.0) ∙ moved (test r) (list_any test found) (list_any test rows))
    where
      moved : (a b c : Bool) → ((a || b) || c) ≡ (b || (a || c))
      moved true true c = refl
      moved true false c = refl
      moved false true c = refl
      moved false false c = refl

  -- rows of which no two have one key, put in order, are the same rows
  pub order_any : (rows : List R) → AreOnce cmp key rows → list_any test (in_order (order cmp key total) rows) ≡ list_any test rows
  order_any rows once = into_any [] rows tt once (all_new cmp key total rows)
