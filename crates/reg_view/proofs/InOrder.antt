-- What holds of all rows holds of those that pass a test, put in order.
use Rattle.std.proofs.Common.{List, [], ◌∷◌, Bool, inl, inr, filter}
use Rattle.std.proofs.lemmas.Bool.{cases_Bool}
use Rattle.std.specs.List.{AllByRecursion}
use Rattle.std.specs.BTreeSet.{insert_key}
use Rattle.std.specs.Ordering.{match_ordering}
use Rattle.std.specs.declared.cmp.Ordering.{Ordering}
use Rattle.std.specs.declared.cmp.Ordering.TheVariants.{Less, Equal, Greater}
use Rattle.reg_table.specs.Keyed.{put_into}

put_all : {R : Type 0} (P : R → Type 0) (order : R → R → Ordering) (row : R) (rows : List R) → P row → AllByRecursion P rows → AllByRecursion P (insert_key order rows row)
put_all P order row [] h a = (h, tt)
put_all {R} P order row (r ∷ rs) h a = go (put_all P order row rs h a.1) (order row r)
  where
    go : AllByRecursion P (insert_key order rs row) → (o : Ordering) → AllByRecursion P (match_ordering o (row ∷ r ∷ rs) (r ∷ rs) (r ∷ insert_key order rs row))
    go rest Less = (h, a)
    go rest Equal = a
    go rest Greater = (a.0, rest)

pub into_all : {R : Type 0} (P : R → Type 0) (order : R → R → Ordering) (test : R → Bool) (found rows : List R) → AllByRecursion P found → AllByRecursion P rows → AllByRecursion P (put_into order found (filter test rows))
into_all P order test found [] a b = a
into_all P order test found (r ∷ rs) a b = elim (cases_Bool (test r)) [
  | inl t ↦ rw t (into_all P order test (insert_key order found r) rs (put_all P order r found b.0 a) b.1)
  | inr t ↦ rw t (into_all P order test found rs a b.1)
]

pub order_all : {R : Type 0} (P : R → Type 0) (order : R → R → Ordering) (found rows : List R) → AllByRecursion P found → AllByRecursion P rows → AllByRecursion P (put_into order found rows)
order_all P order found [] a b = a
order_all P order found (r ∷ rs) a b = order_all P order (insert_key order found r) rs (put_all P order r found b.0 a) b.1
