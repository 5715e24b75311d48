-- The live data at a moment, in order: how they follow the rows of the facts.
use Rattle.std.proofs.Common.{◌≡◌, ◌==◌, ◌&&◌, ◌||◌, ℕ, List, [], ◌∷◌, ◌++◌, Bool, true, false, not, filter, cond, refl, sym, ◌∙◌, ap, inl, inr, nat_le}
use Rattle.std.proofs.lemmas.Bool.{cases_Bool, or_from, both_ways, eq-eqb, and_from, and_parts}
use Rattle.std.specs.List.{list_any, AllByRecursion}
use Rattle.std.specs.List.Sorted.{IsStrictlySortedBy}
use Rattle.std.specs.BTreeSet.{insert_key, BTreeSet}
use Rattle.std.specs.Set.{remove_key}
use Rattle.std.specs.Cmp.{IsTotalOrder, nat_cmp_total, then_total, on_total}
use Rattle.std.specs.Ordering.{match_ordering, ordering_reverse, is_eq}
use Rattle.std.specs.declared.cmp.Ordering.{Ordering}
use Rattle.std.specs.declared.cmp.Ordering.TheVariants.{Less, Equal, Greater}
use Rattle.std.proofs.lemmas.Map.Views.{any-filter_same}
use Rattle.std.proofs.lemmas.Map.Lookups.{btree_set_from_contains}
use Rattle.reg_terms.specs.declared.kinds.Member.{Member}
use Rattle.reg_terms.specs.declared.kinds.Member.TheVariants.{Person, Group}
use Rattle.reg_terms.specs.declared.rows.MemberRow.{MemberRow}
use Rattle.reg_terms.specs.Rows.{member_cmp}
use Rattle.reg_effect.specs.Order.{row_cmp, is_live_row, has_live_row}
use Rattle.reg_effect.specs.Changes.{rows_where, rows_on}
use Rattle.reg_effect.proofs.Edits.{any_put, row_same, row_equal, row_eq, row_is, rows_absent}

member_cmp_total : IsTotalOrder member_cmp
member_cmp_total = record { antisymm = antisymm; trans = trans; congr = congr }
  where
    antisymm : (a b : Member) → member_cmp a b ≡ ordering_reverse (member_cmp b a)
    antisymm (Person a) (Person b) = nat_cmp_total.antisymm a b
    antisymm (Person a) (Group b) = refl
    antisymm (Group a) (Person b) = refl
    antisymm (Group a) (Group b) = nat_cmp_total.antisymm a b

    trans : (a b c : Member) → member_cmp a b ≡ Less → member_cmp b c ≡ Less → member_cmp a c ≡ Less
    trans (Person a) (Person b) (Person c) p q = nat_cmp_total.trans a b c p q
    trans (Person a) (Person b) (Group c) p q = refl
    trans (Person a) (Group b) (Person c) p q = cc
    trans (Person a) (Group b) (Group c) p q = refl
    trans (Group a) (Person b) (Person c) p q = cc
    trans (Group a) (Person b) (Group c) p q = cc
    trans (Group a) (Group b) (Person c) p q = cc
    trans (Group a) (Group b) (Group c) p q = nat_cmp_total.trans a b c p q

    congr : (a b c : Member) → member_cmp a b ≡ Equal → member_cmp a c ≡ member_cmp b c
    congr (Person a) (Person b) (Person c) e = nat_cmp_total.congr a b c e
    congr (Person a) (Person b) (Group c) e = refl
    congr (Person a) (Group b) c e = cc
    congr (Group a) (Person b) c e = cc
    congr (Group a) (Group b) (Person c) e = refl
    congr (Group a) (Group b) (Group c) e = nat_cmp_total.congr a b c e

pub row_cmp_total : IsTotalOrder row_cmp
row_cmp_total = then_total (on_total (λ (r : ℕ × Member). r.0) nat_cmp_total) (on_total (λ (r : ℕ × Member). r.1) member_cmp_total)

module _ {X : Type 0} (R : X → X → Ordering) (o : IsTotalOrder R) where
  pub all_put : (P : X → Type 0) (x : X) (xs : List X) → P x → AllByRecursion P xs → AllByRecursion P (insert_key R xs x)
  all_put P x [] h a = (h, tt)
  all_put P x (y ∷ ys) h a = go (all_put P x ys h a.1) (R x y)
    where
      go : AllByRecursion P (insert_key R ys x) → (e : Ordering) → AllByRecursion P (match_ordering e (x ∷ y ∷ ys) (y ∷ ys) (y ∷ insert_key R ys x))
      go r Less = (h, a)
      go r Equal = a
      go r Greater = (a.0, r)

  pub all_later : (x y : X) (ys : List X) → R x y ≡ Less → AllByRecursion (λ z. R y z ≡ Less) ys → AllByRecursion (λ z. R x z ≡ Less) ys
  all_later x y [] h a = tt
  all_later x y (z ∷ zs) h a = (o.trans x y z h a.0, all_later x y zs h a.1)

  -- what is put at its place keeps the order
  pub put_sorted : (x : X) (xs : List X) → IsStrictlySortedBy R xs → IsStrictlySortedBy R (insert_key R xs x)
  unfolding IsStrictlySortedBy
  put_sorted x [] s = (tt, tt)
  put_sorted x (y ∷ ys) s = go (put_sorted x ys s.1) (R x y) refl
    where
      go : IsStrictlySortedBy R (insert_key R ys x) → (e : Ordering) → R x y ≡ e → IsStrictlySortedBy R (match_ordering e (x ∷ y ∷ ys) (y ∷ ys) (y ∷ insert_key R ys x))
      go r Less h = ((h, all_later x y ys h s.0), s)
      go r Equal h = s
      go r Greater h = (all_put (λ z. R y z ≡ Less) x ys (o.antisymm y x ∙ ap ordering_reverse h) s.0, r)

pub empty_sorted : {X : Type 0} (R : X → X → Ordering) → IsStrictlySortedBy R []
unfolding IsStrictlySortedBy
empty_sorted R = tt

-- the rows that pass a test stand in order
pub where_sorted : (test : MemberRow → Bool) (rows : List MemberRow) (acc : List (ℕ × Member)) → IsStrictlySortedBy row_cmp acc → IsStrictlySortedBy row_cmp (rows_where test rows acc)
where_sorted test [] acc s = s
where_sorted test (r ∷ rs) acc s = elim (cases_Bool (test r)) [
  | inl t ↦ rw t (where_sorted test rs (insert_key row_cmp acc (r.group, r.member)) (put_sorted row_cmp row_cmp_total (r.group, r.member) acc s))
  | inr f ↦ rw f (where_sorted test rs acc s)
]

-- and are those that pass it
pub where_has : (test : MemberRow → Bool) (g : ℕ) (m : Member) (rows : List MemberRow) (acc : List (ℕ × Member)) → has_live_row g m (rows_where test rows acc) ≡ (list_any (λ (r : MemberRow). test r && is_live_row g m (r.group, r.member)) rows || has_live_row g m acc)
where_has test g m [] acc = refl
where_has test g m (r ∷ rs) acc = elim (cases_Bool (test r)) [
  | inl t ↦ rw t (where_has test g m rs (insert_key row_cmp acc (r.group, r.member)) ∙ rw (any_put row_cmp (is_live_row g m) (r.group, r.member) (row_same r.group r.member (is_live_row g m)) acc) (turned (list_any (λ (r : MemberRow). test r && is_live_row g m (r.group, r.member)) rs) (is_live_row g m (r.group, r.member)) (has_live_row g m acc)))
  | inr f ↦ rw f (where_has test g m rs acc)
]
  where
    turned : (a b c : Bool) → (a || (b || c)) ≡ ((b || a) || c)
    turned true true c = refl
    turned true false c = refl
    turned false true c = refl
    turned false false c = refl

-- the rows that are on stand in order
pub rows_on_sorted : (at : ℕ) (rows : List MemberRow) (acc : List (ℕ × Member)) → IsStrictlySortedBy row_cmp acc → IsStrictlySortedBy row_cmp (rows_on at rows acc)
rows_on_sorted at rows acc s = where_sorted (λ (r : MemberRow). nat_le r.from at) rows acc s

-- and are those with from <= at
pub rows_on_has : (at g : ℕ) (m : Member) (rows : List MemberRow) (acc : List (ℕ × Member)) → has_live_row g m (rows_on at rows acc) ≡ (list_any (λ (r : MemberRow). nat_le r.from at && is_live_row g m (r.group, r.member)) rows || has_live_row g m acc)
rows_on_has at g m rows acc = where_has (λ (r : MemberRow). nat_le r.from at) g m rows acc

-- a row more in the facts is a row more that is on, or none
pub rows_on_more : (at : ℕ) (rows : List MemberRow) (r : MemberRow) (acc : List (ℕ × Member)) → rows_on at (rows ++ r ∷ []) acc ≡ cond (nat_le r.from at) (insert_key row_cmp (rows_on at rows acc) (r.group, r.member)) (rows_on at rows acc)
rows_on_more at [] r acc = refl
rows_on_more at (q ∷ qs) r acc = rows_on_more at qs r (cond (nat_le q.from at) (insert_key row_cmp acc (q.group, q.member)) acc)

-- two lists in order with the same rows are one
pub one_rows : (xs ys : List (ℕ × Member)) → IsStrictlySortedBy row_cmp xs → IsStrictlySortedBy row_cmp ys → ((g : ℕ) (m : Member) → has_live_row g m xs ≡ has_live_row g m ys) → xs ≡ ys
one_rows xs ys a b h =
    let s : BTreeSet (ℕ × Member) = record { keys = xs } in
    let t : BTreeSet (ℕ × Member) = record { keys = ys } in
    btree_set_from_contains row_cmp_total s t a b (λ q. rows_absent q.0 q.1 xs ∙ (h q.0 q.1 ∙ sym (rows_absent q.0 q.1 ys))) (λ x y e. sym (row_equal x.0 x.1 y e))

-- ---- a row less
pub all_taken : {X : Type 0} (P : X → Type 0) (t : X → Bool) (xs : List X) → AllByRecursion P xs → AllByRecursion P (remove_key t xs)
all_taken P t [] a = tt
all_taken P t (x ∷ xs) a =
    let rest = all_taken P t xs a.1 in
    elim (cases_Bool (t x)) [
      | inl y ↦ rw y a.1
      | inr n ↦ rw n (a.0, rest)
    ]

pub taken_sorted : {X : Type 0} (R : X → X → Ordering) (t : X → Bool) (xs : List X) → IsStrictlySortedBy R xs → IsStrictlySortedBy R (remove_key t xs)
unfolding IsStrictlySortedBy
taken_sorted R t [] s = tt
taken_sorted R t (x ∷ xs) s =
    let rest = taken_sorted R t xs s.1 in
    elim (cases_Bool (t x)) [
      | inl y ↦ rw y s.1
      | inr n ↦ rw n (all_taken (λ z. R x z ≡ Less) t xs s.0, rest)
    ]

pub none_after : (g : ℕ) (m : Member) (rs : List (ℕ × Member)) → AllByRecursion (λ z. row_cmp (g, m) z ≡ Less) rs → has_live_row g m rs ≡ false
none_after g m [] a = refl
none_after g m (z ∷ zs) a = or_from (is_live_row g m z) (has_live_row g m zs) (sym (row_eq g m z.0 z.1) ∙ ap is_eq a.0) (none_after g m zs a.1)

pub row_self : (g : ℕ) (m : Member) → is_live_row g m (g, m) ≡ true
row_self g (Person p) = and_from (g == g) (p == p) (eq-eqb g g refl) (eq-eqb p p refl)
row_self g (Group h) = and_from (g == g) (h == h) (eq-eqb g g refl) (eq-eqb h h refl)

pub row_turned : (g x : ℕ) (m n : Member) → is_live_row g m (x, n) ≡ is_live_row x n (g, m)
row_turned g x m n = go (is_live_row g m (x, n)) (is_live_row x n (g, m)) refl refl
  where
    go : (a b : Bool) → is_live_row g m (x, n) ≡ a → is_live_row x n (g, m) ≡ b → a ≡ b
    go true true p q = refl
    go false false p q = refl
    go true false p q = let w = row_is g m x n p in absurd (both_ways (is_live_row x n (g, m)) q (rw (w.0, w.1) (row_self g m)))
    go false true p q = let w = row_is x n g m q in absurd (both_ways (is_live_row g m (x, n)) p (rw (w.0, w.1) (row_self x n)))

-- what stands after a row is taken out of a list in order
pub row_taken : (g x : ℕ) (m n : Member) (rows : List (ℕ × Member)) → IsStrictlySortedBy row_cmp rows → has_live_row x n (remove_key (is_live_row g m) rows) ≡ (not (is_live_row g m (x, n)) && has_live_row x n rows)
unfolding IsStrictlySortedBy
row_taken g x m n [] s = elim (is_live_row g m (x, n)) as (λ b. false ≡ (not b && false)) [ true ↦ refl | false ↦ refl ]
row_taken g x m n ((y, k) ∷ rs) s =
    let rest = row_taken g x m n rs s.1 in
    elim (cases_Bool (is_live_row g m (x, n))) [
      | inl same ↦
          let w = row_is g m x n same in
          elim (cases_Bool (is_live_row g m (y, k))) [
            | inl t ↦ let v = row_is g m y k t in
                rw (t, same) (let later : AllByRecursion (λ z. row_cmp (g, m) z ≡ Less) rs = rw (v.0, v.1) at s.0 in rw (w.0, w.1) (none_after g m rs later))
            | inr f ↦
                let gone : is_live_row x n (y, k) ≡ false = rw (w.0, w.1) f in
                rw (f, gone, rest, same) refl
          ]
      | inr other ↦ elim (cases_Bool (is_live_row g m (y, k))) [
        | inl t ↦ let v = row_is g m y k t in
            let gone : is_live_row x n (y, k) ≡ false = rw (v.0, v.1) (sym (row_turned g x m n) ∙ other) in
            rw (t, other, gone) refl
        | inr f ↦ rw (f, rest, other) refl
      ]
    ]

-- a row less in the facts is a row less that is on, if it was on
pub rows_on_less : (at g : ℕ) (m : Member) (rows : List MemberRow) → rows_on at (filter (λ (r : MemberRow). not (is_live_row g m (r.group, r.member))) rows) [] ≡ remove_key (is_live_row g m) (rows_on at rows [])
rows_on_less at g m rows =
    one_rows (rows_on at left []) (remove_key (is_live_row g m) (rows_on at rows [])) (rows_on_sorted at left [] nothing_sorted) (taken_sorted row_cmp (is_live_row g m) (rows_on at rows []) (rows_on_sorted at rows [] nothing_sorted))
    (λ x n. rows_on_has at x n left []
    ∙ (ap (λ b. b || false) (any-filter_same (test x n) keep (not (is_live_row g m (x, n))) (λ r t. ap not (named x n r t)) rows)
    ∙ (outside (not (is_live_row g m (x, n))) (list_any (test x n) rows)
    ∙ sym (row_taken g x m n (rows_on at rows []) (rows_on_sorted at rows [] nothing_sorted) ∙ ap (λ b. not (is_live_row g m (x, n)) && b) (rows_on_has at x n rows [])))))
  where
    keep : MemberRow → Bool
    keep r = not (is_live_row g m (r.group, r.member))

    left : List MemberRow
    left = filter (λ (r : MemberRow). not (is_live_row g m (r.group, r.member))) rows

    test : ℕ → Member → MemberRow → Bool
    test x n r = nat_le r.from at && is_live_row x n (r.group, r.member)

    nothing_sorted : IsStrictlySortedBy row_cmp []
    nothing_sorted = empty_sorted row_cmp

    named : (x : ℕ) (n : Member) (r : MemberRow) → test x n r ≡ true → is_live_row g m (r.group, r.member) ≡ is_live_row g m (x, n)
    named x n r t = let w = row_is x n r.group r.member (and_parts (nat_le r.from at) (is_live_row x n (r.group, r.member)) t).1 in rw (w.0, w.1) refl

    outside : (a b : Bool) → ((a && b) || false) ≡ (a && (b || false))
    outside true b = refl
    outside false b = refl
