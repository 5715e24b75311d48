-- Grants in order: the order that is derived goes by numbers, and the grants that pass a test stand in it.
use Rattle.std.proofs.Common.{◌≡◌, ◌==◌, ◌&&◌, ◌||◌, ℕ, List, [], ◌∷◌, Bool, true, false, arith, refl, sym, ap, ◌∙◌, inl, inr}
use Rattle.std.proofs.lemmas.Bool.{cases_Bool, and_parts, eqb-true}
use Rattle.std.proofs.lemmas.Bool.Decides.{nat_tests}
use Rattle.std.proofs.lemmas.Grind.{common_steps}
use Rattle.std.proofs.lemmas.Cmp.{eq_by_cmp_equiv}
use Rattle.std.proofs.lemmas.Map.Lookups.{btree_set_from_contains}
use Rattle.std.specs.BTreeMap.{is_at}
use Rattle.std.specs.BTreeSet.{insert_key, BTreeSet}
use Rattle.std.specs.Cmp.{IsTotalOrder, nat_cmp_total, then_total, on_total}
use Rattle.std.specs.List.{list_any, AllByRecursion}
use Rattle.std.specs.List.Sorted.{IsStrictlySortedBy}
use Rattle.std.specs.Ordering.{match_ordering, nat_cmp, ordering_then, ordering_reverse, is_eq}
use Rattle.std.specs.declared.cmp.Ordering.{Ordering}
use Rattle.std.specs.declared.cmp.Ordering.TheVariants.{Less, Equal, Greater}
use Rattle.reg_base.specs.declared.privilege.Privilege.{Privilege}
use Rattle.reg_base.specs.contracts.privilege.PrivilegeOrd.TheImpl as privilege_ord
use Rattle.reg_terms.specs.Kinds.{same_object, same_holder}
use Rattle.reg_terms.specs.Privileges.{code, same_privilege}
use Rattle.reg_terms.specs.declared.kinds.Holder.{Holder}
use Rattle.reg_terms.specs.declared.kinds.Holder.TheVariants as holder
use Rattle.reg_terms.specs.declared.kinds.Object.{Object}
use Rattle.reg_terms.specs.declared.kinds.Object.TheVariants as object
use Rattle.reg_terms.specs.declared.rows.GrantRow.{GrantRow}
use Rattle.reg_terms.specs.contracts.kinds.HolderOrd.TheImpl as holder_ord
use Rattle.reg_terms.specs.contracts.kinds.ObjectOrd.TheImpl as object_ord
use Rattle.reg_current.specs.Dates.{GrantKey, grant_cmp, grants_where}
use Rattle.reg_current.specs.Numbers.{object_number, holder_number}
use Rattle.reg_current.proofs.GrantOrder.{privilege_is, privilege_agrees, key_equal}
use Rattle.reg_current.specs.Coming.{same_key, key_of, is_grant}

-- the orders that are derived
abbrev pub object_cmp : Object → Object → Ordering
object_cmp = (object_ord.ghosts).cmp

abbrev pub privilege_cmp : Privilege → Privilege → Ordering
privilege_cmp = (privilege_ord.ghosts).cmp

abbrev pub holder_cmp : Holder → Holder → Ordering
holder_cmp = (holder_ord.ghosts).cmp

-- ---- they are total
alike_total : {X : Type 0} (R S : X → X → Ordering) → ((a b : X) → R a b ≡ S a b) → IsTotalOrder S → IsTotalOrder R
alike_total R S e o = record {
  antisymm = λ a b. e a b ∙ (o.antisymm a b ∙ ap ordering_reverse (sym (e b a)));
  trans = λ a b c p q. e a c ∙ o.trans a b c (sym (e a b) ∙ p) (sym (e b c) ∙ q);
  congr = λ a b c p. e a c ∙ (o.congr a b c (sym (e a b) ∙ p) ∙ sym (e b c));
}

abbrev object_kind : Object → ℕ
object_kind (object.Folder a) = 0
object_kind (object.Group a) = 1
object_kind (object.Def a) = 2
object_kind (object.Attr a) = 3
object_kind (object.Subject a) = 4

abbrev object_by : Object → Object → Ordering
object_by a b = ordering_then (nat_cmp (object_kind a) (object_kind b)) (nat_cmp (object_number a) (object_number b))

object_agrees : (a b : Object) → object_cmp a b ≡ object_by a b
object_agrees (object.Folder a) (object.Folder b) = refl
object_agrees (object.Folder a) (object.Group b) = refl
object_agrees (object.Folder a) (object.Def b) = refl
object_agrees (object.Folder a) (object.Attr b) = refl
object_agrees (object.Folder a) (object.Subject b) = refl
object_agrees (object.Group a) (object.Folder b) = refl
object_agrees (object.Group a) (object.Group b) = refl
object_agrees (object.Group a) (object.Def b) = refl
object_agrees (object.Group a) (object.Attr b) = refl
object_agrees (object.Group a) (object.Subject b) = refl
object_agrees (object.Def a) (object.Folder b) = refl
object_agrees (object.Def a) (object.Group b) = refl
object_agrees (object.Def a) (object.Def b) = refl
object_agrees (object.Def a) (object.Attr b) = refl
object_agrees (object.Def a) (object.Subject b) = refl
object_agrees (object.Attr a) (object.Folder b) = refl
object_agrees (object.Attr a) (object.Group b) = refl
object_agrees (object.Attr a) (object.Def b) = refl
object_agrees (object.Attr a) (object.Attr b) = refl
object_agrees (object.Attr a) (object.Subject b) = refl
object_agrees (object.Subject a) (object.Folder b) = refl
object_agrees (object.Subject a) (object.Group b) = refl
object_agrees (object.Subject a) (object.Def b) = refl
object_agrees (object.Subject a) (object.Attr b) = refl
object_agrees (object.Subject a) (object.Subject b) = refl

object_total : IsTotalOrder object_cmp
object_total = alike_total object_cmp object_by object_agrees (then_total (on_total object_kind nat_cmp_total) (on_total object_number nat_cmp_total))

abbrev holder_kind : Holder → ℕ
holder_kind holder.Everyone = 0
holder_kind (holder.Person a) = 1
holder_kind (holder.Group a) = 2

abbrev holder_by : Holder → Holder → Ordering
holder_by a b = ordering_then (nat_cmp (holder_kind a) (holder_kind b)) (nat_cmp (holder_number a) (holder_number b))

holder_agrees : (a b : Holder) → holder_cmp a b ≡ holder_by a b
holder_agrees holder.Everyone holder.Everyone = refl
holder_agrees holder.Everyone (holder.Person b) = refl
holder_agrees holder.Everyone (holder.Group b) = refl
holder_agrees (holder.Person a) holder.Everyone = refl
holder_agrees (holder.Person a) (holder.Person b) = refl
holder_agrees (holder.Person a) (holder.Group b) = refl
holder_agrees (holder.Group a) holder.Everyone = refl
holder_agrees (holder.Group a) (holder.Person b) = refl
holder_agrees (holder.Group a) (holder.Group b) = refl

holder_total : IsTotalOrder holder_cmp
holder_total = alike_total holder_cmp holder_by holder_agrees (then_total (on_total holder_kind nat_cmp_total) (on_total holder_number nat_cmp_total))

privilege_total : IsTotalOrder privilege_cmp
privilege_total = alike_total privilege_cmp (λ a b. nat_cmp (code a) (code b)) privilege_agrees (on_total code nat_cmp_total)

pub grant_total : IsTotalOrder grant_cmp
grant_total = then_total (then_total (on_total (λ (k : GrantKey). k.0) object_total) (on_total (λ (k : GrantKey). k.1) privilege_total)) (on_total (λ (k : GrantKey). k.2) holder_total)

-- ---- keys at one place are one
pub at_number : (a b : ℕ) → is_eq (nat_cmp a b) ≡ (b == a)
at_number a b = grind (arith, nat_tests, common_steps)

object_tells : (a b : Object) → is_eq (object_cmp a b) ≡ same_object b a
object_tells (object.Folder a) (object.Folder b) = at_number a b
object_tells (object.Folder a) (object.Group b) = refl
object_tells (object.Folder a) (object.Def b) = refl
object_tells (object.Folder a) (object.Attr b) = refl
object_tells (object.Folder a) (object.Subject b) = refl
object_tells (object.Group a) (object.Folder b) = refl
object_tells (object.Group a) (object.Group b) = at_number a b
object_tells (object.Group a) (object.Def b) = refl
object_tells (object.Group a) (object.Attr b) = refl
object_tells (object.Group a) (object.Subject b) = refl
object_tells (object.Def a) (object.Folder b) = refl
object_tells (object.Def a) (object.Group b) = refl
object_tells (object.Def a) (object.Def b) = at_number a b
object_tells (object.Def a) (object.Attr b) = refl
object_tells (object.Def a) (object.Subject b) = refl
object_tells (object.Attr a) (object.Folder b) = refl
object_tells (object.Attr a) (object.Group b) = refl
object_tells (object.Attr a) (object.Def b) = refl
object_tells (object.Attr a) (object.Attr b) = at_number a b
object_tells (object.Attr a) (object.Subject b) = refl
object_tells (object.Subject a) (object.Folder b) = refl
object_tells (object.Subject a) (object.Group b) = refl
object_tells (object.Subject a) (object.Def b) = refl
object_tells (object.Subject a) (object.Attr b) = refl
object_tells (object.Subject a) (object.Subject b) = at_number a b

holder_tells : (a b : Holder) → is_eq (holder_cmp a b) ≡ same_holder b a
holder_tells holder.Everyone holder.Everyone = refl
holder_tells holder.Everyone (holder.Person b) = refl
holder_tells holder.Everyone (holder.Group b) = refl
holder_tells (holder.Person a) holder.Everyone = refl
holder_tells (holder.Person a) (holder.Person b) = at_number a b
holder_tells (holder.Person a) (holder.Group b) = refl
holder_tells (holder.Group a) holder.Everyone = refl
holder_tells (holder.Group a) (holder.Person b) = refl
holder_tells (holder.Group a) (holder.Group b) = at_number a b

all_equal : (a b c : Ordering) → is_eq (ordering_then (ordering_then a b) c) ≡ (is_eq a && (is_eq b && is_eq c))
all_equal Less b c = refl
all_equal Greater b c = refl
all_equal Equal Less c = refl
all_equal Equal Greater c = refl
all_equal Equal Equal c = refl

pub key_tells : (k l : GrantKey) → is_at (grant_cmp k) l ≡ same_key l k
key_tells (a, p, h) (b, q, j) =
    all_equal (object_cmp a b) (privilege_cmp p q) (holder_cmp h j)
    ∙ rw (object_tells a b, privilege_agrees p q, at_number (code p) (code q), holder_tells h j) refl

pub grant_tells : (k : GrantKey) (row : GrantRow) → is_grant k row ≡ is_at (grant_cmp k) (key_of row)
grant_tells k row = sym (key_tells k (key_of row))

pub turned_key : (k l : GrantKey) → same_key k l ≡ same_key l k
turned_key k l = sym (key_tells l k) ∙ ((eq_by_cmp_equiv grant_total).symm l k ∙ key_tells k l)

object_same : (a b : Object) → same_object a b ≡ true → a ≡ b
object_same (object.Folder a) (object.Folder b) h = ap (λ n. object.Folder n) (eqb-true a b h)
object_same (object.Folder a) (object.Group b) h = cc
object_same (object.Folder a) (object.Def b) h = cc
object_same (object.Folder a) (object.Attr b) h = cc
object_same (object.Folder a) (object.Subject b) h = cc
object_same (object.Group a) (object.Folder b) h = cc
object_same (object.Group a) (object.Group b) h = ap (λ n. object.Group n) (eqb-true a b h)
object_same (object.Group a) (object.Def b) h = cc
object_same (object.Group a) (object.Attr b) h = cc
object_same (object.Group a) (object.Subject b) h = cc
object_same (object.Def a) (object.Folder b) h = cc
object_same (object.Def a) (object.Group b) h = cc
object_same (object.Def a) (object.Def b) h = ap (λ n. object.Def n) (eqb-true a b h)
object_same (object.Def a) (object.Attr b) h = cc
object_same (object.Def a) (object.Subject b) h = cc
object_same (object.Attr a) (object.Folder b) h = cc
object_same (object.Attr a) (object.Group b) h = cc
object_same (object.Attr a) (object.Def b) h = cc
object_same (object.Attr a) (object.Attr b) h = ap (λ n. object.Attr n) (eqb-true a b h)
object_same (object.Attr a) (object.Subject b) h = cc
object_same (object.Subject a) (object.Folder b) h = cc
object_same (object.Subject a) (object.Group b) h = cc
object_same (object.Subject a) (object.Def b) h = cc
object_same (object.Subject a) (object.Attr b) h = cc
object_same (object.Subject a) (object.Subject b) h = ap (λ n. object.Subject n) (eqb-true a b h)

holder_same : (a b : Holder) → same_holder a b ≡ true → a ≡ b
holder_same holder.Everyone holder.Everyone h = refl
holder_same holder.Everyone (holder.Person b) h = cc
holder_same holder.Everyone (holder.Group b) h = cc
holder_same (holder.Person a) holder.Everyone h = cc
holder_same (holder.Person a) (holder.Person b) h = ap (λ n. holder.Person n) (eqb-true a b h)
holder_same (holder.Person a) (holder.Group b) h = cc
holder_same (holder.Group a) holder.Everyone h = cc
holder_same (holder.Group a) (holder.Person b) h = cc
holder_same (holder.Group a) (holder.Group b) h = ap (λ n. holder.Group n) (eqb-true a b h)

pub one_key : (k l : GrantKey) → same_key k l ≡ true → k ≡ l
one_key (a, p, h) (b, q, j) e =
    let first = and_parts (same_object a b) (same_privilege p q && same_holder h j) e in
    let then = and_parts (same_privilege p q) (same_holder h j) first.1 in
    rw (object_same a b first.0, privilege_is p q (eqb-true (code p) (code q) then.0), holder_same h j then.1) refl

pub key_self : (k : GrantKey) → same_key k k ≡ true
key_self k = sym (key_tells k k) ∙ (eq_by_cmp_equiv grant_total).refl k

-- two lists in order with the same keys are one
pub one_keys : (xs ys : List GrantKey) → IsStrictlySortedBy grant_cmp xs → IsStrictlySortedBy grant_cmp ys → ((k : GrantKey) → list_any (is_at (grant_cmp k)) xs ≡ list_any (is_at (grant_cmp k)) ys) → xs ≡ ys
one_keys xs ys a b h =
    let s : BTreeSet GrantKey = record { keys = xs } in
    let t : BTreeSet GrantKey = record { keys = ys } in
    btree_set_from_contains grant_total s t a b h (λ k l e. sym (key_equal k l e))

-- ---- a key that is put at its place
all_put : {X : Type 0} (R : X → X → Ordering) (P : X → Type 0) (x : X) (xs : List X) → P x → AllByRecursion P xs → AllByRecursion P (insert_key R xs x)
all_put R P x [] h a = (h, tt)
all_put R P x (y ∷ ys) h a = go (all_put R P x ys h a.1) (R x y)
  where
    go : AllByRecursion P (insert_key R ys x) → (e : Ordering) → AllByRecursion P (match_ordering e (x ∷ y ∷ ys) (y ∷ ys) (y ∷ insert_key R ys x))
    go r Less = (h, a)
    go r Equal = a
    go r Greater = (a.0, r)

all_later : {X : Type 0} (R : X → X → Ordering) → IsTotalOrder R → (x y : X) (ys : List X) → R x y ≡ Less → AllByRecursion (λ z. R y z ≡ Less) ys → AllByRecursion (λ z. R x z ≡ Less) ys
all_later R o x y [] h a = tt
all_later R o x y (z ∷ zs) h a = (o.trans x y z h a.0, all_later R o x y zs h a.1)

put_sorted : {X : Type 0} (R : X → X → Ordering) → IsTotalOrder R → (x : X) (xs : List X) → IsStrictlySortedBy R xs → IsStrictlySortedBy R (insert_key R xs x)
unfolding IsStrictlySortedBy
put_sorted R o x [] s = (tt, tt)
put_sorted R o x (y ∷ ys) s = go (put_sorted R o x ys s.1) (R x y) refl
  where
    go : IsStrictlySortedBy R (insert_key R ys x) → (e : Ordering) → R x y ≡ e → IsStrictlySortedBy R (match_ordering e (x ∷ y ∷ ys) (y ∷ ys) (y ∷ insert_key R ys x))
    go r Less h = ((h, all_later R o x y ys h s.0), s)
    go r Equal h = s
    go r Greater h = (all_put R (λ z. R y z ≡ Less) x ys (o.antisymm y x ∙ ap ordering_reverse h) s.0, r)

-- a test that can't tell equal keys apart finds what comes, or what was there
any_put : {X : Type 0} (R : X → X → Ordering) (test : X → Bool) (x : X) → ((y : X) → R x y ≡ Equal → test y ≡ test x) → (xs : List X) → list_any test (insert_key R xs x) ≡ (test x || list_any test xs)
any_put R test x h [] = refl
any_put R test x h (y ∷ ys) = go (any_put R test x h ys) (R x y) refl
  where
    twice : (a b : Bool) → (a || b) ≡ (a || (a || b))
    twice true b = refl
    twice false b = refl

    swap : (a b c : Bool) → (a || (b || c)) ≡ (b || (a || c))
    swap true true c = refl
    swap true false c = refl
    swap false true c = refl
    swap false false c = refl

    go : list_any test (insert_key R ys x) ≡ (test x || list_any test ys) → (o : Ordering) → R x y ≡ o → list_any test (match_ordering o (x ∷ y ∷ ys) (y ∷ ys) (y ∷ insert_key R ys x)) ≡ (test x || (test y || list_any test ys))
    go r Less e = refl
    go r Equal e = rw (h y e) (twice (test x) (list_any test ys))
    go r Greater e = rw r (swap (test y) (test x) (list_any test ys))

-- ---- the grants that pass a test
empty_sorted : {X : Type 0} (R : X → X → Ordering) → IsStrictlySortedBy R []
unfolding IsStrictlySortedBy
empty_sorted R = tt

where_from : (test : GrantRow → Bool) (rows : List GrantRow) (keys : List GrantKey) → IsStrictlySortedBy grant_cmp keys → IsStrictlySortedBy grant_cmp (grants_where test rows keys)
where_from test [] keys s = s
where_from test (r ∷ rs) keys s = elim (cases_Bool (test r)) [
  | inl t ↦ rw t (where_from test rs (insert_key grant_cmp keys (key_of r)) (put_sorted grant_cmp grant_total (key_of r) keys s))
  | inr f ↦ rw f (where_from test rs keys s)
]

-- they stand in order
pub keys_sorted : (test : GrantRow → Bool) (rows : List GrantRow) → IsStrictlySortedBy grant_cmp (grants_where test rows [])
keys_sorted test rows = where_from test rows [] (empty_sorted grant_cmp)

where_with : (test : GrantRow → Bool) (k : GrantKey) (rows : List GrantRow) (keys : List GrantKey) → list_any (is_at (grant_cmp k)) (grants_where test rows keys) ≡ (list_any (λ (r : GrantRow). test r && is_grant k r) rows || list_any (is_at (grant_cmp k)) keys)
where_with test k [] keys = refl
where_with test k (r ∷ rs) keys = elim (cases_Bool (test r)) [
  | inl t ↦ rw t (where_with test k rs (insert_key grant_cmp keys (key_of r)) ∙ rw (any_put grant_cmp (is_at (grant_cmp k)) (key_of r) (λ y e. ap (is_at (grant_cmp k)) (key_equal (key_of r) y e)) keys, ← grant_tells k r) (turned (list_any (λ (r : GrantRow). test r && is_grant k r) rs) (is_grant k r) (list_any (is_at (grant_cmp k)) keys)))
  | inr f ↦ rw f (where_with test k rs keys)
]
  where
    turned : (a b c : Bool) → (a || (b || c)) ≡ ((b || a) || c)
    turned true true c = refl
    turned true false c = refl
    turned false true c = refl
    turned false false c = refl

-- and are those that pass it
pub keys_has : (test : GrantRow → Bool) (k : GrantKey) (rows : List GrantRow) → list_any (is_at (grant_cmp k)) (grants_where test rows []) ≡ list_any (λ (r : GrantRow). test r && is_grant k r) rows
keys_has test k rows = where_with test k rows [] ∙ none_more (list_any (λ (r : GrantRow). test r && is_grant k r) rows)
  where
    none_more : (b : Bool) → (b || false) ≡ b
    none_more true = refl
    none_more false = refl
