-- Grants that go, and grants that begin, one after another: each stands when its turn comes, and what they leave.
use Rattle.std.proofs.Common.{◌≡◌, ◌&&◌, ◌||◌, ◌==◌, ◌<◌, ℕ, List, [], ◌∷◌, Bool, true, false, not, filter, map, Option, Some, None, refl, sym, ◌∙◌, ap, subst, inl, inr, eq-eqb, eqb-true}
use Rattle.std.specs.Prelude.{IfSome, if◌then◌else◌}
use Rattle.std.proofs.lemmas.Bool.{cases_Bool, and_parts, or_left, or_right, or_parts, or_from, both_ways, false_from_ne_true}
use Rattle.std.proofs.lemmas.List.Elements.{filter_agree}
use Rattle.std.proofs.lemmas.Map.Views.{any-filter_same}
use Rattle.std.specs.BTreeSet.{insert_key}
use Rattle.std.specs.List.{list_any, find, AllByRecursion}
use Rattle.std.specs.Ordering.{match_ordering}
use Rattle.std.specs.declared.cmp.Ordering.{Ordering}
use Rattle.std.specs.declared.cmp.Ordering.TheVariants.{Less, Equal, Greater}
use Rattle.reg_terms.specs.declared.kinds.Holder.{Holder}
use Rattle.reg_terms.specs.declared.kinds.Holder.TheVariants as holder
use Rattle.reg_terms.specs.declared.kinds.Object.{Object}
use Rattle.reg_terms.specs.declared.kinds.Object.TheVariants as object
use Rattle.reg_terms.specs.declared.rows.GrantRow.{GrantRow}
use Rattle.reg_terms.specs.Kinds.{same_object, same_holder}
use Rattle.reg_terms.specs.Privileges.{code, same_privilege}
use Rattle.reg_facts.specs.Events.{happened, all_happened}
use Rattle.reg_facts.specs.Grants.{same_grant, has_grant, replaced}
use Rattle.reg_facts.specs.Lists.{Lists}
use Rattle.reg_facts.specs.Sound.{AreGrantsOnce, GrantStands}
use Rattle.reg_current.specs.Dates.{GrantKey, grant_cmp, grants_where, grant_until, end_of, grant_gone, grant_on}
use Rattle.reg_current.specs.Holding.{AllHold}
use Rattle.reg_current.proofs.GrantOrder.{key_equal, privilege_is}
use Rattle.reg_current.proofs.RowsGone.{filter_twice, filter_none, filter_same_in}

-- the key of a grant
abbrev pub key_of : GrantRow → GrantKey
key_of row = (row.object, row.privilege, row.holder)

-- whether a grant is that of a key
abbrev pub is_of : GrantKey → GrantRow → Bool
is_of k row = same_grant (grant_until None k) row

-- whether the key of a grant is among some
abbrev pub listed : GrantRow → List GrantKey → Bool
listed row keys = list_any (λ (k : GrantKey). is_of k row) keys

-- ---- when a grant is that of a key

object_is : (a b : Object) → same_object a b ≡ true → a ≡ b
object_is (object.Folder a) (object.Folder b) h = ap (λ n. object.Folder n) (eqb-true a b h)
object_is (object.Group a) (object.Group b) h = ap (λ n. object.Group n) (eqb-true a b h)
object_is (object.Def a) (object.Def b) h = ap (λ n. object.Def n) (eqb-true a b h)
object_is (object.Attr a) (object.Attr b) h = ap (λ n. object.Attr n) (eqb-true a b h)
object_is (object.Subject a) (object.Subject b) h = ap (λ n. object.Subject n) (eqb-true a b h)
object_is _ _ h = cc

object_self : (o : Object) → same_object o o ≡ true
object_self (object.Folder a) = eq-eqb a a refl
object_self (object.Group a) = eq-eqb a a refl
object_self (object.Def a) = eq-eqb a a refl
object_self (object.Attr a) = eq-eqb a a refl
object_self (object.Subject a) = eq-eqb a a refl

holder_is : (a b : Holder) → same_holder a b ≡ true → a ≡ b
holder_is holder.Everyone holder.Everyone h = refl
holder_is holder.Everyone (holder.Person b) h = cc
holder_is holder.Everyone (holder.Group b) h = cc
holder_is (holder.Person a) holder.Everyone h = cc
holder_is (holder.Person a) (holder.Person b) h = ap (λ n. holder.Person n) (eqb-true a b h)
holder_is (holder.Person a) (holder.Group b) h = cc
holder_is (holder.Group a) holder.Everyone h = cc
holder_is (holder.Group a) (holder.Person b) h = cc
holder_is (holder.Group a) (holder.Group b) h = ap (λ n. holder.Group n) (eqb-true a b h)

holder_self : (a : Holder) → same_holder a a ≡ true
holder_self holder.Everyone = refl
holder_self (holder.Person a) = eq-eqb a a refl
holder_self (holder.Group a) = eq-eqb a a refl

record IsOne (k : GrantKey) (row : GrantRow) : Type 0 where
  object : row.object ≡ k.0
  privilege : row.privilege ≡ k.1
  holder : row.holder ≡ k.2

is_one : (k : GrantKey) (row : GrantRow) → is_of k row ≡ true → IsOne k row
is_one k row h =
    let first = and_parts (same_object row.object k.0) (same_privilege row.privilege k.1 && same_holder row.holder k.2) h in
    let second = and_parts (same_privilege row.privilege k.1) (same_holder row.holder k.2) first.1 in
    record {
      object = object_is row.object k.0 first.0;
      privilege = privilege_is row.privilege k.1 (eqb-true (code row.privilege) (code k.1) second.0);
      holder = holder_is row.holder k.2 second.1;
    }

pub is_self : (row : GrantRow) → is_of (key_of row) row ≡ true
is_self row = rw (object_self row.object, eq-eqb (code row.privilege) (code row.privilege) refl, holder_self row.holder) refl

-- each other grant is that of a key exactly where it is the same as the key's own
alike : (k : GrantKey) (row other : GrantRow) → is_of k row ≡ true → is_of k other ≡ is_of (key_of row) other
alike k row other h = let w = is_one k row h in rw (w.object, w.privilege, w.holder) refl

-- and a key's own grant is that of each other key exactly where any such grant is
alike_of : (k x : GrantKey) (row : GrantRow) → is_of k row ≡ true → is_of x (grant_until None k) ≡ is_of x row
alike_of k x row h = let w = is_one k row h in rw (w.object, w.privilege, w.holder) refl

other_way : (row other : GrantRow) → is_of (key_of row) other ≡ false → is_of (key_of other) row ≡ false
other_way row other h = false_from_ne_true (is_of (key_of other) row) (λ t. both_ways (is_of (key_of row) other) h (sym (alike (key_of other) row other t) ∙ is_self other))

-- ---- the keys of the grants that pass a test

-- a test that can't tell equal keys apart finds what comes, or what was there
any_put : (test : GrantKey → Bool) (k : GrantKey) (ks : List GrantKey) → list_any test (insert_key grant_cmp ks k) ≡ (test k || list_any test ks)
any_put test k [] = refl
any_put test k (x ∷ xs) = go (any_put test k xs) (grant_cmp k x) refl
  where
    twice : (a b : Bool) → (a || b) ≡ (a || (a || b))
    twice true b = refl
    twice false b = refl

    swap : (a b c : Bool) → (a || (b || c)) ≡ (b || (a || c))
    swap true true c = refl
    swap true false c = refl
    swap false true c = refl
    swap false false c = refl

    go : list_any test (insert_key grant_cmp xs k) ≡ (test k || list_any test xs) → (o : Ordering) → grant_cmp k x ≡ o → list_any test (match_ordering o (k ∷ x ∷ xs) (x ∷ xs) (x ∷ insert_key grant_cmp xs k)) ≡ (test k || (test x || list_any test xs))
    go r Less e = refl
    go r Equal e = rw (key_equal k x e) (twice (test k) (list_any test xs))
    go r Greater e = ap (λ b. test x || b) r ∙ swap (test x) (test k) (list_any test xs)

all_put : (P : GrantKey → Type 0) (k : GrantKey) (ks : List GrantKey) → P k → AllByRecursion P ks → AllByRecursion P (insert_key grant_cmp ks k)
all_put P k [] here all = (here, tt)
all_put P k (x ∷ xs) here all = go (all_put P k xs here all.1) (grant_cmp k x)
  where
    go : AllByRecursion P (insert_key grant_cmp xs k) → (o : Ordering) → AllByRecursion P (match_ordering o (k ∷ x ∷ xs) (x ∷ xs) (x ∷ insert_key grant_cmp xs k))
    go r Less = (here, all)
    go r Equal = all
    go r Greater = (all.0, r)

pub where_all : (P : GrantKey → Type 0) (test : GrantRow → Bool) (rows : List GrantRow) (keys : List GrantKey) → AllByRecursion (λ (row : GrantRow). test row ≡ true → P (key_of row)) rows → AllByRecursion P keys → AllByRecursion P (grants_where test rows keys)
where_all P test [] keys h all = all
where_all P test (row ∷ rest) keys h all = elim (cases_Bool (test row)) [
  | inl t ↦ rw t (where_all P test rest (insert_key grant_cmp keys (key_of row)) h.1 (all_put P (key_of row) keys (h.0 t) all))
  | inr f ↦ rw f (where_all P test rest keys h.1 all)
]

-- whether one of the grants that pass a test is the same as a grant
abbrev passes : (GrantRow → Bool) → GrantRow → List GrantRow → Bool
passes test x rows = list_any (λ (row : GrantRow). test row && is_of (key_of row) x) rows

where_listed : (test : GrantRow → Bool) (x : GrantRow) (rows : List GrantRow) (keys : List GrantKey) → listed x (grants_where test rows keys) ≡ (passes test x rows || listed x keys)
where_listed test x [] keys = refl
where_listed test x (row ∷ rest) keys = elim (cases_Bool (test row)) [
  | inl t ↦ rw t (where_listed test x rest (insert_key grant_cmp keys (key_of row)) ∙ rw (any_put (λ (k : GrantKey). is_of k x) (key_of row) keys) (turned (passes test x rest) (is_of (key_of row) x) (listed x keys)))
  | inr f ↦ rw f (where_listed test x rest keys)
]
  where
    turned : (a b c : Bool) → (a || (b || c)) ≡ ((b || a) || c)
    turned true true c = refl
    turned true false c = refl
    turned false true c = refl
    turned false false c = refl

-- where grants stand once, a grant passes a test exactly where the one that is the same does
none_passes : (test : GrantRow → Bool) (x : GrantRow) (rows : List GrantRow) → has_grant x rows ≡ false → passes test x rows ≡ false
none_passes test x [] h = refl
none_passes test x (row ∷ rows) h =
    let parts = or_parts (same_grant x row) (has_grant x rows) h in
    rw (other_way x row parts.0, none_passes test x rows parts.1) (no_way (test row))
  where
    no_way : (a : Bool) → ((a && false) || false) ≡ false
    no_way true = refl
    no_way false = refl

each_passes : (test : GrantRow → Bool) (rows : List GrantRow) → AreGrantsOnce rows → AllByRecursion (λ (row : GrantRow). passes test row rows ≡ test row) rows
each_passes test [] o = tt
each_passes test (q ∷ qs) o = (rw (is_self q, none_passes test q qs o.0) (alone (test q)), later qs o.0 (each_passes test qs o.1))
  where
    alone : (a : Bool) → ((a && true) || false) ≡ a
    alone true = refl
    alone false = refl

    past : (a b : Bool) → ((a && false) || b) ≡ b
    past true b = refl
    past false b = refl

    later : (rs : List GrantRow) → has_grant q rs ≡ false → AllByRecursion (λ (row : GrantRow). passes test row qs ≡ test row) rs → AllByRecursion (λ (row : GrantRow). passes test row (q ∷ qs) ≡ test row) rs
    later [] h a = tt
    later (r ∷ rs) h a =
        let parts = or_parts (same_grant q r) (has_grant q rs) h in
        let other : is_of (key_of q) r ≡ false = parts.0 in
        (rw other (past (test q) (passes test r qs) ∙ a.0), later rs parts.1 a.1)

-- so the keys of those that pass list exactly these
pub each_listed : (test : GrantRow → Bool) (rows : List GrantRow) → AreGrantsOnce rows → AllByRecursion (λ (row : GrantRow). listed row (grants_where test rows []) ≡ test row) rows
each_listed test rows o = go rows (each_passes test rows o)
  where
    outside : (a : Bool) → (a || false) ≡ a
    outside true = refl
    outside false = refl

    go : (rs : List GrantRow) → AllByRecursion (λ (row : GrantRow). passes test row rows ≡ test row) rs → AllByRecursion (λ (row : GrantRow). listed row (grants_where test rows []) ≡ test row) rs
    go [] a = tt
    go (r ∷ rs) a = (where_listed test r rows [] ∙ (outside (passes test r rows) ∙ a.0), go rs a.1)

-- ---- no key is there twice

abbrev AreKeysOnce : List GrantKey → Type 0
AreKeysOnce [] = Unit {0}
AreKeysOnce (k ∷ ks) = (listed (grant_until None k) ks ≡ false) × AreKeysOnce ks

once_put : (k : GrantKey) (ks : List GrantKey) → listed (grant_until None k) ks ≡ false → AreKeysOnce ks → AreKeysOnce (insert_key grant_cmp ks k)
once_put k [] new once = (refl, tt)
once_put k (x ∷ xs) new once = go (once_put k xs parts.1 once.1) (grant_cmp k x)
  where
    parts : (is_of x (grant_until None k) ≡ false) × (listed (grant_until None k) xs ≡ false)
    parts = or_parts (is_of x (grant_until None k)) (listed (grant_until None k) xs) new

    behind : listed (grant_until None x) (insert_key grant_cmp xs k) ≡ false
    behind =
        any_put (λ (y : GrantKey). is_of y (grant_until None x)) k xs
        ∙ or_from (is_of k (grant_until None x)) (listed (grant_until None x) xs) (other_way (grant_until None x) (grant_until None k) parts.0) once.0

    go : AreKeysOnce (insert_key grant_cmp xs k) → (o : Ordering) → AreKeysOnce (match_ordering o (k ∷ x ∷ xs) (x ∷ xs) (x ∷ insert_key grant_cmp xs k))
    go r Less = (new, once)
    go r Equal = once
    go r Greater = (behind, r)

where_once : (test : GrantRow → Bool) (rows : List GrantRow) (keys : List GrantKey) → AreGrantsOnce rows → AllByRecursion (λ (row : GrantRow). listed row keys ≡ false) rows → AreKeysOnce keys → AreKeysOnce (grants_where test rows keys)
where_once test [] keys o new once = once
where_once test (row ∷ rest) keys o new once = elim (cases_Bool (test row)) [
  | inl t ↦ rw t (where_once test rest (insert_key grant_cmp keys (key_of row)) o.1 (more rest o.0 new.1) (once_put (key_of row) keys new.0 once))
  | inr f ↦ rw f (where_once test rest keys o.1 new.1 once)
]
  where
    more : (rs : List GrantRow) → has_grant row rs ≡ false → AllByRecursion (λ (r : GrantRow). listed r keys ≡ false) rs → AllByRecursion (λ (r : GrantRow). listed r (insert_key grant_cmp keys (key_of row)) ≡ false) rs
    more [] h a = tt
    more (r ∷ rs) h a =
        let parts = or_parts (same_grant row r) (has_grant row rs) h in
        (any_put (λ (k : GrantKey). is_of k r) (key_of row) keys ∙ or_from (is_of (key_of row) r) (listed r keys) parts.0 a.0, more rs parts.1 a.1)

none_listed : (rows : List GrantRow) → AllByRecursion (λ (row : GrantRow). listed row [] ≡ false) rows
none_listed [] = tt
none_listed (row ∷ rows) = (refl, none_listed rows)

-- ---- grants that go

-- each grant that a test keeps stands among those that it keeps
pub kept_stand : (keep : GrantRow → Bool) (rows : List GrantRow) → AllByRecursion (λ (row : GrantRow). keep row ≡ true → list_any (is_of (key_of row)) (filter keep rows) ≡ true) rows
kept_stand keep [] = tt
kept_stand keep (q ∷ qs) = (λ t. rw t (or_left (is_of (key_of q) q) (list_any (is_of (key_of q)) (filter keep qs)) (is_self q)), later qs (kept_stand keep qs))
  where
    later : (rs : List GrantRow) → AllByRecursion (λ (row : GrantRow). keep row ≡ true → list_any (is_of (key_of row)) (filter keep qs) ≡ true) rs → AllByRecursion (λ (row : GrantRow). keep row ≡ true → list_any (is_of (key_of row)) (filter keep (q ∷ qs)) ≡ true) rs
    later [] a = tt
    later (r ∷ rs) a = (λ t. behind r (a.0 t), later rs a.1)
      where
        behind : (r : GrantRow) → list_any (is_of (key_of r)) (filter keep qs) ≡ true → list_any (is_of (key_of r)) (filter keep (q ∷ qs)) ≡ true
        behind r s = elim (cases_Bool (keep q)) [
          | inl t ↦ rw t (or_right (is_of (key_of r) q) (list_any (is_of (key_of r)) (filter keep qs)) s)
          | inr t ↦ rw t s
        ]

all_stand : (rows : List GrantRow) → AllByRecursion (λ (row : GrantRow). list_any (is_of (key_of row)) rows ≡ true) rows
all_stand [] = tt
all_stand (q ∷ qs) = (or_left (is_of (key_of q) q) (list_any (is_of (key_of q)) qs) (is_self q), later qs (all_stand qs))
  where
    later : (rs : List GrantRow) → AllByRecursion (λ (row : GrantRow). list_any (is_of (key_of row)) qs ≡ true) rs → AllByRecursion (λ (row : GrantRow). list_any (is_of (key_of row)) (q ∷ qs) ≡ true) rs
    later [] a = tt
    later (r ∷ rs) a = (or_right (is_of (key_of r) q) (list_any (is_of (key_of r)) qs) a.0, later rs a.1)

gone_hold : (at : ℕ) (ks : List GrantKey) (f : Lists) → AreKeysOnce ks → AllByRecursion (λ (k : GrantKey). list_any (is_of k) f.grants ≡ true) ks → AllHold at (map grant_gone ks) f
gone_hold at [] f once there = tt
gone_hold at (k ∷ ks) f once there = (record { suits = there.0; no_circle = tt; later = tt }, gone_hold at ks (happened (grant_gone k) f) once.1 (left ks once.0 there.1))
  where
    left : (xs : List GrantKey) → listed (grant_until None k) xs ≡ false → AllByRecursion (λ (x : GrantKey). list_any (is_of x) f.grants ≡ true) xs → AllByRecursion (λ (x : GrantKey). list_any (is_of x) (filter (λ (row : GrantRow). not (is_of k row)) f.grants) ≡ true) xs
    left [] other a = tt
    left (x ∷ xs) other a =
        let parts = or_parts (is_of x (grant_until None k)) (listed (grant_until None k) xs) other in
        (any-filter_same (is_of x) (λ (row : GrantRow). not (is_of k row)) true (λ row u. ap not (false_from_ne_true (is_of k row) (λ t. both_ways (is_of x (grant_until None k)) parts.0 (alike_of k x row t ∙ u)))) f.grants ∙ a.0, left xs parts.1 a.1)

-- the grants that pass a test can go
pub where_hold : (at : ℕ) (test : GrantRow → Bool) (rows : List GrantRow) (f : Lists) → f.grants ≡ rows → AreGrantsOnce rows → AllHold at (map grant_gone (grants_where test rows [])) f
where_hold at test rows f is once =
    gone_hold at (grants_where test rows []) f (where_once test rows [] once (none_listed rows) tt)
    (rw is (where_all (λ (k : GrantKey). list_any (is_of k) rows ≡ true) test rows [] (given rows (all_stand rows)) tt))
  where
    given : (rs : List GrantRow) → AllByRecursion (λ (row : GrantRow). list_any (is_of (key_of row)) rows ≡ true) rs → AllByRecursion (λ (row : GrantRow). test row ≡ true → list_any (is_of (key_of row)) rows ≡ true) rs
    given [] a = tt
    given (r ∷ rs) a = (λ t. a.0, given rs a.1)

grants_left : List GrantKey → List GrantRow → List GrantRow
grants_left [] rows = rows
grants_left (k ∷ ks) rows = grants_left ks (filter (λ (row : GrantRow). not (is_of k row)) rows)

removed_grants : (ks : List GrantKey) (f : Lists) → all_happened (map grant_gone ks) f ≡ record f { grants = grants_left ks f.grants }
unfolding grants_left
removed_grants [] f = refl
removed_grants (k ∷ ks) f = removed_grants ks (happened (grant_gone k) f)

left_unlisted : (ks : List GrantKey) (rows : List GrantRow) → grants_left ks rows ≡ filter (λ (row : GrantRow). not (listed row ks)) rows
unfolding grants_left
left_unlisted [] rows = sym (filter_none rows)
left_unlisted (k ∷ ks) rows =
    left_unlisted ks (filter (λ (row : GrantRow). not (is_of k row)) rows)
    ∙ (filter_twice (λ (row : GrantRow). not (is_of k row)) (λ (row : GrantRow). not (listed row ks)) rows
    ∙ filter_agree _ _ (λ (row : GrantRow). neither (is_of k row) (listed row ks)) rows)
  where
    neither : (a b : Bool) → (not a && not b) ≡ not (a || b)
    neither true b = refl
    neither false b = refl

-- and leave the others
pub where_removed : (test : GrantRow → Bool) (rows : List GrantRow) (f : Lists) → f.grants ≡ rows → AreGrantsOnce rows → all_happened (map grant_gone (grants_where test rows [])) f ≡ record f { grants = filter (λ (row : GrantRow). not (test row)) rows }
where_removed test rows f is once =
    removed_grants (grants_where test rows []) f
    ∙ (let g : List GrantRow → Lists = λ rs. record f { grants = rs } in
    ap g (rw is (left_unlisted (grants_where test rows []) rows ∙ filter_same_in (λ (row : GrantRow). not (listed row (grants_where test rows []))) (λ (row : GrantRow). not (test row)) rows (each rows (each_listed test rows once)))))
  where
    each : (rs : List GrantRow) → AllByRecursion (λ (row : GrantRow). listed row (grants_where test rows []) ≡ test row) rs → AllByRecursion (λ (row : GrantRow). not (listed row (grants_where test rows [])) ≡ not (test row)) rs
    each [] a = tt
    each (r ∷ rs) a = (ap not a.0, each rs a.1)

-- ---- grants that begin

-- the end that is kept for a grant's key is its own
abbrev pub EndsSo : List GrantRow → GrantRow → Type 0
EndsSo all row = (k : GrantKey) → is_of k row ≡ true → end_of k all ≡ row.until

end_first : (k : GrantKey) (q : GrantRow) (qs : List GrantRow) → is_of k q ≡ true → end_of k (q ∷ qs) ≡ q.until
end_first k q qs h = rw (h, end_of) refl

end_later : (k : GrantKey) (q : GrantRow) (qs : List GrantRow) → is_of k q ≡ false → end_of k (q ∷ qs) ≡ end_of k qs
end_later k q qs h = rw (h, end_of) refl

pub ends_so : (rows : List GrantRow) → AreGrantsOnce rows → AllByRecursion (EndsSo rows) rows
ends_so [] o = tt
ends_so (q ∷ qs) o = (λ k t. end_first k q qs t, later qs o.0 (ends_so qs o.1))
  where
    later : (rs : List GrantRow) → has_grant q rs ≡ false → AllByRecursion (EndsSo qs) rs → AllByRecursion (EndsSo (q ∷ qs)) rs
    later [] h a = tt
    later (r ∷ rs) h a = (λ k t. end_later k q qs (other k t) ∙ a.0 k t, later rs parts.1 a.1)
      where
        parts : (same_grant q r ≡ false) × (has_grant q rs ≡ false)
        parts = or_parts (same_grant q r) (has_grant q rs) h

        other : (k : GrantKey) → is_of k r ≡ true → is_of k q ≡ false
        other k t = false_from_ne_true (is_of k q) (λ s. both_ways (same_grant q r) parts.0 (sym (alike k q r s) ∙ t))

-- a grant, on where a test says so
abbrev pub on_if : Bool → GrantRow → GrantRow
on_if b row = if b then record row { from = None } else row

one_on : (all : List GrantRow) (k : GrantKey) (row : GrantRow) → EndsSo all row → is_of k row ≡ true → grant_until (end_of k all) k ≡ record row { from = None }
one_on all k row ends t = let w = is_one k row t in rw (ends k t, w.object, w.privilege, w.holder) refl

-- a grant after others began
abbrev row_began : List GrantRow → List GrantKey → GrantRow → GrantRow
row_began all [] row = row
row_began all (k ∷ ks) row = row_began all ks (replaced (grant_until (end_of k all) k) row)

on_already : (b : Bool) (row : GrantRow) → on_if b (record row { from = None }) ≡ record row { from = None }
on_already true row = refl
on_already false row = refl

row_on : (all : List GrantRow) (ks : List GrantKey) (row : GrantRow) → EndsSo all row → row_began all ks row ≡ on_if (listed row ks) row
row_on all [] row ends = refl
row_on all (k ∷ ks) row ends = elim (cases_Bool (is_of k row)) [
  | inl t ↦ rw t (ap (row_began all ks) (one_on all k row ends t) ∙ (row_on all ks (record row { from = None }) ends ∙ on_already (listed row ks) row))
  | inr f ↦ rw f (row_on all ks row ends)
]

map_same : (rows : List GrantRow) → map (λ (row : GrantRow). row) rows ≡ rows
map_same [] = refl
map_same (row ∷ rows) = ap (λ rs. row ∷ rs) (map_same rows)

map_twice : (g h : GrantRow → GrantRow) (rows : List GrantRow) → map h (map g rows) ≡ map (λ (row : GrantRow). h (g row)) rows
map_twice g h [] = refl
map_twice g h (row ∷ rows) = ap (λ rs. h (g row) ∷ rs) (map_twice g h rows)

map_same_in : (g h : GrantRow → GrantRow) (rows : List GrantRow) → AllByRecursion (λ (row : GrantRow). g row ≡ h row) rows → map g rows ≡ map h rows
map_same_in g h [] a = refl
map_same_in g h (row ∷ rows) a = rw (a.0, map_same_in g h rows a.1) refl

began_grants : (all : List GrantRow) (ks : List GrantKey) (f : Lists) → all_happened (map (grant_on all) ks) f ≡ record f { grants = map (row_began all ks) f.grants }
began_grants all [] f = let g : List GrantRow → Lists = λ rs. record f { grants = rs } in ap g (sym (map_same f.grants))
began_grants all (k ∷ ks) f =
    began_grants all ks (happened (grant_on all k) f)
    ∙ (let g : List GrantRow → Lists = λ rs. record f { grants = rs } in ap g (map_twice (replaced (grant_until (end_of k all) k)) (row_began all ks) f.grants))

-- grants that begin are on, and the others are as they were
pub where_began : (all : List GrantRow) (ks : List GrantKey) (on : GrantRow → GrantRow) (f : Lists) → AllByRecursion (EndsSo all) f.grants → AllByRecursion (λ (row : GrantRow). on_if (listed row ks) row ≡ on row) f.grants → all_happened (map (grant_on all) ks) f ≡ record f { grants = map on f.grants }
where_began all ks on f ends is =
    began_grants all ks f
    ∙ (let g : List GrantRow → Lists = λ rs. record f { grants = rs } in ap g (map_same_in (row_began all ks) on f.grants (each f.grants ends is)))
  where
    each : (rs : List GrantRow) → AllByRecursion (EndsSo all) rs → AllByRecursion (λ (row : GrantRow). on_if (listed row ks) row ≡ on row) rs → AllByRecursion (λ (row : GrantRow). row_began all ks row ≡ on row) rs
    each [] e a = tt
    each (r ∷ rs) e a = (row_on all ks r e.0 ∙ a.0, each rs e.1 a.1)

-- a key's grant can begin
pub record CanBegin (at : ℕ) (all : List GrantRow) (f : Lists) (k : GrantKey) : Type 0 where
  pub stands : GrantStands f.made f.subjects f.groups (grant_until None k)
  pub there : list_any (is_of k) f.grants ≡ true
  pub later : IfSome (end_of k all) (λ u. at < u)

has_replaced : (x : GrantKey) (k : GrantKey) (until : Option ℕ) (rows : List GrantRow) → list_any (is_of x) (map (replaced (grant_until until k)) rows) ≡ list_any (is_of x) rows
has_replaced x k until [] = refl
has_replaced x k until (r ∷ rows) = elim (cases_Bool (is_of k r)) [
  | inl t ↦ rw (t, has_replaced x k until rows) (ap (λ b. b || list_any (is_of x) rows) (alike_of k x r t))
  | inr t ↦ rw (t, has_replaced x k until rows) refl
]

pub began_hold : (at : ℕ) (all : List GrantRow) (ks : List GrantKey) (f : Lists) → AllByRecursion (CanBegin at all f) ks → AllHold at (map (grant_on all) ks) f
began_hold at all [] f can = tt
began_hold at all (k ∷ ks) f can = (
  record {
    suits = (record { object = can.0.stands.object; holder = can.0.stands.holder }, can.0.there);
    no_circle = tt;
    later = record { begins = tt; ends = can.0.later; after = tt };
  },
  began_hold at all ks (happened (grant_on all k) f) (next ks can.1),
)
  where
    next : (xs : List GrantKey) → AllByRecursion (CanBegin at all f) xs → AllByRecursion (CanBegin at all (happened (grant_on all k) f)) xs
    next [] a = tt
    next (x ∷ xs) a = (record { stands = a.0.stands; there = has_replaced x k (end_of k all) f.grants ∙ a.0.there; later = a.0.later }, next xs a.1)
