-- Grants at dates, as an ordered set keeps them.
use Rattle.std.proofs.Common.{◌≡◌, ◌≤◌, ◌<◌, ◌==◌, ◌&&◌, ◌||◌, ◌^◌, ℕ, List, [], ◌∷◌, Bool, true, false, not, cond, map, filter, Some, arith, refl, sym, ◌∙◌, ap, subst, inl, inr}
use Rattle.std.specs.Prelude.{IsTrue, OnOk, OnErr, Result}
use Rattle.std.specs.declared.result.Result.TheVariants.{Ok, Err}
use Rattle.std.specs.List.{All, list_any, AllByRecursion}
use Rattle.std.specs.List.Sorted.{IsStrictlySortedBy}
use Rattle.std.specs.BTreeMap.{is_at}
use Rattle.std.specs.BTreeMap.Range.{range_contains}
use Rattle.std.specs.BTreeSet.{BTreeSet, contains, insert_key, Updates, IsUnchanged, IsLowerBound}
use Rattle.std.specs.Set.{remove_key}
use Rattle.std.specs.Ordering.{is_eq, is_gt, is_lt, is_le, nat_cmp, ordering_then}
use Rattle.std.specs.declared.cmp.Ordering.{Ordering}
use Rattle.std.specs.declared.cmp.Ordering.TheVariants.{Less, Equal, Greater}
use Rattle.std.specs.declared.ops.Bound.TheVariants.{Included}
use Rattle.std.proofs.lemmas.Grind.{common_steps}
use Rattle.std.proofs.lemmas.Bool.Decides.{nat_tests}
use Rattle.std.proofs.lemmas.Bool.{cases_Bool, eqb-true}
use Rattle.std.proofs.lemmas.List.Elements.{recursion_from_All}
use Rattle.std.proofs.lemmas.Map.Views.{All-insert_key, All-remove_key}
use Rattle.reg_base.specs.declared.privilege.Privilege.{Privilege}
use Rattle.reg_base.specs.declared.privilege.Privilege.TheVariants as privilege
use Rattle.reg_terms.specs.declared.kinds.Holder.{Holder}
use Rattle.reg_terms.specs.declared.kinds.Holder.TheVariants as holder
use Rattle.reg_terms.specs.declared.kinds.Object.{Object}
use Rattle.reg_terms.specs.declared.kinds.Object.TheVariants as object
use Rattle.reg_current.specs.declared.dated_grants.DatedGrants.{DatedGrants}
use Rattle.reg_current.specs.Dates.{GrantKey, grant_cmp}
use Rattle.reg_current.specs.Numbers.{object_number, holder_number}
use Rattle.reg_current.specs.Coming.{dated_grant_cmp, same_key, has_dated_grant, same_dated_grant, IsFirstGrant, AreDatedGrants}
use Rattle.reg_current.proofs.KeyOrder.{object_cmp, privilege_cmp, holder_cmp, at_number, key_tells, turned_key}

-- a grant at a date
abbrev pub Dated : Type 0
Dated = ℕ × Object × Privilege × Holder

-- its numbers have 32 bits
abbrev pub Small : Dated → Type 0
Small r = (object_number r.1 < 2 ^ 32) × (holder_number r.3 < 2 ^ 32)

-- the grant without its date
abbrev pub grant_at : Dated → GrantKey
grant_at r = (r.1, r.2, r.3)

-- ---- the order is by the date, and then that of grants
then_four : (a b c d : Ordering) → ordering_then (ordering_then (ordering_then a b) c) d ≡ ordering_then a (ordering_then (ordering_then b c) d)
then_four Less b c d = refl
then_four Equal b c d = refl
then_four Greater b c d = refl

dated_is : (r s : Dated) → dated_grant_cmp r s ≡ ordering_then (nat_cmp r.0 s.0) (grant_cmp (grant_at r) (grant_at s))
dated_is r s = then_four (nat_cmp r.0 s.0) (object_cmp r.1 s.1) (privilege_cmp r.2 s.2) (holder_cmp r.3 s.3)

both_equal : (a b : Ordering) → is_eq (ordering_then a b) ≡ (is_eq a && is_eq b)
both_equal Less b = refl
both_equal Equal b = refl
both_equal Greater b = refl

at_dated : (r s : Dated) → is_at (dated_grant_cmp r) s ≡ ((s.0 == r.0) && is_at (grant_cmp (grant_at r)) (grant_at s))
at_dated r s =
    ap is_eq (dated_is r s)
    ∙ (both_equal (nat_cmp r.0 s.0) (grant_cmp (grant_at r) (grant_at s))
    ∙ ap (λ b. b && is_at (grant_cmp (grant_at r)) (grant_at s)) (at_number r.0 s.0))

turned : (a b : ℕ) → (a == b) ≡ (b == a)
turned a b = grind (arith, nat_tests)

dated_same : (date : ℕ) (key : GrantKey) (d : ℕ) (k : GrantKey) → is_at (dated_grant_cmp (date, key.0, key.1, key.2)) (d, k.0, k.1, k.2) ≡ same_dated_grant date key d k
dated_same date key d k =
    at_dated (date, key.0, key.1, key.2) (d, k.0, k.1, k.2)
    ∙ rw (turned d date, key_tells key k, turned_key k key) refl

-- ---- one more, one less
pub inserted : (old new : BTreeSet Dated) (date : ℕ) (key : GrantKey) → Updates dated_grant_cmp old new (date, key.0, key.1, key.2) true → (d : ℕ) (k : GrantKey) → contains dated_grant_cmp new (d, k.0, k.1, k.2) ≡ (same_dated_grant date key d k || contains dated_grant_cmp old (d, k.0, k.1, k.2))
inserted old new date key u d k =
    u.0 (d, k.0, k.1, k.2) ∙ rw (dated_same date key d k) (joined (same_dated_grant date key d k) (contains dated_grant_cmp old (d, k.0, k.1, k.2)))
  where
    joined : (a b : Bool) → cond a true b ≡ (a || b)
    joined true b = refl
    joined false b = refl

pub removed : (old new : BTreeSet Dated) (date : ℕ) (key : GrantKey) → Updates dated_grant_cmp old new (date, key.0, key.1, key.2) false → (d : ℕ) (k : GrantKey) → contains dated_grant_cmp new (d, k.0, k.1, k.2) ≡ (not (same_dated_grant date key d k) && contains dated_grant_cmp old (d, k.0, k.1, k.2))
removed old new date key u d k =
    u.0 (d, k.0, k.1, k.2) ∙ rw (dated_same date key d k) (parted (same_dated_grant date key d k) (contains dated_grant_cmp old (d, k.0, k.1, k.2)))
  where
    parted : (a b : Bool) → cond a false b ≡ (not a && b)
    parted true b = refl
    parted false b = refl

pub small_inserted : {E : Type 0} (r : Result Bool E) (key : Dated) (old new : BTreeSet Dated) → OnOk r (new.keys ≡ insert_key dated_grant_cmp old.keys key) → OnErr r (IsUnchanged old new) → All Small old.keys → Small key → All Small new.keys
small_inserted (Ok b) key old new ok err all small = rw ok (All-insert_key dated_grant_cmp key Small old.keys all small)
small_inserted (Err e) key old new ok err all small = rw err all

pub small_removed : (test : Dated → Bool) (old new : BTreeSet Dated) → new.keys ≡ remove_key test old.keys → All Small old.keys → All Small new.keys
small_removed test old new e all = rw e (All-remove_key test Small old.keys all)

-- ---- the first
no_later : (a x : ℕ) (o : Ordering) → is_gt (ordering_then (nat_cmp a x) o) ≡ false → a ≤ x
no_later a x Less e = grind (arith, nat_tests, common_steps)
no_later a x Equal e = grind (arith, nat_tests, common_steps)
no_later a x Greater e = grind (arith, nat_tests, common_steps)

told : (b : Bool) → IsTrue b → b ≡ true
told true h = refl
told false h = absurd (let clash : ⊥ = cc in clash)

as_test : (b : Bool) → b ≡ true → IsTrue b
as_test b e = rw e (let t : IsTrue true = search (common_steps) in t)

pub first_is : (set : DatedGrants) (r : Dated) → IsTrue (contains dated_grant_cmp set.grants r) → IsLowerBound dated_grant_cmp set.grants r → IsFirstGrant set (Some r.0)
first_is set r has low = (
  (grant_at r, told (contains dated_grant_cmp set.grants r) has),
  λ d k e. no_later r.0 d (grant_cmp (grant_at r) k) (sym (ap is_gt (dated_is r (d, k.0, k.1, k.2))) ∙ low (d, k.0, k.1, k.2) (as_test (has_dated_grant set d k) e)),
)

-- ---- the grants at a date
abbrev least : ℕ → Dated
least d = (d, object.Folder 0, privilege.Admin, holder.Everyone)

abbrev greatest : ℕ → Dated
greatest d = (d, object.Subject 4294967295, privilege.AttrView, holder.Group 4294967295)

abbrev pub range_at : ℕ → Dated → Bool
range_at d = range_contains dated_grant_cmp (Included (d, object.Folder 0, privilege.Admin, holder.Everyone)) (Included (d, object.Subject 4294967295, privilege.AttrView, holder.Group 4294967295))

low_number : (n : ℕ) → is_gt (nat_cmp 0 n) ≡ false
low_number n = grind (arith, nat_tests, common_steps)

high_number : (n : ℕ) → n < 4294967296 → is_lt (nat_cmp 4294967295 n) ≡ false
high_number n h = grind (arith, nat_tests, common_steps, h)

low_object : (o : Object) → is_gt (object_cmp (object.Folder 0) o) ≡ false
low_object (object.Folder a) = low_number a
low_object (object.Group a) = refl
low_object (object.Def a) = refl
low_object (object.Attr a) = refl
low_object (object.Subject a) = refl

high_object : (o : Object) → object_number o < 2 ^ 32 → is_lt (object_cmp (object.Subject 4294967295) o) ≡ false
high_object (object.Folder a) h = refl
high_object (object.Group a) h = refl
high_object (object.Def a) h = refl
high_object (object.Attr a) h = refl
high_object (object.Subject a) h = high_number a h

low_holder : (h : Holder) → is_gt (holder_cmp holder.Everyone h) ≡ false
low_holder holder.Everyone = refl
low_holder (holder.Person a) = refl
low_holder (holder.Group a) = refl

high_holder : (j : Holder) → holder_number j < 2 ^ 32 → is_lt (holder_cmp (holder.Group 4294967295) j) ≡ false
high_holder holder.Everyone h = refl
high_holder (holder.Person a) h = refl
high_holder (holder.Group a) h = high_number a h

low_privilege : (p : Privilege) → is_gt (privilege_cmp privilege.Admin p) ≡ false
low_privilege privilege.Admin = refl
low_privilege privilege.Update = refl
low_privilege privilege.Read = refl
low_privilege privilege.View = refl
low_privilege privilege.Optin = refl
low_privilege privilege.Optout = refl
low_privilege privilege.GroupAttrRead = refl
low_privilege privilege.GroupAttrUpdate = refl
low_privilege privilege.StemAdmin = refl
low_privilege privilege.Create = refl
low_privilege privilege.StemAttrRead = refl
low_privilege privilege.StemAttrUpdate = refl
low_privilege privilege.AttrAdmin = refl
low_privilege privilege.AttrUpdate = refl
low_privilege privilege.AttrRead = refl
low_privilege privilege.AttrView = refl

high_privilege : (p : Privilege) → is_lt (privilege_cmp privilege.AttrView p) ≡ false
high_privilege privilege.Admin = refl
high_privilege privilege.Update = refl
high_privilege privilege.Read = refl
high_privilege privilege.View = refl
high_privilege privilege.Optin = refl
high_privilege privilege.Optout = refl
high_privilege privilege.GroupAttrRead = refl
high_privilege privilege.GroupAttrUpdate = refl
high_privilege privilege.StemAdmin = refl
high_privilege privilege.Create = refl
high_privilege privilege.StemAttrRead = refl
high_privilege privilege.StemAttrUpdate = refl
high_privilege privilege.AttrAdmin = refl
high_privilege privilege.AttrUpdate = refl
high_privilege privilege.AttrRead = refl
high_privilege privilege.AttrView = refl

-- what is between the least and the greatest is told by the date
no_greater : (a b c : Ordering) → is_gt a ≡ false → is_gt b ≡ false → is_gt c ≡ false → is_gt (ordering_then (ordering_then a b) c) ≡ false
no_greater Less b c h i j = refl
no_greater Equal Less c h i j = refl
no_greater Equal Equal c h i j = j
no_greater Equal Greater c h i j = i
no_greater Greater b c h i j = h

no_less : (a b c : Ordering) → is_lt a ≡ false → is_lt b ≡ false → is_lt c ≡ false → is_lt (ordering_then (ordering_then a b) c) ≡ false
no_less Less b c h i j = h
no_less Equal Less c h i j = i
no_less Equal Equal c h i j = j
no_less Equal Greater c h i j = refl
no_less Greater b c h i j = refl

between : (a d : ℕ) (low high : Ordering) → is_gt low ≡ false → is_lt high ≡ false → (is_le (ordering_then (nat_cmp d a) low) && not (is_lt (ordering_then (nat_cmp d a) high))) ≡ (a == d)
between a d Less Less h i = cc
between a d Less Equal h i = grind (arith, nat_tests, common_steps)
between a d Less Greater h i = grind (arith, nat_tests, common_steps)
between a d Equal Less h i = cc
between a d Equal Equal h i = grind (arith, nat_tests, common_steps)
between a d Equal Greater h i = grind (arith, nat_tests, common_steps)
between a d Greater high h i = cc

in_range_at : (d : ℕ) (r : Dated) → Small r → range_at d r ≡ (r.0 == d)
in_range_at d r s =
    rw (dated_is (least d) r, dated_is (greatest d) r)
    (between r.0 d (grant_cmp (grant_at (least d)) (grant_at r)) (grant_cmp (grant_at (greatest d)) (grant_at r))
    (no_greater (object_cmp (object.Folder 0) r.1) (privilege_cmp privilege.Admin r.2) (holder_cmp holder.Everyone r.3) (low_object r.1) (low_privilege r.2) (low_holder r.3))
    (no_less (object_cmp (object.Subject 4294967295) r.1) (privilege_cmp privilege.AttrView r.2) (holder_cmp (holder.Group 4294967295) r.3) (high_object r.1 s.0) (high_privilege r.2) (high_holder r.3 s.1)))

grants_at : (date : ℕ) (k : GrantKey) (rs : List Dated) → AllByRecursion Small rs → list_any (is_at (grant_cmp k)) (map grant_at (filter (range_at date) rs)) ≡ list_any (is_at (dated_grant_cmp (date, k.0, k.1, k.2))) rs
grants_at date k [] h = refl
grants_at date k (r ∷ rs) h =
    let rest = grants_at date k rs h.1 in
    rw (in_range_at date r h.0, at_dated (date, k.0, k.1, k.2) r) (elim (cases_Bool (r.0 == date)) [
      | inl t ↦ rw (t, rest) refl
      | inr f ↦ rw (f, rest) refl
    ])

equal_self : (a : ℕ) → nat_cmp a a ≡ Equal
equal_self a = grind (arith, nat_tests)

key_less : (r s : Dated) → r.0 ≡ s.0 → dated_grant_cmp r s ≡ Less → grant_cmp (grant_at r) (grant_at s) ≡ Less
key_less r s same h =
    let parts : ordering_then (nat_cmp r.0 s.0) (grant_cmp (grant_at r) (grant_at s)) ≡ Less = sym (dated_is r s) ∙ h in
    rw (same, equal_self s.0) at parts

later_grants : (date : ℕ) (r : Dated) (rs : List Dated) → r.0 ≡ date → AllByRecursion Small rs → AllByRecursion (λ q. dated_grant_cmp r q ≡ Less) rs → AllByRecursion (λ l. grant_cmp (grant_at r) l ≡ Less) (map grant_at (filter (range_at date) rs))
later_grants date r [] e h l = tt
later_grants date r (s ∷ rs) e h l =
    let rest = later_grants date r rs e h.1 l.1 in
    rw (in_range_at date s h.0) (elim (cases_Bool (s.0 == date)) [
      | inl t ↦ rw t (key_less r s (e ∙ sym (eqb-true s.0 date t)) l.0, rest)
      | inr f ↦ rw f rest
    ])

grants_ordered : (date : ℕ) (rs : List Dated) → AllByRecursion Small rs → IsStrictlySortedBy dated_grant_cmp rs → IsStrictlySortedBy grant_cmp (map grant_at (filter (range_at date) rs))
unfolding IsStrictlySortedBy
grants_ordered date [] h s = tt
grants_ordered date (r ∷ rs) h s =
    let rest = grants_ordered date rs h.1 s.1 in
    rw (in_range_at date r h.0) (elim (cases_Bool (r.0 == date)) [
      | inl t ↦ rw t (later_grants date r rs (eqb-true r.0 date t) h.1 s.0, rest)
      | inr f ↦ rw f rest
    ])

pub are_dated : (set : DatedGrants) (date : ℕ) (keys : List GrantKey) (rs : List Dated) → keys ≡ map grant_at rs → rs ≡ filter (range_at date) set.grants.keys → IsStrictlySortedBy dated_grant_cmp set.grants.keys → AreDatedGrants set date keys
are_dated set date keys rs a b s =
    let all = recursion_from_All Small set.grants.keys set.are_small in
    let are : keys ≡ map grant_at (filter (range_at date) set.grants.keys) = a ∙ ap (λ qs. map grant_at qs) b in
    record {
      ordered = rw are (grants_ordered date set.grants.keys all s);
      same = λ k. rw are (grants_at date k set.grants.keys all);
    }
