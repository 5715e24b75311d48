-- Grants in order: the order of the types and the order of the holders' places are one, and who is among the holders is who has a grant.
use Rattle.std.proofs.Common.{◌≡◌, ◌==◌, ◌&&◌, ◌||◌, ℕ, List, [], ◌∷◌, Bool, true, false, arith, refl, sym, ap, ◌∙◌, inl, inr, eqb-true}
use Rattle.std.proofs.lemmas.Bool.{and_parts, or_cases}
use Rattle.std.proofs.lemmas.Bool.Decides.{nat_tests}
use Rattle.std.proofs.lemmas.Grind.{common_steps}
use Rattle.std.specs.BTreeSet.{insert_key}
use Rattle.std.specs.List.{list_any, AllByRecursion}
use Rattle.std.specs.List.Sorted.{IsStrictlySortedBy}
use Rattle.std.specs.Ordering.{nat_cmp, ordering_then, ordering_reverse, is_eq}
use Rattle.std.specs.declared.cmp.Ordering.{Ordering}
use Rattle.std.specs.declared.cmp.Ordering.TheVariants.{Less, Equal, Greater}
use Rattle.reg_base.specs.declared.privilege.Privilege.{Privilege}
use Rattle.reg_base.specs.declared.privilege.Privilege.TheVariants.{Admin, Update, Read, View, Optin, Optout, GroupAttrRead, GroupAttrUpdate, StemAdmin, Create, StemAttrRead, StemAttrUpdate, AttrAdmin, AttrUpdate, AttrRead, AttrView}
use Rattle.reg_terms.specs.declared.kinds.Object.{Object}
use Rattle.reg_terms.specs.declared.kinds.Holder.{Holder}
use Rattle.reg_terms.specs.declared.kinds.Holder.TheVariants.{Everyone, Person, Group}
use Rattle.reg_terms.specs.Privileges.{code, all_privileges}
use Rattle.reg_facts.specs.Lists.{Lists}
use Rattle.reg_pit.specs.Grants.{privilege_cmp, holder_cmp, held_cmp, has_grant}
use Rattle.reg_priv.specs.Filling.{is_among, same_grant}
use Rattle.reg_priv.specs.Grants.{Grant, grants}
use Rattle.reg_priv.specs.Holders.{kind_of, id_of, grant_cmp, ordered_into, holders}
use Rattle.reg_priv.proofs.Anys.{any_same}
use Rattle.reg_priv.proofs.Ordering.{in_put, put_sorted, one_list}
use Rattle.reg_priv.proofs.Placed.{grant_total, one_place}

-- ---- what a test says of all privileges it says of each

abbrev all_pass : (Privilege → Bool) → List Privilege → Bool
all_pass test [] = true
all_pass test (p ∷ ps) = test p && all_pass test ps

is_coded : (p : Privilege) → list_any (λ q. code q == code p) all_privileges ≡ true
is_coded Admin = refl
is_coded Update = refl
is_coded Read = refl
is_coded View = refl
is_coded Optin = refl
is_coded Optout = refl
is_coded GroupAttrRead = refl
is_coded GroupAttrUpdate = refl
is_coded StemAdmin = refl
is_coded Create = refl
is_coded StemAttrRead = refl
is_coded StemAttrUpdate = refl
is_coded AttrAdmin = refl
is_coded AttrUpdate = refl
is_coded AttrRead = refl
is_coded AttrView = refl

same_number : (a b : ℕ) → a ≡ b → nat_cmp a b ≡ Equal
same_number a b e = grind (arith, nat_tests, common_steps, e)

one_code : (p q : Privilege) → code p ≡ code q → p ≡ q
one_code p q e = ap (λ (g : Grant). g.0) (one_place (p, Everyone) (q, Everyone) (rw (same_number (code p) (code q) e) refl))

of_those : (test : Privilege → Bool) (ps : List Privilege) (p : Privilege) → list_any (λ q. code q == code p) ps ≡ true → all_pass test ps ≡ true → test p ≡ true
of_those test [] p h all = cc
of_those test (q ∷ ps) p h all =
    let both = and_parts (test q) (all_pass test ps) all in
    elim (or_cases (code q == code p) (list_any (λ q. code q == code p) ps) h) [
      | inl one ↦ rw (← one_code q p (eqb-true (code q) (code p) one)) both.0
      | inr more ↦ of_those test ps p more both.1
    ]

of_each : (test : Privilege → Bool) (p : Privilege) → all_pass test all_privileges ≡ true → test p ≡ true
of_each test p all = of_those test all_privileges p (is_coded p) all

-- ---- the order of privileges is that of their codes

abbrev same_answer : Ordering → Ordering → Bool
same_answer Less Less = true
same_answer Equal Equal = true
same_answer Greater Greater = true
same_answer _ _ = false

one_answer : (a b : Ordering) → same_answer a b ≡ true → a ≡ b
one_answer Less Less h = refl
one_answer Less Equal h = cc
one_answer Less Greater h = cc
one_answer Equal Less h = cc
one_answer Equal Equal h = refl
one_answer Equal Greater h = cc
one_answer Greater Less h = cc
one_answer Greater Equal h = cc
one_answer Greater Greater h = refl

abbrev agree : Privilege → Privilege → Bool
agree a b = same_answer (privilege_cmp a b) (nat_cmp (code a) (code b))

all_agree : all_pass (λ a. all_pass (agree a) all_privileges) all_privileges ≡ true
all_agree = refl

privilege_agrees : (a b : Privilege) → privilege_cmp a b ≡ nat_cmp (code a) (code b)
privilege_agrees a b = one_answer (privilege_cmp a b) (nat_cmp (code a) (code b)) (of_each (agree a) b (of_each (λ x. all_pass (agree x) all_privileges) a all_agree))

-- ---- that of holders is by kind and number

holder_agrees : (h j : Holder) → holder_cmp h j ≡ ordering_then (nat_cmp (kind_of h) (kind_of j)) (nat_cmp (id_of h) (id_of j))
holder_agrees Everyone Everyone = refl
holder_agrees Everyone (Person s) = refl
holder_agrees Everyone (Group g) = refl
holder_agrees (Person x) Everyone = refl
holder_agrees (Person x) (Person s) = refl
holder_agrees (Person x) (Group g) = refl
holder_agrees (Group x) Everyone = refl
holder_agrees (Group x) (Person s) = refl
holder_agrees (Group x) (Group g) = refl

then_then : (a b c : Ordering) → ordering_then a (ordering_then b c) ≡ ordering_then (ordering_then a b) c
then_then Less b c = refl
then_then Equal b c = refl
then_then Greater b c = refl

held_agrees : (a b : Grant) → held_cmp a b ≡ grant_cmp a b
held_agrees (p, h) (q, j) = rw (privilege_agrees p q, holder_agrees h j) (then_then (nat_cmp (code p) (code q)) (nat_cmp (kind_of h) (kind_of j)) (nat_cmp (id_of h) (id_of j)))

-- ---- who has a grant

both_equal : (a b : Ordering) → is_eq (ordering_then a b) ≡ (is_eq a && is_eq b)
both_equal Less b = refl
both_equal Equal b = refl
both_equal Greater b = refl

turned_equal : (a : Ordering) → is_eq (ordering_reverse a) ≡ is_eq a
turned_equal Less = refl
turned_equal Equal = refl
turned_equal Greater = refl

pub is_that : (p : Privilege) (h : Holder) (g : Grant) → (is_eq (privilege_cmp g.0 p) && is_eq (holder_cmp g.1 h)) ≡ same_grant (p, h) g
is_that p h g =
    sym (both_equal (privilege_cmp g.0 p) (holder_cmp g.1 h))
    ∙ (ap is_eq (held_agrees g (p, h) ∙ grant_total.antisymm g (p, h)) ∙ turned_equal (grant_cmp (p, h) g))

pub has_among : (p : Privilege) (h : Holder) (gs : List Grant) → has_grant gs p h ≡ is_among (p, h) gs
has_among p h gs = any_same (λ (g : Grant). is_eq (privilege_cmp g.0 p) && is_eq (holder_cmp g.1 h)) (same_grant (p, h)) gs (is_that p h)

or_none : (a b : Bool) → b ≡ false → a ≡ (a || b)
or_none true b h = refl
or_none false b h = sym h

shifted : (s f r : Bool) → ((s || f) || r) ≡ (f || (s || r))
shifted true true r = refl
shifted true false r = refl
shifted false true r = refl
shifted false false r = refl

-- grants put in order are those before and these
ordered_in : (x : Grant) (found gs : List Grant) → is_among x (ordered_into found gs) ≡ (is_among x found || is_among x gs)
ordered_in x found [] = or_none (is_among x found) false refl
ordered_in x found (g ∷ gs) = ordered_in x (insert_key grant_cmp found g) gs ∙ (ap (λ b. b || is_among x gs) (in_put grant_total x g found) ∙ shifted (same_grant x g) (is_among x found) (is_among x gs))

among_holders : (o : Object) (f : Lists) (x : Grant) → is_among x (holders o f) ≡ is_among x (grants o f)
among_holders o f x = ordered_in x [] (grants o f)

pub has_holders : (o : Object) (f : Lists) (p : Privilege) (h : Holder) → has_grant (holders o f) p h ≡ has_grant (grants o f) p h
has_holders o f p h = has_among p h (holders o f) ∙ (among_holders o f (p, h) ∙ sym (has_among p h (grants o f)))

-- ---- a list in order that has the grants is that of the holders

ordered_sorted : (found gs : List Grant) → IsStrictlySortedBy grant_cmp found → IsStrictlySortedBy grant_cmp (ordered_into found gs)
ordered_sorted found [] h = h
ordered_sorted found (g ∷ gs) h = ordered_sorted (insert_key grant_cmp found g) gs (put_sorted grant_total g found h)

none_sorted : IsStrictlySortedBy grant_cmp []
unfolding IsStrictlySortedBy
none_sorted = tt

all_less : (x : Grant) (gs : List Grant) → AllByRecursion (λ g. held_cmp x g ≡ Less) gs → AllByRecursion (λ g. grant_cmp x g ≡ Less) gs
all_less x [] h = tt
all_less x (g ∷ gs) h = (sym (held_agrees x g) ∙ h.0, all_less x gs h.1)

sorted_so : (gs : List Grant) → IsStrictlySortedBy held_cmp gs → IsStrictlySortedBy grant_cmp gs
unfolding IsStrictlySortedBy
sorted_so [] h = tt
sorted_so (g ∷ gs) h = (all_less g gs h.0, sorted_so gs h.1)

among_too : (o : Object) (f : Lists) (list : List Grant) → ((p : Privilege) (h : Holder) → has_grant list p h ≡ has_grant (grants o f) p h) → (x : Grant) → is_among x list ≡ is_among x (holders o f)
among_too o f list has (p, h) = sym (has_among p h list) ∙ (has p h ∙ (has_among p h (grants o f) ∙ sym (among_holders o f (p, h))))

pub are_holders : (o : Object) (f : Lists) (list : List Grant) → IsStrictlySortedBy held_cmp list → ((p : Privilege) (h : Holder) → has_grant list p h ≡ has_grant (grants o f) p h) → list ≡ holders o f
are_holders o f list sorted has = one_list grant_total one_place list (holders o f) (sorted_so list sorted) (ordered_sorted [] (grants o f) none_sorted) (among_too o f list has)
