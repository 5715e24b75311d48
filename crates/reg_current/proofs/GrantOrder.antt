-- The keys of grants in order: equal keys are one.
use Rattle.std.proofs.Common.{◌≡◌, ◌==◌, ◌&&◌, ◌||◌, ℕ, List, [], ◌∷◌, Bool, true, false, Option, Some, None, arith, refl, sym, ap, ◌∙◌, inl, inr, subst}
use Rattle.std.proofs.lemmas.Bool.{and_parts, or_cases, eqb-true}
use Rattle.std.proofs.lemmas.Bool.Decides.{nat_tests}
use Rattle.std.proofs.lemmas.Grind.{common_steps}
use Rattle.std.specs.List.{list_any}
use Rattle.std.specs.Ordering.{nat_cmp, ordering_then}
use Rattle.std.specs.declared.cmp.Ordering.{Ordering}
use Rattle.std.specs.declared.cmp.Ordering.TheVariants.{Less, Equal, Greater}
use Rattle.reg_base.specs.declared.privilege.Privilege.{Privilege}
use Rattle.reg_base.specs.declared.privilege.Privilege.TheVariants.{Admin, Update, Read, View, Optin, Optout, GroupAttrRead, GroupAttrUpdate, StemAdmin, Create, StemAttrRead, StemAttrUpdate, AttrAdmin, AttrUpdate, AttrRead, AttrView}
use Rattle.reg_base.specs.contracts.privilege.PrivilegeOrd.TheImpl as privilege_ord
use Rattle.reg_terms.specs.contracts.kinds.HolderOrd.TheImpl as holder_ord
use Rattle.reg_terms.specs.contracts.kinds.ObjectOrd.TheImpl as object_ord
use Rattle.reg_terms.specs.declared.kinds.Holder.{Holder}
use Rattle.reg_terms.specs.declared.kinds.Holder.TheVariants as holder
use Rattle.reg_terms.specs.declared.kinds.Object.{Object}
use Rattle.reg_terms.specs.declared.kinds.Object.TheVariants as object
use Rattle.reg_terms.specs.Privileges.{code, privilege_coded, all_privileges}
use Rattle.reg_current.specs.Dates.{GrantKey, grant_cmp}

-- ---- privileges by code

coded : (p : Privilege) → privilege_coded (code p) ≡ Some p
unfolding privilege_coded
coded Admin = refl
coded Update = refl
coded Read = refl
coded View = refl
coded Optin = refl
coded Optout = refl
coded GroupAttrRead = refl
coded GroupAttrUpdate = refl
coded StemAdmin = refl
coded Create = refl
coded StemAttrRead = refl
coded StemAttrUpdate = refl
coded AttrAdmin = refl
coded AttrUpdate = refl
coded AttrRead = refl
coded AttrView = refl

some_is : (p q : Privilege) → Some p ≡ Some q → p ≡ q
some_is p q e = cc

pub privilege_is : (p q : Privilege) → code p ≡ code q → p ≡ q
privilege_is p q e = some_is p q (sym (coded p) ∙ (ap privilege_coded e ∙ coded q))

-- ---- the order of privileges is that of their codes

abbrev all_pass : (Privilege → Bool) → List Privilege → Bool
all_pass test [] = true
all_pass test (p ∷ ps) = test p && all_pass test ps

is_coded : (p : Privilege) → list_any (λ q. code q == code p) all_privileges ≡ true
is_coded Admin = refl
is_coded Update = refl
is_coded Read = refl
is_coded View = refl
is_coded Optin = refl
is_coded Optout = refl
is_coded GroupAttrRead = refl
is_coded GroupAttrUpdate = refl
is_coded StemAdmin = refl
is_coded Create = refl
is_coded StemAttrRead = refl
is_coded StemAttrUpdate = refl
is_coded AttrAdmin = refl
is_coded AttrUpdate = refl
is_coded AttrRead = refl
is_coded AttrView = refl

of_those : (test : Privilege → Bool) (ps : List Privilege) (p : Privilege) → list_any (λ q. code q == code p) ps ≡ true → all_pass test ps ≡ true → test p ≡ true
of_those test [] p h all = cc
of_those test (q ∷ ps) p h all =
    let both = and_parts (test q) (all_pass test ps) all in
    elim (or_cases (code q == code p) (list_any (λ q. code q == code p) ps) h) [
      | inl one ↦ rw (← privilege_is q p (eqb-true (code q) (code p) one)) both.0
      | inr more ↦ of_those test ps p more both.1
    ]

of_each : (test : Privilege → Bool) (p : Privilege) → all_pass test all_privileges ≡ true → test p ≡ true
of_each test p all = of_those test all_privileges p (is_coded p) all

abbrev same_answer : Ordering → Ordering → Bool
same_answer Less Less = true
same_answer Equal Equal = true
same_answer Greater Greater = true
same_answer _ _ = false

one_answer : (a b : Ordering) → same_answer a b ≡ true → a ≡ b
one_answer Less Less h = refl
one_answer Less Equal h = cc
one_answer Less Greater h = cc
one_answer Equal Less h = cc
one_answer Equal Equal h = refl
one_answer Equal Greater h = cc
one_answer Greater Less h = cc
one_answer Greater Equal h = cc
one_answer Greater Greater h = refl

abbrev agree : Privilege → Privilege → Bool
agree a b = same_answer ((privilege_ord.ghosts).cmp a b) (nat_cmp (code a) (code b))

all_agree : all_pass (λ a. all_pass (agree a) all_privileges) all_privileges ≡ true
all_agree = refl

pub privilege_agrees : (a b : Privilege) → (privilege_ord.ghosts).cmp a b ≡ nat_cmp (code a) (code b)
privilege_agrees a b = one_answer ((privilege_ord.ghosts).cmp a b) (nat_cmp (code a) (code b)) (of_each (agree a) b (of_each (λ x. all_pass (agree x) all_privileges) a all_agree))

-- ---- where two are equal they are one

number_equal : (a b : ℕ) → nat_cmp a b ≡ Equal → a ≡ b
number_equal a b e = grind (arith, nat_tests, common_steps, e)

object_equal : (a b : Object) → (object_ord.ghosts).cmp a b ≡ Equal → a ≡ b
object_equal (object.Folder a) (object.Folder b) e = ap (λ n. object.Folder n) (number_equal a b e)
object_equal (object.Folder a) (object.Group b) e = cc
object_equal (object.Folder a) (object.Def b) e = cc
object_equal (object.Folder a) (object.Attr b) e = cc
object_equal (object.Folder a) (object.Subject b) e = cc
object_equal (object.Group a) (object.Folder b) e = cc
object_equal (object.Group a) (object.Group b) e = ap (λ n. object.Group n) (number_equal a b e)
object_equal (object.Group a) (object.Def b) e = cc
object_equal (object.Group a) (object.Attr b) e = cc
object_equal (object.Group a) (object.Subject b) e = cc
object_equal (object.Def a) (object.Folder b) e = cc
object_equal (object.Def a) (object.Group b) e = cc
object_equal (object.Def a) (object.Def b) e = ap (λ n. object.Def n) (number_equal a b e)
object_equal (object.Def a) (object.Attr b) e = cc
object_equal (object.Def a) (object.Subject b) e = cc
object_equal (object.Attr a) (object.Folder b) e = cc
object_equal (object.Attr a) (object.Group b) e = cc
object_equal (object.Attr a) (object.Def b) e = cc
object_equal (object.Attr a) (object.Attr b) e = ap (λ n. object.Attr n) (number_equal a b e)
object_equal (object.Attr a) (object.Subject b) e = cc
object_equal (object.Subject a) (object.Folder b) e = cc
object_equal (object.Subject a) (object.Group b) e = cc
object_equal (object.Subject a) (object.Def b) e = cc
object_equal (object.Subject a) (object.Attr b) e = cc
object_equal (object.Subject a) (object.Subject b) e = ap (λ n. object.Subject n) (number_equal a b e)

holder_equal : (a b : Holder) → (holder_ord.ghosts).cmp a b ≡ Equal → a ≡ b
holder_equal holder.Everyone holder.Everyone e = refl
holder_equal holder.Everyone (holder.Person b) e = cc
holder_equal holder.Everyone (holder.Group b) e = cc
holder_equal (holder.Person a) holder.Everyone e = cc
holder_equal (holder.Person a) (holder.Person b) e = ap (λ n. holder.Person n) (number_equal a b e)
holder_equal (holder.Person a) (holder.Group b) e = cc
holder_equal (holder.Group a) holder.Everyone e = cc
holder_equal (holder.Group a) (holder.Person b) e = cc
holder_equal (holder.Group a) (holder.Group b) e = ap (λ n. holder.Group n) (number_equal a b e)

privilege_equal : (a b : Privilege) → (privilege_ord.ghosts).cmp a b ≡ Equal → a ≡ b
privilege_equal a b e = privilege_is a b (number_equal (code a) (code b) (sym (privilege_agrees a b) ∙ e))

both_equal : (x y : Ordering) → ordering_then x y ≡ Equal → (x ≡ Equal) × (y ≡ Equal)
both_equal Less y e = absurd (let clash : ⊥ = cc in clash)
both_equal Equal y e = (refl, e)
both_equal Greater y e = absurd (let clash : ⊥ = cc in clash)

pub key_equal : (a b : GrantKey) → grant_cmp a b ≡ Equal → b ≡ a
key_equal (o, p, h) (q, r, j) e =
    let last = both_equal (ordering_then ((object_ord.ghosts).cmp o q) ((privilege_ord.ghosts).cmp p r)) ((holder_ord.ghosts).cmp h j) e in
    let first = both_equal ((object_ord.ghosts).cmp o q) ((privilege_ord.ghosts).cmp p r) last.0 in
    rw (object_equal o q first.0, privilege_equal p r first.1, holder_equal h j last.1) refl
