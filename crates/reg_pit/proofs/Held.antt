-- Privileges on objects as keys.
use Rattle.std.proofs.Common.{◌≡◌, ◌<◌, ◌≤◌, ◌^◌, ◌+◌, ◌&&◌, ◌||◌, ℕ, List, Bool, true, false, length, take, get_or, if◌then◌else◌, nat_le, arith, refl, sym, ap, ◌∙◌, inl, inr}
use Rattle.std.proofs.lemmas.Bool.{cases_Bool}
use Rattle.std.proofs.lemmas.Bool.Decides.{nat_tests}
use Rattle.std.proofs.lemmas.Grind.{common_steps}
use Rattle.std.proofs.lemmas.List.Folds.{list_any_more}
use Rattle.std.specs.Ordering.{ordering_then, ordering_reverse, is_eq, is_le, is_gt, eq_by_cmp}
use Rattle.std.specs.declared.cmp.Ordering.{Ordering}
use Rattle.std.specs.declared.cmp.Ordering.TheVariants.{Less, Equal, Greater}
use Rattle.reg_base.specs.declared.privilege.Privilege.{Privilege}
use Rattle.reg_base.specs.declared.privilege.Privilege.TheVariants as privilege
use Rattle.reg_terms.specs.Kinds.{same_object}
use Rattle.reg_terms.specs.declared.kinds.Object.{Object}
use Rattle.reg_terms.specs.declared.kinds.Holder.{Holder}
use Rattle.reg_terms.specs.declared.kinds.Holder.TheVariants as holder
use Rattle.reg_pit.specs.Spans.{covers}
use Rattle.reg_pit.specs.Runs.{spans_of, is_between}
use Rattle.reg_pit.specs.Grants.{object_cmp, privilege_cmp, holder_cmp, grant_cmp, is_granted, has_grant, same_held, Fits, AreHeld}
use Rattle.reg_pit.proofs.Objects.{object_tells, object_turned, object_tied}

-- ---- the keys of one object

everyone_first : (h : Holder) → is_le (holder_cmp holder.Everyone h) ≡ true
everyone_first holder.Everyone = refl
everyone_first (holder.Person s) = refl
everyone_first (holder.Group g) = refl

group_last : (h : Holder) (top : ℕ) → top ≡ 4294967295 → Fits h → is_le (holder_cmp h (holder.Group top)) ≡ true
group_last holder.Everyone top e f = refl
group_last (holder.Person s) top e f = refl
group_last (holder.Group g) top e f = let w : g < 4294967296 = f in rw e (grind (arith, nat_tests, common_steps, w))

least : (p : Privilege) (h : Holder) → is_le (ordering_then (privilege_cmp privilege.Admin p) (holder_cmp holder.Everyone h)) ≡ true
least privilege.Admin h = everyone_first h
least privilege.Update h = refl
least privilege.Read h = refl
least privilege.View h = refl
least privilege.Optin h = refl
least privilege.Optout h = refl
least privilege.GroupAttrRead h = refl
least privilege.GroupAttrUpdate h = refl
least privilege.StemAdmin h = refl
least privilege.Create h = refl
least privilege.StemAttrRead h = refl
least privilege.StemAttrUpdate h = refl
least privilege.AttrAdmin h = refl
least privilege.AttrUpdate h = refl
least privilege.AttrRead h = refl
least privilege.AttrView h = refl

greatest : (p : Privilege) (h : Holder) (top : ℕ) → top ≡ 4294967295 → Fits h → is_le (ordering_then (privilege_cmp p privilege.AttrView) (holder_cmp h (holder.Group top))) ≡ true
greatest privilege.Admin h top e f = refl
greatest privilege.Update h top e f = refl
greatest privilege.Read h top e f = refl
greatest privilege.View h top e f = refl
greatest privilege.Optin h top e f = refl
greatest privilege.Optout h top e f = refl
greatest privilege.GroupAttrRead h top e f = refl
greatest privilege.GroupAttrUpdate h top e f = refl
greatest privilege.StemAdmin h top e f = refl
greatest privilege.Create h top e f = refl
greatest privilege.StemAttrRead h top e f = refl
greatest privilege.StemAttrUpdate h top e f = refl
greatest privilege.AttrAdmin h top e f = refl
greatest privilege.AttrUpdate h top e f = refl
greatest privilege.AttrRead h top e f = refl
greatest privilege.AttrView h top e f = group_last h top e f

parts : (a b c d e : Ordering) → is_le (ordering_then b c) ≡ true → is_le (ordering_then d e) ≡ true → (is_le (ordering_then (ordering_then a b) c) && is_le (ordering_then (ordering_then (ordering_reverse a) d) e)) ≡ is_eq a
parts Less b c d e p q = refl
parts Equal b c d e p q = rw (p, q) refl
parts Greater b c d e p q = refl

pub of_object : (a : Object) (top : ℕ) (o : Object) (p : Privilege) (h : Holder) → top ≡ 4294967295 → Fits h → is_between grant_cmp (a, privilege.Admin, holder.Everyone) (a, privilege.AttrView, holder.Group top) (o, p, h) ≡ same_object o a
of_object a top o p h e f =
    rw (object_turned a o) (parts (object_cmp a o) (privilege_cmp privilege.Admin p) (holder_cmp holder.Everyone h) (privilege_cmp p privilege.AttrView) (holder_cmp h (holder.Group top)) (least p h) (greatest p h top e f)) ∙ object_tells a o

pub forward : (a : Object) (first last : Object × Privilege × Holder) (top : ℕ) → first ≡ (a, privilege.Admin, holder.Everyone) → last ≡ (a, privilege.AttrView, holder.Group top) → is_gt (grant_cmp first last) ≡ false
forward a first last top e f = rw (e, f, object_tied a) refl

-- ---- one more

all_equal : (a b c : Ordering) → is_eq (ordering_then (ordering_then a b) c) ≡ (is_eq a && (is_eq b && is_eq c))
all_equal Less b c = refl
all_equal Greater b c = refl
all_equal Equal Less c = refl
all_equal Equal Greater c = refl
all_equal Equal Equal c = refl

pub same_grant : (a o : Object) (p q : Privilege) (h j : Holder) → eq_by_cmp grant_cmp (a, p, h) (o, q, j) ≡ (same_object o a && (is_eq (privilege_cmp p q) && is_eq (holder_cmp h j)))
same_grant a o p q h j = all_equal (object_cmp a o) (privilege_cmp p q) (holder_cmp h j) ∙ rw (object_tells a o) refl

-- what is set of one key is said of its object, privilege and holder
pub one_set : (a o : Object) (p q : Privilege) (h j : Holder) (on : Bool) (at t : ℕ) (new old : Bool) → new ≡ (if eq_by_cmp grant_cmp (a, p, h) (o, q, j) && nat_le at t then on else old) → new ≡ (if (same_object o a && same_held (p, h) (q, j)) && nat_le at t then on else old)
one_set a o p q h j on at t new old e = e ∙ ap (λ b. if b && nat_le at t then on else old) (same_grant a o p q h j)

one_more : (s this seen le new mid old : Bool) → new ≡ (if (s && this) && le then true else mid) → mid ≡ (if (s && seen) && le then true else old) → new ≡ (if (s && (seen || this)) && le then true else old)
one_more false this seen le new mid old p q = p ∙ q
one_more true true true true new mid old p q = p
one_more true true true false new mid old p q = p ∙ q
one_more true true false true new mid old p q = p
one_more true true false false new mid old p q = p ∙ q
one_more true false true true new mid old p q = p ∙ q
one_more true false true false new mid old p q = p ∙ q
one_more true false false le new mid old p q = p ∙ q

pub grant_more : (a o : Object) (p q : Privilege) (h j : Holder) (grants : List (Privilege × Holder)) (i at t : ℕ) (new mid old : Bool) → i < length grants → (p, h) ≡ get_or grants i (p, h)
    → new ≡ (if eq_by_cmp grant_cmp (a, p, h) (o, q, j) && nat_le at t then true else mid) → mid ≡ (if (same_object o a && has_grant (take i grants) q j) && nat_le at t then true else old)
    → new ≡ (if (same_object o a && has_grant (take (i + 1) grants) q j) && nat_le at t then true else old)
grant_more a o p q h j grants i at t new mid old w e x y =
    let test : Privilege × Holder → Bool = λ g. is_eq (privilege_cmp g.0 q) && is_eq (holder_cmp g.1 j) in
    let more : has_grant (take (i + 1) grants) q j ≡ (has_grant (take i grants) q j || test (p, h)) = list_any_more test grants i (p, h) w ∙ rw (← e) refl in
    let set : new ≡ (if (same_object o a && test (p, h)) && nat_le at t then true else mid) = rw (same_grant a o p q h j) at x in
    rw more (one_more (same_object o a) (test (p, h)) (has_grant (take i grants) q j) (nat_le at t) new mid old set y)

pub none_yet : (s le on : Bool) → on ≡ (if (s && false) && le then true else on)
none_yet true le on = refl
none_yet false le on = refl

-- ---- no group of a greater number

other_holder : (h : Holder) (g : ℕ) → Fits h → 2 ^ 32 ≤ g → is_eq (holder_cmp h (holder.Group g)) ≡ false
other_holder holder.Everyone g f w = refl
other_holder (holder.Person s) g f w = refl
other_holder (holder.Group n) g f w = let k : n < 4294967296 = f in let l : 4294967296 ≤ g = w in grind (arith, nat_tests, common_steps, k, l)

never_true : (s b : Bool) → (s && (b && false)) ≡ false
never_true true true = refl
never_true true false = refl
never_true false b = refl

pub held_more : (a : Object) (p : Privilege) (h : Holder) (on : Bool) (at : ℕ) (old new : List (((Object × Privilege × Holder) × ℕ) × ℕ)) → Fits h → AreHeld old
    → ((k : Object × Privilege × Holder) (t : ℕ) → covers (spans_of grant_cmp new k) t ≡ (if eq_by_cmp grant_cmp (a, p, h) k && nat_le at t then on else covers (spans_of grant_cmp old k) t)) → AreHeld new
held_more a p h on at old new f was set o q g t w =
    set (o, q, holder.Group g) t ∙ rw (same_grant a o p q h (holder.Group g), other_holder h g f w, never_true (same_object o a) (is_eq (privilege_cmp p q))) (was o q g t w)

either_false : (b old : Bool) → old ≡ false → (if b then false else old) ≡ false
either_false true old e = refl
either_false false old e = e

pub held_less : (first last : Object × Privilege × Holder) (at : ℕ) (old new : List (((Object × Privilege × Holder) × ℕ) × ℕ)) → AreHeld old
    → ((k : Object × Privilege × Holder) (t : ℕ) → covers (spans_of grant_cmp new k) t ≡ (if is_between grant_cmp first last k && nat_le at t then false else covers (spans_of grant_cmp old k) t)) → AreHeld new
held_less first last at old new was cleared o q g t w = cleared (o, q, holder.Group g) t ∙ either_false (is_between grant_cmp first last (o, q, holder.Group g) && nat_le at t) _ (was o q g t w)

-- ---- all of them

in_all : (s has le new cleared old : Bool) → new ≡ (if (s && has) && le then true else cleared) → cleared ≡ (if s && le then false else old) → new ≡ (if s && le then has else old)
in_all false has le new cleared old p q = p ∙ q
in_all true true true new cleared old p q = p
in_all true true false new cleared old p q = p ∙ q
in_all true false true new cleared old p q = p ∙ q
in_all true false false new cleared old p q = p ∙ q

none_of_all : (s has le new cleared old : Bool) → new ≡ (if (s && has) && le then true else cleared) → new ≡ false → old ≡ false → new ≡ (if s && le then has else old)
none_of_all false has le new cleared old p n e = n ∙ sym e
none_of_all true true true new cleared old p n e = p
none_of_all true true false new cleared old p n e = n ∙ sym e
none_of_all true false true new cleared old p n e = n
none_of_all true false false new cleared old p n e = n ∙ sym e

module _ (a : Object) (first last : Object × Privilege × Holder) (top : ℕ) (first_is : first ≡ (a, privilege.Admin, holder.Everyone)) (last_is : last ≡ (a, privilege.AttrView, holder.Group top)) (top_is : top ≡ 4294967295)
    (o : Object) (p : Privilege) (has : Bool) (at t : ℕ) (old cleared new : List (((Object × Privilege × Holder) × ℕ) × ℕ)) where
  fitting : (h : Holder) → Fits h → is_granted cleared o p h t ≡ (if is_between grant_cmp first last (o, p, h) && nat_le at t then false else is_granted old o p h t)
      → is_granted new o p h t ≡ (if (same_object o a && has) && nat_le at t then true else is_granted cleared o p h t) → is_granted new o p h t ≡ (if same_object o a && nat_le at t then has else is_granted old o p h t)
  fitting h f c n = in_all (same_object o a) has (nat_le at t) _ _ _ n (c ∙ rw (first_is, last_is, of_object a top o p h top_is f) refl)

  pub all_noted : (h : Holder) → AreHeld old → AreHeld new → is_granted cleared o p h t ≡ (if is_between grant_cmp first last (o, p, h) && nat_le at t then false else is_granted old o p h t)
      → is_granted new o p h t ≡ (if (same_object o a && has) && nat_le at t then true else is_granted cleared o p h t) → is_granted new o p h t ≡ (if same_object o a && nat_le at t then has else is_granted old o p h t)
  all_noted holder.Everyone b d c n = fitting holder.Everyone tt c n
  all_noted (holder.Person s) b d c n = fitting (holder.Person s) tt c n
  all_noted (holder.Group g) b d c n = elim (cases_Bool (nat_le 4294967296 g)) [
    | inl y ↦ let w : 2 ^ 32 ≤ g = grind (arith, nat_tests, y) in none_of_all (same_object o a) has (nat_le at t) _ _ _ n (d o p g t w) (b o p g t w)
    | inr y ↦ let w : g < 2 ^ 32 = grind (arith, nat_tests, y) in fitting (holder.Group g) w c n
  ]
