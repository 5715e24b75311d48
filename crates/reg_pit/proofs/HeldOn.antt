-- The privileges on one object, in order.
use Rattle.std.proofs.Common.{◌≡◌, ◌≤◌, ◌^◌, ◌&&◌, ℕ, List, [], ◌∷◌, Bool, true, false, map, nat_le, arith, refl, sym, ◌∙◌, inl, inr}
use Rattle.std.proofs.lemmas.Bool.{cases_Bool, and_parts}
use Rattle.std.proofs.Math.Bool.{or-true}
use Rattle.std.proofs.lemmas.Bool.Decides.{nat_tests}
use Rattle.std.specs.List.{list_any, AllByRecursion}
use Rattle.std.specs.List.Sorted.{IsStrictlySortedBy}
use Rattle.std.specs.Ordering.{ordering_then, ordering_reverse, is_eq, is_le, eq_by_cmp}
use Rattle.std.specs.declared.cmp.Ordering.{Ordering}
use Rattle.std.specs.declared.cmp.Ordering.TheVariants.{Less, Equal, Greater}
use Rattle.reg_base.specs.declared.privilege.Privilege.{Privilege}
use Rattle.reg_base.specs.declared.privilege.Privilege.TheVariants as privilege
use Rattle.reg_terms.specs.Kinds.{same_object}
use Rattle.reg_terms.specs.declared.kinds.Object.{Object}
use Rattle.reg_terms.specs.declared.kinds.Holder.{Holder}
use Rattle.reg_terms.specs.declared.kinds.Holder.TheVariants as holder
use Rattle.reg_pit.specs.Spans.{covers}
use Rattle.reg_pit.specs.Runs.{spans_of, is_between}
use Rattle.reg_pit.specs.Grants.{object_cmp, privilege_cmp, holder_cmp, grant_cmp, held_cmp, is_granted, has_grant, Fits, AreHeld}
use Rattle.reg_pit.proofs.Objects.{object_tells, object_turned, object_tied, object_itself, object_same}
use Rattle.reg_pit.proofs.Held.{of_object, same_grant}

-- what lies between is of the object
between_equal : (a b c d e : Ordering) → (is_le (ordering_then (ordering_then a b) c) && is_le (ordering_then (ordering_then (ordering_reverse a) d) e)) ≡ true → is_eq a ≡ true
between_equal Less b c d e h = let k = and_parts (is_le Less) (is_le Greater) h in k.1
between_equal Equal b c d e h = refl
between_equal Greater b c d e h = cc

module _ (a : Object) (first last : Object × Privilege × Holder) (top : ℕ) (first_is : first ≡ (a, privilege.Admin, holder.Everyone)) (last_is : last ≡ (a, privilege.AttrView, holder.Group top)) where
  of_it : (k : Object × Privilege × Holder) → is_between grant_cmp first last k ≡ true → k.0 ≡ a
  of_it (o, p, h) e =
      let both = rw (first_is, last_is, object_turned a o) at e in
      object_same o a (sym (object_tells a o) ∙ between_equal (object_cmp a o) (privilege_cmp privilege.Admin p) (holder_cmp holder.Everyone h) (privilege_cmp p privilege.AttrView) (holder_cmp h (holder.Group top)) both)

  module _ (same : (x : Object × Privilege × Holder) → eq_by_cmp grant_cmp x x ≡ true) (turned : (x y : Object × Privilege × Holder) → eq_by_cmp grant_cmp x y ≡ eq_by_cmp grant_cmp y x) where
    all_of_it : (keys : List (Object × Privilege × Holder)) → ((k : Object × Privilege × Holder) → list_any (eq_by_cmp grant_cmp k) keys ≡ true → is_between grant_cmp first last k ≡ true) → AllByRecursion (λ (k : Object × Privilege × Holder). k.0 ≡ a) keys
    all_of_it [] h = tt
    all_of_it (k ∷ keys) h = (of_it k (h k (rw (same k) refl)), all_of_it keys (λ j e. h j (rw e (or-true (eq_by_cmp grant_cmp j k)))))

    -- without the object, which all have
    less_then : (b c : Ordering) → ordering_then (ordering_then Equal b) c ≡ Less → ordering_then b c ≡ Less
    less_then b c h = h

    one_less : (x y : Object × Privilege × Holder) → x.0 ≡ a → y.0 ≡ a → grant_cmp x y ≡ Less → held_cmp (x.1, x.2) (y.1, y.2) ≡ Less
    one_less (o, p, h) (q, r, j) e f less =
        let both : grant_cmp (a, p, h) (a, r, j) ≡ Less = rw (e, f) at less in
        less_then (privilege_cmp p r) (holder_cmp h j) (rw (object_tied a) at both)

    below : (x : Object × Privilege × Holder) (keys : List (Object × Privilege × Holder)) → x.0 ≡ a → AllByRecursion (λ (k : Object × Privilege × Holder). k.0 ≡ a) keys → AllByRecursion (λ k. grant_cmp x k ≡ Less) keys
        → AllByRecursion (λ g. held_cmp (x.1, x.2) g ≡ Less) (map (λ (k : Object × Privilege × Holder). (k.1, k.2)) keys)
    below x [] e f h = tt
    below x (k ∷ keys) e f h = (one_less x k e f.0 h.0, below x keys e f.1 h.1)

    in_order : (keys : List (Object × Privilege × Holder)) → AllByRecursion (λ (k : Object × Privilege × Holder). k.0 ≡ a) keys → IsStrictlySortedBy grant_cmp keys → IsStrictlySortedBy held_cmp (map (λ (k : Object × Privilege × Holder). (k.1, k.2)) keys)
    unfolding IsStrictlySortedBy
    in_order [] f h = tt
    in_order (k ∷ keys) f h = (below k keys f.0 f.1 h.0, in_order keys f.1 h.1)

    one_found : (p : Privilege) (h : Holder) (k : Object × Privilege × Holder) → k.0 ≡ a → (is_eq (privilege_cmp k.1 p) && is_eq (holder_cmp k.2 h)) ≡ eq_by_cmp grant_cmp (a, p, h) k
    one_found p h (o, q, j) e = sym (turned (a, p, h) (o, q, j) ∙ (same_grant o a q p j h ∙ (let whole : same_object a o ≡ true = rw e (object_itself a) in rw whole refl)))

    found_by : (p : Privilege) (h : Holder) (keys : List (Object × Privilege × Holder)) → AllByRecursion (λ (k : Object × Privilege × Holder). k.0 ≡ a) keys
        → has_grant (map (λ (k : Object × Privilege × Holder). (k.1, k.2)) keys) p h ≡ list_any (eq_by_cmp grant_cmp (a, p, h)) keys
    found_by p h [] f = refl
    found_by p h (k ∷ keys) f = rw (one_found p h k f.0, found_by p h keys f.1) refl

    module _ (top_is : top ≡ 4294967295) (t : ℕ) (keys : List (Object × Privilege × Holder)) (grants : List (((Object × Privilege × Holder) × ℕ) × ℕ)) (held : AreHeld grants)
        (each : (k : Object × Privilege × Holder) → list_any (eq_by_cmp grant_cmp k) keys ≡ (is_between grant_cmp first last k && covers (spans_of grant_cmp grants k) t)) where
      all_a : AllByRecursion (λ (k : Object × Privilege × Holder). k.0 ≡ a) keys
      all_a = all_of_it keys (λ k e. (and_parts (is_between grant_cmp first last k) (covers (spans_of grant_cmp grants k) t) (sym (each k) ∙ e)).0)

      pub held_in_order : IsStrictlySortedBy grant_cmp keys → IsStrictlySortedBy held_cmp (map (λ (k : Object × Privilege × Holder). (k.1, k.2)) keys)
      held_in_order sorted = in_order keys all_a sorted

      fitting : (p : Privilege) (h : Holder) → Fits h → (is_between grant_cmp first last (a, p, h) && is_granted grants a p h t) ≡ is_granted grants a p h t
      fitting p h f = rw (first_is, last_is, of_object a top a p h top_is f, object_itself a) refl

      none_of : (b c : Bool) → c ≡ false → (b && c) ≡ c
      none_of true c e = refl
      none_of false c e = sym e

      counted : (p : Privilege) (h : Holder) → (is_between grant_cmp first last (a, p, h) && is_granted grants a p h t) ≡ is_granted grants a p h t
      counted p holder.Everyone = fitting p holder.Everyone tt
      counted p (holder.Person s) = fitting p (holder.Person s) tt
      counted p (holder.Group g) = elim (cases_Bool (nat_le 4294967296 g)) [
        | inl y ↦ let w : 2 ^ 32 ≤ g = grind (arith, nat_tests, y) in none_of (is_between grant_cmp first last (a, p, holder.Group g)) _ (held a p g t w)
        | inr y ↦ let w : Fits (holder.Group g) = grind (arith, nat_tests, y) in fitting p (holder.Group g) w
      ]

      pub held_each : (p : Privilege) (h : Holder) → has_grant (map (λ (k : Object × Privilege × Holder). (k.1, k.2)) keys) p h ≡ is_granted grants a p h t
      held_each p h = found_by p h keys all_a ∙ (each (a, p, h) ∙ counted p h)
