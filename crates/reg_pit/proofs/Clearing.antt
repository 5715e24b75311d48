-- Keys that are switched off one after another.
use Rattle.std.proofs.Common.{◌≡◌, ◌<◌, ◌+◌, ◌&&◌, ◌||◌, ℕ, List, Bool, true, false, Option, length, take, get_or, if◌then◌else◌, nat_le, arith, ◌∙◌, inl, inr}
use Rattle.std.proofs.lemmas.Bool.{cases_Bool}
use Rattle.std.proofs.lemmas.Bool.Decides.{nat_tests}
use Rattle.std.proofs.lemmas.Cmp.{eq_by_cmp_equiv}
use Rattle.std.proofs.lemmas.List.Folds.{list_any_more}
use Rattle.std.specs.Cmp.{IsTotalOrder}
use Rattle.std.specs.List.{list_any}
use Rattle.std.specs.Ordering.{eq_by_cmp}
use Rattle.std.specs.declared.cmp.Ordering.{Ordering}
use Rattle.reg_pit.specs.Spans.{covers, NoLater}
use Rattle.reg_pit.specs.Runs.{is_between}
use Rattle.reg_pit.proofs.Alone.{after_last}

one_off : (a b c new mid old : Bool) → new ≡ (if b && c then false else mid) → mid ≡ (if a && c then false else old) → new ≡ (if (a || b) && c then false else old)
one_off true true true new mid old p q = p
one_off true true false new mid old p q = p ∙ q
one_off true false true new mid old p q = p ∙ q
one_off true false false new mid old p q = p ∙ q
one_off false true true new mid old p q = p
one_off false true false new mid old p q = p ∙ q
one_off false false true new mid old p q = p ∙ q
one_off false false false new mid old p q = p ∙ q

-- of those between, each that was on is off now
all_off : (b c new : Bool) → new ≡ (if (b && c) && true then false else c) → new ≡ (if b && true then false else c)
all_off true true new h = h
all_off true false new h = h
all_off false c new h = h

earlier : (b c new old : Bool) → new ≡ (if (b && c) && false then false else old) → new ≡ (if b && false then false else old)
earlier true true new old h = h
earlier true false new old h = h
earlier false c new old h = h

module _ {K : Type 0} (R : K → K → Ordering) (o : IsTotalOrder R) where
  pub off_more : (k key : K) (keys : List K) (i at t : ℕ) (new mid old : Bool) → i < length keys → key ≡ get_or keys i key → new ≡ (if eq_by_cmp R key k && nat_le at t then false else mid)
      → mid ≡ (if list_any (eq_by_cmp R k) (take i keys) && nat_le at t then false else old) → new ≡ (if list_any (eq_by_cmp R k) (take (i + 1) keys) && nat_le at t then false else old)
  off_more k key keys i at t new mid old h e p q =
      let other : new ≡ (if eq_by_cmp R k key && nat_le at t then false else mid) = rw ((eq_by_cmp_equiv o).symm key k) at p in
      rw (list_any_more (eq_by_cmp R k) keys i key h, ← e) (one_off (list_any (eq_by_cmp R k) (take i keys)) (eq_by_cmp R k key) (nat_le at t) new mid old other q)

  pub cleared : (from to k : K) (keys : List K) (at t : ℕ) (spans : List (ℕ × Option ℕ)) (new : Bool) → list_any (eq_by_cmp R k) keys ≡ (is_between R from to k && covers spans at) → NoLater at spans
      → new ≡ (if list_any (eq_by_cmp R k) keys && nat_le at t then false else covers spans t) → new ≡ (if is_between R from to k && nat_le at t then false else covers spans t)
  cleared from to k keys at t spans new each last h =
      let was : new ≡ (if (is_between R from to k && covers spans at) && nat_le at t then false else covers spans t) = rw each at h in
      elim (cases_Bool (nat_le at t)) [
        | inl y ↦
            let stays : covers spans t ≡ covers spans at = after_last at t spans (grind (arith, nat_tests, y)) last in
            rw (y, stays) (all_off (is_between R from to k) (covers spans at) new (rw (y, stays) at was))
        | inr f ↦ rw f (earlier (is_between R from to k) (covers spans at) new (covers spans t) (rw f at was))
      ]
