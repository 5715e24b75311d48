-- Pairs of numbers as keys.
use Rattle.std.proofs.Common.{◌≡◌, ◌<◌, ◌≤◌, ◌^◌, ◌==◌, ◌&&◌, ◌||◌, ℕ, List, [], ◌∷◌, Bool, true, false, cond, map, if◌then◌else◌, nat_le, arith, refl, sym, ◌∙◌, inl, inr}
use Rattle.std.proofs.lemmas.Bool.{cases_Bool, and_parts, eqb-true, ne_eqb}
use Rattle.std.proofs.Math.Bool.{and_comm, or-true}
use Rattle.std.proofs.lemmas.Bool.Decides.{nat_tests}
use Rattle.std.proofs.lemmas.Grind.{common_steps}
use Rattle.std.specs.List.{list_any, AllByRecursion}
use Rattle.std.specs.List.Sorted.{IsStrictlySortedBy}
use Rattle.std.specs.Ordering.{nat_cmp, eq_by_cmp}
use Rattle.std.specs.declared.cmp.Ordering.TheVariants.{Less}
use Rattle.reg_pit.specs.Spans.{covers}
use Rattle.reg_pit.specs.Runs.{spans_of, is_between}
use Rattle.reg_pit.specs.Members.{pair_cmp, are_on, has_pair, Lists, AreKnown}

pub same_pair : (a b x y : ℕ) → eq_by_cmp pair_cmp (a, b) (x, y) ≡ ((x == a) && (y == b))
same_pair a b x y = grind (arith, nat_tests, common_steps)

pub pair_noted : (a b x y at t : ℕ) (on new old : Bool) → new ≡ (if eq_by_cmp pair_cmp (a, b) (x, y) && nat_le at t then on else old) → new ≡ (if ((x == a) && (y == b)) && nat_le at t then on else old)
pair_noted a b x y at t on new old h = h ∙ rw (same_pair a b x y) refl

-- ---- what is known the other way round

module _ (k : ℕ × ℕ) (old new : List (ℕ × ℕ)) (more : (q : ℕ × ℕ) → has_pair q new ≡ cond (eq_by_cmp pair_cmp k q) true (has_pair q old)) where
  pub known_now : has_pair k new ≡ true
  known_now = let itself : eq_by_cmp pair_cmp (k.0, k.1) (k.0, k.1) ≡ true = grind (arith, nat_tests, common_steps) in more k ∙ rw itself refl

  pub known_still : (q : ℕ × ℕ) → has_pair q old ≡ true → has_pair q new ≡ true
  known_still q h = more q ∙ (rw h (elim (eq_by_cmp pair_cmp k q) as (λ b. cond b true true ≡ true) [ true ↦ refl | false ↦ refl ]))

module _ (a b at : ℕ) (on : Bool) (pairs pairs_after : List (((ℕ × ℕ) × ℕ) × ℕ)) (reversed reversed_after : List (ℕ × ℕ)) (was : AreKnown pairs reversed)
    (set : (k : ℕ × ℕ) (t : ℕ) → covers (spans_of pair_cmp pairs_after k) t ≡ (if eq_by_cmp pair_cmp (a, b) k && nat_le at t then on else covers (spans_of pair_cmp pairs k) t)) where
  pub known_after : a < 2 ^ 32 → b < 2 ^ 32 → (on ≡ true → has_pair (b, a) reversed_after ≡ true) → ((q : ℕ × ℕ) → has_pair q reversed ≡ true → has_pair q reversed_after ≡ true) → AreKnown pairs_after reversed_after
  known_after a_fits b_fits here others = record {
    known = λ x y t h.
        let told = pair_noted a b x y at t on (are_on pairs_after x y t) (are_on pairs x y t) (set (x, y) t) in
        elim (cases_Bool (((x == a) && (y == b)) && nat_le at t)) [
          | inl e ↦
              let same = and_parts (x == a) (y == b) (and_parts ((x == a) && (y == b)) (nat_le at t) e).0 in
              let is_on : on ≡ true = sym (rw e at told) ∙ h in
              rw (eqb-true x a same.0, eqb-true y b same.1) (here is_on)
          | inr f ↦ others (y, x) (was.known x y t (sym (rw f at told) ∙ h))
        ];
    first = λ x y t h.
        let other : (x == a) ≡ false = ne_eqb x a (λ e. absurd (omega (arith, e, h, a_fits))) in
        set (x, y) t ∙ rw (same_pair a b x y, other) (was.first x y t h);
    second = λ x y t h.
        let other : (y == b) ≡ false = ne_eqb y b (λ e. absurd (omega (arith, e, h, b_fits))) in
        set (x, y) t ∙ rw (same_pair a b x y, and_comm (x == a) (y == b), other) (was.second x y t h);
  }

-- ---- those with one first number

pub between_one : (a top x y : ℕ) → is_between pair_cmp (a, 0) (a, top) (x, y) ≡ ((x == a) && nat_le y top)
between_one a top x y = grind (arith, nat_tests, common_steps)

module _ (a : ℕ) where
  all_first : (pairs : List (ℕ × ℕ)) → ((k : ℕ × ℕ) → list_any (eq_by_cmp pair_cmp k) pairs ≡ true → (k.0 == a) ≡ true) → AllByRecursion (λ (p : ℕ × ℕ). p.0 ≡ a) pairs
  all_first [] h = tt
  all_first (p ∷ pairs) h = (eqb-true p.0 a (h p (found p)), all_first pairs (λ k e. h k (rw e (or-true (eq_by_cmp pair_cmp k p)))))
    where
      found : (p : ℕ × ℕ) → (eq_by_cmp pair_cmp p p || list_any (eq_by_cmp pair_cmp p) pairs) ≡ true
      found (x, y) = let itself : eq_by_cmp pair_cmp (x, y) (x, y) ≡ true = grind (arith, nat_tests, common_steps) in rw itself refl

  below : (x : ℕ × ℕ) (pairs : List (ℕ × ℕ)) → x.0 ≡ a → AllByRecursion (λ (p : ℕ × ℕ). p.0 ≡ a) pairs → AllByRecursion (λ q. pair_cmp x q ≡ Less) pairs → AllByRecursion (λ n. nat_cmp x.1 n ≡ Less) (map (λ (p : ℕ × ℕ). p.1) pairs)
  below x [] e f h = tt
  below x (p ∷ pairs) e f h =
      let less : pair_cmp x p ≡ Less = h.0 in
      let same : p.0 ≡ a = f.0 in
      (grind (arith, nat_tests, common_steps, less, same, e), below x pairs e f.1 h.1)

  pub ascending : (pairs : List (ℕ × ℕ)) → AllByRecursion (λ (p : ℕ × ℕ). p.0 ≡ a) pairs → IsStrictlySortedBy pair_cmp pairs → IsStrictlySortedBy nat_cmp (map (λ (p : ℕ × ℕ). p.1) pairs)
  unfolding IsStrictlySortedBy
  ascending [] f h = tt
  ascending (p ∷ pairs) f h = (below p pairs f.0 f.1 h.0, ascending pairs f.1 h.1)

  found_by : (n : ℕ) (pairs : List (ℕ × ℕ)) → AllByRecursion (λ (p : ℕ × ℕ). p.0 ≡ a) pairs → list_any (λ (x : ℕ). x == n) (map (λ (p : ℕ × ℕ). p.1) pairs) ≡ list_any (eq_by_cmp pair_cmp (a, n)) pairs
  found_by n [] f = refl
  found_by n ((x, y) ∷ pairs) f =
      let same : eq_by_cmp pair_cmp (a, n) (x, y) ≡ (y == n) = same_pair a n x y ∙ (let one : (x == a) ≡ true = grind (arith, nat_tests, f.0) in rw one refl) in
      rw (same, found_by n pairs f.1) refl

  -- the second numbers, where those of more than 32 bits don't pass
  pub listed : (low top t : ℕ) (pairs : List (ℕ × ℕ)) (es : List (((ℕ × ℕ) × ℕ) × ℕ)) (test : ℕ → Bool) → low ≡ 0 → top ≡ 4294967295 → IsStrictlySortedBy pair_cmp pairs
      → ((k : ℕ × ℕ) → list_any (eq_by_cmp pair_cmp k) pairs ≡ (is_between pair_cmp (a, low) (a, top) k && covers (spans_of pair_cmp es k) t))
      → ((n : ℕ) → covers (spans_of pair_cmp es (a, n)) t ≡ test n) → ((n : ℕ) → 2 ^ 32 ≤ n → test n ≡ false) → Lists test (map (λ (p : ℕ × ℕ). p.1) pairs)
  listed low top t pairs es test low_is top_is sorted each is fits =
      let within : (x y : ℕ) → is_between pair_cmp (a, low) (a, top) (x, y) ≡ ((x == a) && nat_le y 4294967295) = λ x y. rw (low_is, top_is) (between_one a 4294967295 x y) in
      let firsts = all_first pairs (λ k e. of_between k _ _ (sym (each k) ∙ e) (within k.0 k.1)) in
      record {
        ascending = ascending pairs firsts sorted;
        each = λ n. found_by n pairs firsts ∙ (each (a, n) ∙ rw (within a n, is n) (passes n));
      }
    where
      of_between : (k : ℕ × ℕ) (b c : Bool) → (b && c) ≡ true → b ≡ ((k.0 == a) && nat_le k.1 4294967295) → (k.0 == a) ≡ true
      of_between k b c h e = grind (arith, nat_tests, common_steps, h, e)

      passes : (n : ℕ) → (((a == a) && nat_le n 4294967295) && test n) ≡ test n
      passes n =
          let itself : (a == a) ≡ true = grind (arith, nat_tests) in
          elim (cases_Bool (nat_le n 4294967295)) [
            | inl y ↦ rw (itself, y) refl
            | inr y ↦ let large : 2 ^ 32 ≤ n = grind (arith, nat_tests, y) in rw (itself, y, fits n large) refl
          ]
