-- All intervals of the keys from one to another, key by key.
use Rattle.std.proofs.Common.{◌≡◌, ◌<◌, ◌≤◌, ◌^◌, ◌==◌, ◌&&◌, ◌||◌, ◌++◌, ℕ, suc, List, [], ◌∷◌, Bool, true, false, map, filter, Option, Some, None, nat_lt, nat_le, if◌then◌else◌, arith, refl, sym, ◌∙◌, ap, inl, inr}
use Rattle.std.proofs.lemmas.Bool.{cases_Bool, eqb-true, and_parts}
use Rattle.std.proofs.Math.Bool.{or-true}
use Rattle.std.proofs.lemmas.Bool.Decides.{nat_tests}
use Rattle.std.proofs.lemmas.Grind.{common_steps}
use Rattle.std.proofs.lemmas.Cmp.{tied_itself, alike_right}
use Rattle.std.specs.Cmp.{IsTotalOrder}
use Rattle.std.specs.List.{list_any, AllByRecursion}
use Rattle.std.specs.List.Sorted.{IsStrictlySortedBy}
use Rattle.std.specs.Map.{keys_of}
use Rattle.std.specs.BTreeMap.Range.{range_contains, entries_between}
use Rattle.std.specs.Ordering.{nat_cmp, ordering_reverse, eq_by_cmp}
use Rattle.std.specs.declared.ops.Bound.TheVariants.{Included}
use Rattle.std.specs.declared.cmp.Ordering.{Ordering}
use Rattle.std.specs.declared.cmp.Ordering.TheVariants.{Less, Equal, Greater}
use Rattle.reg_pit.specs.Spans.{covers, has_moment}
use Rattle.reg_pit.specs.Runs.{never, span_of, place_cmp, runs_of, spans_of, RunsFrom, AreRuns, is_between, TiesAreOne, AreAllOn, keyed_spans}
use Rattle.reg_pit.specs.Members.{pair_cmp, are_on, second_spans}
use Rattle.reg_pit.proofs.Orders.{less, equal, greater, answer}
use Rattle.reg_pit.proofs.Between.{key_decides}
use Rattle.reg_pit.proofs.Pairs.{same_pair, between_one}

-- an interval with its key, as its place and its start say
abbrev pub keyed_row : {K : Type 0} → (K × ℕ) × ℕ → K × ℕ × Option ℕ
keyed_row e = (e.0.0, e.1, if nat_lt e.0.1 never then Some e.0.1 else None)

kept_one : {X : Type 0} (test : X → Bool) (x : X) (xs : List X) → test x ≡ true → filter test (x ∷ xs) ≡ x ∷ filter test xs
kept_one test x xs h = rw h refl

left_one : {X : Type 0} (test : X → Bool) (x : X) (xs : List X) → test x ≡ false → filter test (x ∷ xs) ≡ filter test xs
left_one test x xs h = rw h refl

one_row : {K : Type 0} (k j : K) (s e : ℕ) → j ≡ k → e ≤ never → (k, (span_of (e, s)).0, (span_of (e, s)).1) ≡ keyed_row ((j, e), s)
one_row k j s e same h = elim (cases_Bool (e == never)) [
  | inl y ↦ let z : nat_lt e never ≡ false = grind (arith, nat_tests, y) in rw (same, y, z) refl
  | inr y ↦ let z : nat_lt e never ≡ true = grind (arith, nat_tests, y, h) in rw (same, y, z) refl
]

module _ {K : Type 0} (R : K → K → Ordering) (o : IsTotalOrder R) where
  turned : (a b : K) (r : Ordering) → R a b ≡ r → R b a ≡ ordering_reverse r
  turned a b r h = o.antisymm b a ∙ ap ordering_reverse h

  -- a key that isn't listed adds nothing
  not_there : (e : (K × ℕ) × ℕ) (es : List ((K × ℕ) × ℕ)) (keys : List K) → list_any (eq_by_cmp R e.0.0) keys ≡ false → keyed_spans R (e ∷ es) keys ≡ keyed_spans R es keys
  not_there e es [] h = refl
  not_there e es (k ∷ keys) h = elim (answer (R e.0.0 k)) [
    | less b ↦ rw (turned e.0.0 k Less b, not_there e es keys (rw b at h)) refl
    | greater b ↦ rw (turned e.0.0 k Greater b, not_there e es keys (rw b at h)) refl
    | equal b ↦ let j : true ≡ false = rw b at h in cc
  ]

  -- keys below all places have no intervals
  none_of : (k : K) (place : K × ℕ) (es : List ((K × ℕ) × ℕ)) → R k place.0 ≡ Less → AllByRecursion (λ q. place_cmp R place q ≡ Less) (keys_of es) → runs_of R k es ≡ []
  none_of k place [] h a = refl
  none_of k place (x ∷ es) h a = elim (answer (R place.0 x.0.0)) [
    | less b ↦ rw (o.trans k place.0 x.0.0 h b) (none_of k place es h a.1)
    | equal b ↦ rw (below b) (none_of k place es h a.1)
    | greater b ↦ let j : Greater ≡ Less = rw b at a.0 in cc
  ]
    where
      below : R place.0 x.0.0 ≡ Equal → R k x.0.0 ≡ Less
      below b = rw (alike_right o place.0 x.0.0 k b) at h

  none_above : (a k : K) (keys : List K) → ((q : K) → R k q ≡ Less → R a q ≡ Less) → AllByRecursion (λ q. R k q ≡ Less) keys → list_any (eq_by_cmp R a) keys ≡ false
  none_above a k [] h s = refl
  none_above a k (q ∷ keys) h s = rw (h q s.0) (none_above a k keys h s.1)

  -- the first interval stands first among those of the listed keys
  stands_first : (e : (K × ℕ) × ℕ) (es : List ((K × ℕ) × ℕ)) (keys : List K) → e.0.1 ≤ never → TiesAreOne R → AllByRecursion (λ q. place_cmp R e.0 q ≡ Less) (keys_of es) → IsStrictlySortedBy R keys
      → list_any (eq_by_cmp R e.0.0) keys ≡ true → keyed_spans R (e ∷ es) keys ≡ keyed_row e ∷ keyed_spans R es keys
  unfolding IsStrictlySortedBy
  stands_first e es [] w ties a s h = cc
  stands_first e es (k ∷ keys) w ties a s h = elim (answer (R e.0.0 k)) [
    | equal b ↦
        let same : e.0.0 ≡ k = ties e.0.0 k (rw b refl) in
        let none : list_any (eq_by_cmp R e.0.0) keys ≡ false = none_above e.0.0 k keys (λ q l. o.congr e.0.0 k q b ∙ l) s.0 in
        rw (turned e.0.0 k Equal b, not_there e es keys none) (ap (λ row. row ∷ (map (λ (span : ℕ × Option ℕ). (k, span.0, span.1)) (spans_of R es k) ++ keyed_spans R es keys)) (one_row k e.0.0 e.1 e.0.1 same w))
    | greater b ↦
        let before : R k e.0.0 ≡ Less = turned e.0.0 k Greater b in
        rw (before, none_of k e.0 es before a, stands_first e es keys w ties a s.1 (rw b at h)) refl
    | less b ↦
        let none : list_any (eq_by_cmp R e.0.0) keys ≡ false = none_above e.0.0 k keys (λ q l. o.trans e.0.0 k q b l) s.0 in
        let j : false ≡ true = sym none ∙ (rw b at h) in cc
  ]

  none_listed : (keys : List K) → keyed_spans R [] keys ≡ []
  none_listed [] = refl
  none_listed (k ∷ keys) = none_listed keys

  -- an interval has its start
  covered : (e : (K × ℕ) × ℕ) (es : List ((K × ℕ) × ℕ)) → e.1 < e.0.1 → covers (spans_of R (e ∷ es) e.0.0) e.1 ≡ true
  covered e es h =
      let here : has_moment e.1 (span_of (e.0.1, e.1)) ≡ true = elim (cases_Bool (e.0.1 == never)) [
        | inl y ↦ rw y (grind (arith, nat_tests, common_steps))
        | inr y ↦ rw y (grind (arith, nat_tests, common_steps, h))
      ] in
      rw (tied_itself o e.0.0, here) refl

  covered_more : (k : K) (t : ℕ) (e : (K × ℕ) × ℕ) (es : List ((K × ℕ) × ℕ)) → covers (spans_of R es k) t ≡ true → covers (spans_of R (e ∷ es) k) t ≡ true
  covered_more k t e es h = elim (answer (R k e.0.0)) [
    | less b ↦ rw b h
    | greater b ↦ rw b h
    | equal b ↦ rw (b, h) (or-true (has_moment t (span_of (e.0.1, e.1))))
  ]

  fewer : (k : K) (x : (K × ℕ) × ℕ) (es : List ((K × ℕ) × ℕ)) → RunsFrom 0 (runs_of R k (x ∷ es)) → RunsFrom 0 (runs_of R k es)
  fewer k x es r = elim (answer (R k x.0.0)) [
    | less a ↦ rw a at r
    | greater a ↦ rw a at r
    | equal a ↦ let s = rw a at r in from_zero (suc x.0.1) (runs_of R k es) s.3
  ]
    where
      from_zero : (m : ℕ) (runs : List (ℕ × ℕ)) → RunsFrom m runs → RunsFrom 0 runs
      from_zero m [] r = tt
      from_zero m (run ∷ runs) r = (omega arith, r.1, r.2, r.3)

  keyed : (from to : K) (keys : List K) → TiesAreOne R → IsStrictlySortedBy R keys → (es : List ((K × ℕ) × ℕ)) → IsStrictlySortedBy (place_cmp R) (keys_of es) → ((k : K) → RunsFrom 0 (runs_of R k es)) → AreAllOn R from to es keys
      → map keyed_row (entries_between (place_cmp R) (Included (from, 0)) (Included (to, never)) es) ≡ keyed_spans R es keys
  unfolding IsStrictlySortedBy
  keyed from to keys ties sorted [] h r all = sym (none_listed keys)
  keyed from to keys ties sorted (e ∷ es) h r all =
      let s = rw (tied_itself o e.0.0) at (r e.0.0) in
      let within : range_contains (place_cmp R) (Included (from, 0)) (Included (to, never)) e.0 ≡ is_between R from to e.0.0 = key_decides R o from to e.0.0 e.0.1 s.2 in
      let told : list_any (eq_by_cmp R e.0.0) keys ≡ is_between R from to e.0.0 = all e.0.0 e.1 (covered e es s.1) in
      let rest = keyed from to keys ties sorted es h.1 (λ k. fewer k e es (r k)) (λ k t c. all k t (covered_more k t e es c)) in
      elim (cases_Bool (is_between R from to e.0.0)) [
        | inl y ↦
            ap (λ x. map keyed_row x) (kept_one (λ (x : (K × ℕ) × ℕ). range_contains (place_cmp R) (Included (from, 0)) (Included (to, never)) x.0) e es (within ∙ y))
            ∙ (ap (λ rows. keyed_row e ∷ rows) rest ∙ sym (stands_first e es keys s.2 ties h.0 sorted (told ∙ y)))
        | inr y ↦
            ap (λ x. map keyed_row x) (left_one (λ (x : (K × ℕ) × ℕ). range_contains (place_cmp R) (Included (from, 0)) (Included (to, never)) x.0) e es (within ∙ y))
            ∙ (rest ∙ sym (not_there e es keys (told ∙ y)))
      ]

  pub keyed_there : (from to : K) (low top : ℕ) (es part : List ((K × ℕ) × ℕ)) → AreRuns R es → part ≡ entries_between (place_cmp R) (Included (from, low)) (Included (to, top)) es → low ≡ 0 → top ≡ never
      → TiesAreOne R → (keys : List K) → IsStrictlySortedBy R keys → AreAllOn R from to es keys → map keyed_row part ≡ keyed_spans R es keys
  keyed_there from to low top es part kept is first open_ ties keys sorted all = rw (is, first, open_) (keyed from to keys ties sorted es kept.ordered kept.each all)

-- ---- pairs with one first number

pub pair_ties : TiesAreOne pair_cmp
pair_ties (a, b) (x, y) h =
    let both = and_parts (x == a) (y == b) (sym (same_pair a b x y) ∙ h) in
    rw (eqb-true x a both.0, eqb-true y b both.1) refl

-- a row without the first number
abbrev pub second_row : (ℕ × ℕ) × ℕ × Option ℕ → ℕ × ℕ × Option ℕ
second_row row = (row.0.1, row.1, row.2)

module _ (g : ℕ) where
  abbrev pub with_first : List ℕ → List (ℕ × ℕ)
  with_first ids = map (λ (s : ℕ). (g, s)) ids

  one_second : (s : ℕ) (spans : List (ℕ × Option ℕ)) (rows : List ((ℕ × ℕ) × ℕ × Option ℕ))
      → map second_row (map (λ (span : ℕ × Option ℕ). ((g, s), span.0, span.1)) spans ++ rows) ≡ map (λ (span : ℕ × Option ℕ). (s, span.0, span.1)) spans ++ map second_row rows
  one_second s [] rows = refl
  one_second s (span ∷ spans) rows = ap (λ more. (s, span.0, span.1) ∷ more) (one_second s spans rows)

  seconds : (es : List (((ℕ × ℕ) × ℕ) × ℕ)) (ids : List ℕ) → map second_row (keyed_spans pair_cmp es (with_first ids)) ≡ second_spans es g ids
  seconds es [] = refl
  seconds es (s ∷ ids) = one_second s (spans_of pair_cmp es (g, s)) (keyed_spans pair_cmp es (with_first ids)) ∙ ap (λ more. map (λ (span : ℕ × Option ℕ). (s, span.0, span.1)) (spans_of pair_cmp es (g, s)) ++ more) (seconds es ids)

  below : (s : ℕ) (ids : List ℕ) → AllByRecursion (λ n. nat_cmp s n ≡ Less) ids → AllByRecursion (λ q. pair_cmp (g, s) q ≡ Less) (with_first ids)
  below s [] h = tt
  below s (n ∷ ids) h = let k : nat_cmp s n ≡ Less = h.0 in (grind (arith, nat_tests, common_steps, k), below s ids h.1)

  sorted : (ids : List ℕ) → IsStrictlySortedBy nat_cmp ids → IsStrictlySortedBy pair_cmp (with_first ids)
  unfolding IsStrictlySortedBy
  sorted [] h = tt
  sorted (s ∷ ids) h = (below s ids h.0, sorted ids h.1)

  both_or : (b c d : Bool) → ((b && c) || (b && d)) ≡ (b && (c || d))
  both_or true c d = refl
  both_or false c d = refl

  none_and : (b : Bool) → false ≡ (b && false)
  none_and true = refl
  none_and false = refl

  found_in : (x s : ℕ) (ids : List ℕ) → list_any (eq_by_cmp pair_cmp (x, s)) (with_first ids) ≡ ((g == x) && list_any (λ (n : ℕ). n == s) ids)
  found_in x s [] = none_and (g == x)
  found_in x s (n ∷ ids) = rw (same_pair x s g n, found_in x s ids) (both_or (g == x) (n == s) (list_any (λ (n : ℕ). n == s) ids))

  module _ (pairs : List (((ℕ × ℕ) × ℕ) × ℕ)) (fits : (x y t : ℕ) → 2 ^ 32 ≤ y → are_on pairs x y t ≡ false) (ids : List ℕ) (told : (s t : ℕ) → are_on pairs g s t ≡ true → list_any (λ x. x == s) ids ≡ true) where
    decided : (x s t : ℕ) → are_on pairs x s t ≡ true → ((g == x) && list_any (λ (n : ℕ). n == s) ids) ≡ ((x == g) && nat_le s 4294967295)
    decided x s t h = elim (cases_Bool (x == g)) [
      | inl y ↦
          let same : x ≡ g = eqb-true x g y in
          let itself : (g == x) ≡ true = rw same (grind (arith, nat_tests)) in
          rw (y, itself, told s t (rw same at h)) (elim (cases_Bool (nat_le s 4294967295)) [
            | inl z ↦ rw z refl
            | inr z ↦ let large : 2 ^ 32 ≤ s = grind (arith, nat_tests, z) in let k : true ≡ false = sym h ∙ fits x s t large in cc
          ])
      | inr y ↦
          let other : (g == x) ≡ false = grind (arith, nat_tests, y) in
          rw (y, other) refl
    ]

    all_on : (low top : ℕ) → low ≡ 0 → top ≡ 4294967295 → AreAllOn pair_cmp (g, low) (g, top) pairs (with_first ids)
    all_on low top low_is top_is (x, s) t h = found_in x s ids ∙ (decided x s t h ∙ sym (rw (low_is, top_is) (between_one g 4294967295 x s)))

    -- what stands for the pairs stands for their second numbers
    pub second_rows : (low top : ℕ) (rows : List ((ℕ × ℕ) × ℕ × Option ℕ)) → low ≡ 0 → top ≡ 4294967295 → IsStrictlySortedBy nat_cmp ids
        → (TiesAreOne pair_cmp → (keys : List (ℕ × ℕ)) → IsStrictlySortedBy pair_cmp keys → AreAllOn pair_cmp (g, low) (g, top) pairs keys → rows ≡ keyed_spans pair_cmp pairs keys)
        → map second_row rows ≡ second_spans pairs g ids
    second_rows low top rows low_is top_is ascending each = ap (λ x. map second_row x) (each pair_ties (with_first ids) (sorted ids ascending) (all_on low top low_is top_is)) ∙ seconds pairs ids
