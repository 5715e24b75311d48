-- The keys that are on, of those from one to another.
use Rattle.std.proofs.Common.{◌≡◌, ◌<◌, ◌≤◌, ◌==◌, ◌&&◌, ◌||◌, ℕ, suc, List, [], ◌∷◌, Bool, true, false, not, map, filter, nat_lt, nat_le, arith, refl, ◌∙◌, inl, inr}
use Rattle.std.proofs.lemmas.Bool.{cases_Bool, and_parts}
use Rattle.std.proofs.lemmas.Bool.Decides.{nat_tests}
use Rattle.std.proofs.lemmas.Grind.{common_steps}
use Rattle.std.proofs.lemmas.Cmp.{tied_itself, alike_right}
use Rattle.std.specs.Cmp.{IsTotalOrder}
use Rattle.std.specs.List.{list_any, AllByRecursion}
use Rattle.std.specs.List.Sorted.{IsStrictlySortedBy}
use Rattle.std.specs.Map.{keys_of}
use Rattle.std.specs.BTreeMap.Range.{range_contains, entries_between}
use Rattle.std.specs.Ordering.{nat_cmp, ordering_then, ordering_reverse, is_le, is_lt, eq_by_cmp}
use Rattle.std.specs.declared.ops.Bound.TheVariants.{Included}
use Rattle.std.specs.declared.cmp.Ordering.{Ordering}
use Rattle.std.specs.declared.cmp.Ordering.TheVariants.{Less, Equal, Greater}
use Rattle.reg_pit.specs.Spans.{covers, has_moment}
use Rattle.reg_pit.specs.Runs.{never, span_of, place_cmp, runs_of, spans_of, RunsFrom, AreRuns, is_between}
use Rattle.reg_pit.proofs.Orders.{less, equal, greater, answer}

-- whether an interval at its place has a moment
abbrev pub is_on : {K : Type 0} → ℕ → (K × ℕ) × ℕ → Bool
is_on t e = nat_le e.1 t && nat_lt t e.0.1

-- the key of an interval at its place
abbrev pub key_at : {K : Type 0} → (K × ℕ) × ℕ → K
key_at e = e.0.0

-- an interval that ends at `never` has no end
one_covers : (t s e : ℕ) → t < never → e ≤ never → has_moment t (span_of (e, s)) ≡ (nat_le s t && nat_lt t e)
one_covers t s e h k = elim (cases_Bool (e == never)) [
  | inl y ↦ rw y (grind (arith, nat_tests, common_steps, y))
  | inr y ↦ rw y refl
]

decides : (a b : Ordering) (end : ℕ) → end ≤ never → (is_le (ordering_then a (nat_cmp 0 end)) && not (is_lt (ordering_then b (nat_cmp never end)))) ≡ (is_le a && is_le (ordering_reverse b))
decides a b end h =
    let first : is_le (nat_cmp 0 end) ≡ true = grind (arith, nat_tests, common_steps) in
    let last : is_lt (nat_cmp never end) ≡ false = grind (arith, nat_tests, common_steps) in
    parts a b (nat_cmp 0 end) (nat_cmp never end) first last
  where
    parts : (a b c d : Ordering) → is_le c ≡ true → is_lt d ≡ false → (is_le (ordering_then a c) && not (is_lt (ordering_then b d))) ≡ (is_le a && is_le (ordering_reverse b))
    parts Less Less c d p q = refl
    parts Less Equal c d p q = rw q refl
    parts Less Greater c d p q = refl
    parts Equal Less c d p q = rw p refl
    parts Equal Equal c d p q = rw (p, q) refl
    parts Equal Greater c d p q = rw p refl
    parts Greater Less c d p q = refl
    parts Greater Equal c d p q = refl
    parts Greater Greater c d p q = refl

-- what a test finds among the values of those that pass two others
pub found_first : {X Y : Type 0} (p : Y → Bool) (f : X → Y) (q r : X → Bool) (x : X) (xs : List X)
    → list_any p (map f (filter q (filter r (x ∷ xs)))) ≡ ((r x && q x && p (f x)) || list_any p (map f (filter q (filter r xs))))
found_first p f q r x xs = elim (cases_Bool (r x)) [
  | inl y ↦ rw y (elim (cases_Bool (q x)) [ inl z ↦ rw z refl | inr z ↦ rw z refl ])
  | inr y ↦ rw y refl
]

skipped : (a b l : Bool) → ((a && b && false) || l) ≡ l
skipped true true l = refl
skipped true false l = refl
skipped false b l = refl

counted : (a b l m : Bool) → l ≡ (a && m) → ((a && b && true) || l) ≡ (a && (b || m))
counted true true l m h = refl
counted true false l m h = h
counted false b l m h = h

module _ {K : Type 0} (R : K → K → Ordering) (o : IsTotalOrder R) where
  -- where the bounds are the first and the last place of two keys, the key alone decides
  pub key_decides : (from to k : K) (end : ℕ) → end ≤ never → range_contains (place_cmp R) (Included (from, 0)) (Included (to, never)) (k, end) ≡ is_between R from to k
  key_decides from to k end h = rw (o.antisymm k to) (decides (R from k) (R to k) end h)

  pub alike_between : (from to k j : K) → R k j ≡ Equal → is_between R from to j ≡ is_between R from to k
  alike_between from to k j h = rw (alike_right o k j from h, o.congr k j to h) refl

  pub each_on : (from to k : K) (t n : ℕ) (es : List ((K × ℕ) × ℕ)) → t < never → RunsFrom n (runs_of R k es)
      → list_any (eq_by_cmp R k) (map key_at (filter (is_on t) (entries_between (place_cmp R) (Included (from, 0)) (Included (to, never)) es))) ≡ (is_between R from to k && covers (spans_of R es k) t)
  each_on from to k t n [] h r = elim (cases_Bool (is_between R from to k)) [ inl y ↦ rw y refl | inr y ↦ rw y refl ]
  each_on from to k t n (x ∷ es) h r =
      let within : K × ℕ → Bool = range_contains (place_cmp R) (Included (from, 0)) (Included (to, never)) in
      found_first (eq_by_cmp R k) key_at (is_on t) (λ (e : (K × ℕ) × ℕ). within e.0) x es ∙ elim (answer (R k x.0.0)) [
        | less a ↦ rw a (skipped (within x.0) (is_on t x) _ ∙ each_on from to k t n es h (rw a at r))
        | greater a ↦ rw a (skipped (within x.0) (is_on t x) _ ∙ each_on from to k t n es h (rw a at r))
        | equal a ↦
            let s = rw a at r in
            let same : within x.0 ≡ is_between R from to k = key_decides from to x.0.0 x.0.1 s.2 ∙ alike_between from to k x.0.0 a in
            rw (a, same, one_covers t x.1 x.0.1 h s.2) (counted (is_between R from to k) (is_on t x) _ _ (each_on from to k t (suc x.0.1) es h s.3))
      ]

  -- ---- in order

  weaken : (n m : ℕ) (runs : List (ℕ × ℕ)) → n ≤ m → RunsFrom m runs → RunsFrom n runs
  weaken n m [] h r = tt
  weaken n m (run ∷ runs) h r = (omega (arith, r.0), r.1, r.2, r.3)

  pub tail_runs : (n : ℕ) (k : K) (x : (K × ℕ) × ℕ) (es : List ((K × ℕ) × ℕ)) → RunsFrom n (runs_of R k (x ∷ es)) → RunsFrom n (runs_of R k es)
  tail_runs n k x es r = elim (answer (R k x.0.0)) [
    | less a ↦ rw a at r
    | greater a ↦ rw a at r
    | equal a ↦ let s = rw a at r in weaken n (suc x.0.1) (runs_of R k es) (omega (arith, s.0, s.1)) s.3
  ]

  -- behind an interval that has the moment, no other of its key has it
  later_on : (place : K × ℕ) (test : (K × ℕ) × ℕ → Bool) (t n : ℕ) (es : List ((K × ℕ) × ℕ)) → t < n → AllByRecursion (λ q. place_cmp R place q ≡ Less) (keys_of es) → RunsFrom n (runs_of R place.0 es)
      → AllByRecursion (λ q. R place.0 q ≡ Less) (map key_at (filter (is_on t) (filter test es)))
  later_on place test t n [] h a r = tt
  later_on place test t n (x ∷ es) h a r =
      let rest = later_on place test t n es h a.1 (tail_runs n place.0 x es r) in
      elim (cases_Bool (test x)) [
        | inl y ↦ rw y (elim (cases_Bool (is_on t x)) [
          | inl z ↦ rw z (first z, rest)
          | inr z ↦ rw z rest
        ])
        | inr y ↦ rw y rest
      ]
    where
      first : is_on t x ≡ true → R place.0 x.0.0 ≡ Less
      first z = elim (answer (R place.0 x.0.0)) [
        | less b ↦ b
        | greater b ↦ let k : Greater ≡ Less = rw b at a.0 in cc
        | equal b ↦
            let s = rw b at r in
            let on = and_parts (nat_le x.1 t) (nat_lt t x.0.1) z in
            absurd (early x.1 s.0 on.0)
      ]
        where
          early : (s : ℕ) → n ≤ s → nat_le s t ≡ true → ⊥
          early s p q = let w : s ≤ t = grind (arith, nat_tests, q) in omega (arith, h, p, w)

  pub in_order : (test : (K × ℕ) × ℕ → Bool) (t : ℕ) (es : List ((K × ℕ) × ℕ)) → IsStrictlySortedBy (place_cmp R) (keys_of es) → ((k : K) → RunsFrom 0 (runs_of R k es)) → IsStrictlySortedBy R (map key_at (filter (is_on t) (filter test es)))
  unfolding IsStrictlySortedBy
  in_order test t [] h r = tt
  in_order test t (x ∷ es) h r =
      let rest = in_order test t es h.1 (λ k. tail_runs 0 k x es (r k)) in
      elim (cases_Bool (test x)) [
        | inl y ↦ rw y (elim (cases_Bool (is_on t x)) [
          | inl z ↦ rw z (behind z, rest)
          | inr z ↦ rw z rest
        ])
        | inr y ↦ rw y rest
      ]
    where
      behind : is_on t x ≡ true → AllByRecursion (λ q. R x.0.0 q ≡ Less) (map key_at (filter (is_on t) (filter test es)))
      behind z =
          let s = rw (tied_itself o x.0.0) at (r x.0.0) in
          let on = and_parts (nat_le x.1 t) (nat_lt t x.0.1) z in
          let before : t < suc x.0.1 = grind (arith, nat_tests, on.1) in
          later_on x.0 test t (suc x.0.1) es before h.0 s.3

  -- ---- what was gathered

  module _ (from to : K) (t low top : ℕ) (es part : List ((K × ℕ) × ℕ)) (keys : List K) (kept : AreRuns R es) (is : part ≡ entries_between (place_cmp R) (Included (from, low)) (Included (to, top)) es) (gathered : keys ≡ map key_at (filter (is_on t) part)) where
    pub ascending : IsStrictlySortedBy R keys
    ascending = rw (gathered, is) (in_order (λ (e : (K × ℕ) × ℕ). range_contains (place_cmp R) (Included (from, low)) (Included (to, top)) e.0) t es kept.ordered kept.each)

    pub each : low ≡ 0 → top ≡ never → t < never → (k : K) → list_any (eq_by_cmp R k) keys ≡ (is_between R from to k && covers (spans_of R es k) t)
    each first last h k = rw (gathered, is, first, last) (each_on from to k t 0 es h (kept.each k))
