-- The first key that has an interval, of those from one to another or behind one.
use Rattle.std.proofs.Common.{◌≡◌, ◌<◌, ◌≤◌, ◌&&◌, ℕ, List, [], ◌∷◌, Bool, true, false, not, map, filter, length, arith, refl, sym, ◌∙◌, ap, inl, inr}
use Rattle.std.proofs.lemmas.Bool.{cases_Bool}
use Rattle.std.proofs.lemmas.Bool.Decides.{nat_tests}
use Rattle.std.proofs.lemmas.Grind.{common_steps}
use Rattle.std.proofs.lemmas.Cmp.{tied_itself, alike_right}
use Rattle.std.specs.Cmp.{IsTotalOrder}
use Rattle.std.specs.List.{AllByRecursion}
use Rattle.std.specs.List.Sorted.{IsStrictlySortedBy}
use Rattle.std.specs.Map.{keys_of}
use Rattle.std.specs.BTreeMap.Range.{range_contains, entries_between}
use Rattle.std.specs.Ordering.{nat_cmp, ordering_then, ordering_reverse, is_le, is_lt}
use Rattle.std.specs.declared.ops.Bound.TheVariants.{Included, Excluded}
use Rattle.std.specs.declared.cmp.Ordering.{Ordering}
use Rattle.std.specs.declared.cmp.Ordering.TheVariants.{Less, Equal, Greater}
use Rattle.reg_pit.specs.Runs.{never, span_of, place_cmp, runs_of, spans_of, RunsFrom, AreRuns, is_between, is_behind, IsFirstKey}
use Rattle.reg_pit.proofs.Orders.{less, equal, greater, answer}
use Rattle.reg_pit.proofs.Between.{tail_runs, key_decides, alike_between}

-- behind the last place of a key, the key alone decides
behind_parts : (a b d : Ordering) → is_lt d ≡ false → (is_lt (ordering_then a d) && not (is_lt (ordering_then b d))) ≡ (is_lt a && is_le (ordering_reverse b))
behind_parts Less Less d p = refl
behind_parts Less Equal d p = rw p refl
behind_parts Less Greater d p = refl
behind_parts Equal b d p = rw p refl
behind_parts Greater b d p = refl

module _ {K : Type 0} (R : K → K → Ordering) (o : IsTotalOrder R) where
  behind_decides : (key to k : K) (end : ℕ) → end ≤ never → range_contains (place_cmp R) (Excluded (key, never)) (Included (to, never)) (k, end) ≡ is_behind R key to k
  behind_decides key to k end h =
      let last : is_lt (nat_cmp never end) ≡ false = grind (arith, nat_tests, common_steps) in
      rw (o.antisymm k to) (behind_parts (R key k) (R to k) (nat_cmp never end) last)

  alike_behind : (key to k j : K) → R k j ≡ Equal → is_behind R key to j ≡ is_behind R key to k
  alike_behind key to k j h = rw (alike_right o k j key h, o.congr k j to h) refl

  -- all places from one of a later key on are of later keys
  below_none : (k : K) (p : K × ℕ) (es : List ((K × ℕ) × ℕ)) → AllByRecursion (λ q. place_cmp R p q ≡ Less) (keys_of es) → R k p.0 ≡ Less → runs_of R k es ≡ []
  below_none k p [] a l = refl
  below_none k p (y ∷ es) a l = rw later (below_none k p es a.1 l)
    where
      later : R k y.0.0 ≡ Less
      later = elim (answer (R p.0 y.0.0)) [
        | less b ↦ o.trans k p.0 y.0.0 l b
        | equal b ↦ sym (alike_right o p.0 y.0.0 k b) ∙ l
        | greater b ↦ let w : Greater ≡ Less = rw b at a.0 in cc
      ]

  one_more : (k : K) (x : (K × ℕ) × ℕ) (es : List ((K × ℕ) × ℕ)) → 0 < length (spans_of R es k) → 0 < length (spans_of R (x ∷ es) k)
  one_more k x es h = elim (answer (R k x.0.0)) [
    | less a ↦ rw a h
    | greater a ↦ rw a h
    | equal a ↦ rw a (omega arith)
  ]

  -- a test of places that the key alone decides
  module _ (test : K × ℕ → Bool) (told : K → Bool) (decides : (k : K) (end : ℕ) → end ≤ never → test (k, end) ≡ told k) (alike : (k j : K) → R k j ≡ Equal → told j ≡ told k) where
    passed : (k : K) (n : ℕ) (x : (K × ℕ) × ℕ) (es : List ((K × ℕ) × ℕ)) → RunsFrom n (runs_of R k (x ∷ es)) → told k ≡ true → R k x.0.0 ≡ Equal → test x.0 ≡ true
    passed k n x es r h a = let s = rw a at r in decides x.0.0 x.0.1 s.2 ∙ (alike k x.0.0 a ∙ h)

    none_pass : (k : K) (es : List ((K × ℕ) × ℕ)) → RunsFrom 0 (runs_of R k es) → told k ≡ true → filter (λ (e : (K × ℕ) × ℕ). test e.0) es ≡ [] → runs_of R k es ≡ []
    none_pass k [] r h f = refl
    none_pass k (x ∷ es) r h f = elim (cases_Bool (test x.0)) [
      | inl y ↦ let w : x ∷ filter (λ (e : (K × ℕ) × ℕ). test e.0) es ≡ [] = rw y at f in cc
      | inr y ↦
          let rest = none_pass k es (tail_runs R o 0 k x es r) h (rw y at f) in
          elim (answer (R k x.0.0)) [
            | less a ↦ rw a rest
            | greater a ↦ rw a rest
            | equal a ↦ let z : test x.0 ≡ true = passed k 0 x es r h a in cc
          ]
    ]

    first_told : (es : List ((K × ℕ) × ℕ)) (e : (K × ℕ) × ℕ) (more : List ((K × ℕ) × ℕ)) → ((k : K) → RunsFrom 0 (runs_of R k es)) → filter (λ (e : (K × ℕ) × ℕ). test e.0) es ≡ e ∷ more → told e.0.0 ≡ true
    first_told [] e more r f = cc
    first_told (x ∷ es) e more r f = elim (cases_Bool (test x.0)) [
      | inl y ↦
          let w : x ∷ filter (λ (e : (K × ℕ) × ℕ). test e.0) es ≡ e ∷ more = rw y at f in
          let same : x ≡ e = cc in
          let s = rw (tied_itself o x.0.0) at (r x.0.0) in
          let told_x : told x.0.0 ≡ true = sym (decides x.0.0 x.0.1 s.2) ∙ y in
          rw (← same) told_x
      | inr y ↦ first_told es e more (λ k. tail_runs R o 0 k x es (r k)) (rw y at f)
    ]

    first_has : (es : List ((K × ℕ) × ℕ)) (e : (K × ℕ) × ℕ) (more : List ((K × ℕ) × ℕ)) → filter (λ (e : (K × ℕ) × ℕ). test e.0) es ≡ e ∷ more → 0 < length (spans_of R es e.0.0)
    first_has [] e more f = let z : ⊥ = cc in absurd z
    first_has (x ∷ es) e more f = elim (cases_Bool (test x.0)) [
      | inl y ↦
          let w : x ∷ filter (λ (e : (K × ℕ) × ℕ). test e.0) es ≡ e ∷ more = rw y at f in
          let same : x ≡ e = cc in
          rw (← same, tied_itself o x.0.0) (omega arith)
      | inr y ↦ one_more e.0.0 x es (first_has es e more (rw y at f))
    ]

    first_first : (es : List ((K × ℕ) × ℕ)) (e : (K × ℕ) × ℕ) (more : List ((K × ℕ) × ℕ)) → IsStrictlySortedBy (place_cmp R) (keys_of es) → filter (λ (e : (K × ℕ) × ℕ). test e.0) es ≡ e ∷ more
        → (k : K) → RunsFrom 0 (runs_of R k es) → told k ≡ true → R k e.0.0 ≡ Less → runs_of R k es ≡ []
    unfolding IsStrictlySortedBy
    first_first [] e more s f k r h l = refl
    first_first (x ∷ es) e more s f k r h l = elim (cases_Bool (test x.0)) [
      | inl y ↦
          let w : x ∷ filter (λ (e : (K × ℕ) × ℕ). test e.0) es ≡ e ∷ more = rw y at f in
          let same : x ≡ e = cc in
          let before : R k x.0.0 ≡ Less = rw same l in
          rw before (below_none k x.0 es s.0 before)
      | inr y ↦
          let rest = first_first es e more s.1 (rw y at f) k (tail_runs R o 0 k x es r) h l in
          elim (answer (R k x.0.0)) [
            | less a ↦ rw a rest
            | greater a ↦ rw a rest
            | equal a ↦ let z : test x.0 ≡ true = passed k 0 x es r h a in cc
          ]
    ]

    none_is : (es part : List ((K × ℕ) × ℕ)) → AreRuns R es → part ≡ filter (λ (e : (K × ℕ) × ℕ). test e.0) es → part ≡ [] → (k : K) → told k ≡ true → spans_of R es k ≡ []
    none_is es part kept is none k h = ap (λ x. map span_of x) (none_pass k es (kept.each k) h (sym is ∙ none))

    first_is : (es part : List ((K × ℕ) × ℕ)) (e : (K × ℕ) × ℕ) (more : List ((K × ℕ) × ℕ)) → AreRuns R es → part ≡ filter (λ (e : (K × ℕ) × ℕ). test e.0) es → part ≡ e ∷ more → IsFirstKey R es told e.0.0
    first_is es part e more kept is first = record {
      passes = first_told es e more kept.each (sym is ∙ first);
      has = first_has es e more (sym is ∙ first);
      first = λ k h l. ap (λ x. map span_of x) (first_first es e more kept.ordered (sym is ∙ first) k (kept.each k) h l);
    }

  -- ---- from one key to another

  module _ (from to : K) (low top : ℕ) (es part : List ((K × ℕ) × ℕ)) (kept : AreRuns R es) (is : part ≡ entries_between (place_cmp R) (Included (from, low)) (Included (to, top)) es) (start : low ≡ 0) (last : top ≡ never) where
    pub none_between : part ≡ [] → (k : K) → is_between R from to k ≡ true → spans_of R es k ≡ []
    none_between = none_is (range_contains (place_cmp R) (Included (from, 0)) (Included (to, never))) (is_between R from to) (key_decides R o from to) (alike_between R o from to) es part kept (rw (start, last) at is)

    pub first_between : (e : (K × ℕ) × ℕ) (more : List ((K × ℕ) × ℕ)) → part ≡ e ∷ more → IsFirstKey R es (is_between R from to) e.0.0
    first_between e more = first_is (range_contains (place_cmp R) (Included (from, 0)) (Included (to, never))) (is_between R from to) (key_decides R o from to) (alike_between R o from to) es part e more kept (rw (start, last) at is)

  -- ---- behind a key

  module _ (key to : K) (low top : ℕ) (es part : List ((K × ℕ) × ℕ)) (kept : AreRuns R es) (is : part ≡ entries_between (place_cmp R) (Excluded (key, low)) (Included (to, top)) es) (start : low ≡ never) (last : top ≡ never) where
    pub none_behind : part ≡ [] → (k : K) → is_behind R key to k ≡ true → spans_of R es k ≡ []
    none_behind = none_is (range_contains (place_cmp R) (Excluded (key, never)) (Included (to, never))) (is_behind R key to) (behind_decides key to) (alike_behind key to) es part kept (rw (start, last) at is)

    pub first_behind : (e : (K × ℕ) × ℕ) (more : List ((K × ℕ) × ℕ)) → part ≡ e ∷ more → IsFirstKey R es (is_behind R key to) e.0.0
    first_behind e more = first_is (range_contains (place_cmp R) (Excluded (key, never)) (Included (to, never))) (is_behind R key to) (behind_decides key to) (alike_behind key to) es part e more kept (rw (start, last) at is)
