-- The first interval that ends after a moment tells whether a key is on then.
use Rattle.std.proofs.Common.{◌≡◌, ◌<◌, ◌≤◌, ◌+◌, ◌*◌, ◌^◌, ◌==◌, ◌&&◌, ℕ, suc, List, [], ◌∷◌, Bool, true, false, map, filter, length, Option, Some, None, nat_lt, nat_le, if◌then◌else◌, arith, refl, sym, ◌∙◌, ap, inl, inr}
use Rattle.std.proofs.lemmas.Bool.{cases_Bool, eqb-true}
use Rattle.std.proofs.lemmas.Bool.Decides.{nat_tests}
use Rattle.std.proofs.lemmas.Grind.{common_steps}
use Rattle.std.specs.Cmp.{IsTotalOrder}
use Rattle.std.specs.BTreeMap.Range.{entries_between}
use Rattle.std.specs.Ordering.{nat_cmp, is_le}
use Rattle.std.specs.declared.ops.Bound.TheVariants.{Included}
use Rattle.std.specs.declared.cmp.Ordering.{Ordering}
use Rattle.reg_pit.specs.Spans.{covers, looked_at, SpansFrom, AreSpans}
use Rattle.reg_pit.specs.Runs.{never, span_of, place_cmp, runs_of, spans_of, RunsFrom, AreRuns}
use Rattle.reg_pit.proofs.Places.{from_place, run_of}

-- what the first of some intervals says of a moment
abbrev pub first_says : ℕ → List (ℕ × ℕ) → Bool
first_says t [] = false
first_says t (run ∷ runs) = nat_le run.1 t

-- no interval begins before the first
not_yet : (n t : ℕ) (runs : List (ℕ × ℕ)) → t < n → RunsFrom n runs → covers (map span_of runs) t ≡ false
not_yet n t [] h r = refl
not_yet n t ((e, s) ∷ runs) h r =
    let a : nat_le s t ≡ false = grind (arith, nat_tests, r.0) in
    rw a (not_yet (suc e) t runs (omega (arith, r.0, r.1)) r.3)

pub first_tells : (n t : ℕ) (runs : List (ℕ × ℕ)) → t < never → RunsFrom n runs → first_says t (filter (λ (run : ℕ × ℕ). nat_le (t + 1) run.0) runs) ≡ covers (map span_of runs) t
first_tells n t [] h r = refl
first_tells n t ((e, s) ∷ runs) h r = elim (cases_Bool (nat_le (t + 1) e)) [
  | inl y ↦
      let rest = not_yet (suc e) t runs (grind (arith, nat_tests, y)) r.3 in
      rw (y, rest) (elim (cases_Bool (e == never)) [ inl z ↦ rw z (grind (arith, nat_tests, common_steps)) | inr z ↦ rw z (grind (arith, nat_tests, common_steps, y)) ])
  | inr y ↦
      let z : (e == never) ≡ false = grind (arith, nat_tests, y, h) in
      let w : (nat_le s t && nat_lt t e) ≡ false = grind (arith, nat_tests, common_steps, y) in
      rw (y, z, w) (first_tells (suc e) t runs h r.3)
]

-- how many are given of some intervals
abbrev pub given : List (ℕ × ℕ) → ℕ
given [] = 0
given (run ∷ runs) = 1

pub looks_are : (n t : ℕ) (runs : List (ℕ × ℕ)) → t < never → RunsFrom n runs → given (filter (λ (run : ℕ × ℕ). nat_le (t + 1) run.0) runs) ≡ looked_at (map span_of runs) t
looks_are n t [] h r = refl
looks_are n t ((e, s) ∷ runs) h r = elim (cases_Bool (nat_le (t + 1) e)) [
  | inl y ↦
      let w : nat_lt t e ≡ true = grind (arith, nat_tests, y) in
      rw y (elim (cases_Bool (e == never)) [ inl z ↦ rw z refl | inr z ↦ rw (z, w) refl ])
  | inr y ↦
      let z : (e == never) ≡ false = grind (arith, nat_tests, y, h) in
      let w : nat_lt t e ≡ false = grind (arith, nat_tests, y) in
      rw (y, z, w) (looks_are (suc e) t runs h r.3)
]

module _ {K : Type 0} (R : K → K → Ordering) (o : IsTotalOrder R) where
  -- what lies from a place on, where it is some intervals
  module _ (k : K) (t low top : ℕ) (es part : List ((K × ℕ) × ℕ)) (kept : AreRuns R es) (is : part ≡ entries_between (place_cmp R) (Included (k, low)) (Included (k, top)) es) (after : low ≡ t + 1) (is_never : top ≡ never) (small : t < never) where
    runs_there : map run_of part ≡ filter (λ (run : ℕ × ℕ). nat_le (t + 1) run.0) (runs_of R k es)
    runs_there = ap (λ x. map run_of x) is ∙ rw (after, is_never) (from_place R o k 0 (t + 1) es (kept.each k))

    pub none_there : part ≡ [] → false ≡ covers (spans_of R es k) t
    none_there e = ap (first_says t) (ap (λ x. map run_of x) (sym e) ∙ runs_there) ∙ first_tells 0 t (runs_of R k es) small (kept.each k)

    pub first_there : (e : (K × ℕ) × ℕ) (more : List ((K × ℕ) × ℕ)) → part ≡ e ∷ more → nat_le e.1 t ≡ covers (spans_of R es k) t
    first_there e more p = ap (first_says t) (ap (λ x. map run_of x) (sym p) ∙ runs_there) ∙ first_tells 0 t (runs_of R k es) small (kept.each k)

    pub none_looked : part ≡ [] → looked_at (spans_of R es k) t ≡ 0
    none_looked e = sym (ap given (ap (λ x. map run_of x) (sym e) ∙ runs_there) ∙ looks_are 0 t (runs_of R k es) small (kept.each k))

    pub one_looked : (e : (K × ℕ) × ℕ) (more : List ((K × ℕ) × ℕ)) → part ≡ e ∷ more → looked_at (spans_of R es k) t ≡ 1
    one_looked e more p = sym (ap given (ap (λ x. map run_of x) (sym p) ∙ runs_there) ∙ looks_are 0 t (runs_of R k es) small (kept.each k))

-- ---- all intervals of a key

-- an interval, as its place and its start say
abbrev pub row_of : {K : Type 0} → (K × ℕ) × ℕ → ℕ × Option ℕ
row_of e = (e.1, if nat_lt e.0.1 never then Some e.0.1 else None)

span_is : (n : ℕ) (runs : List (ℕ × ℕ)) → RunsFrom n runs → map (λ (run : ℕ × ℕ). (run.1, if nat_lt run.0 never then Some run.0 else None)) runs ≡ map span_of runs
span_is n [] r = refl
span_is n ((e, s) ∷ runs) r = elim (cases_Bool (e == never)) [
  | inl y ↦ let z : nat_lt e never ≡ false = grind (arith, nat_tests, y) in rw (y, z) (ap (λ rest. (s, None) ∷ rest) (span_is (suc e) runs r.3))
  | inr y ↦ let z : nat_lt e never ≡ true = grind (arith, nat_tests, y, r.2) in rw (y, z) (ap (λ rest. (s, Some e) ∷ rest) (span_is (suc e) runs r.3))
]

all_from : (runs : List (ℕ × ℕ)) → filter (λ (run : ℕ × ℕ). nat_le 0 run.0) runs ≡ runs
all_from [] = refl
all_from (run ∷ runs) = let z : nat_le 0 run.0 ≡ true = grind (arith, nat_tests) in rw z (ap (λ rest. run ∷ rest) (all_from runs))

rows_runs : {K : Type 0} (es : List ((K × ℕ) × ℕ)) → map row_of es ≡ map (λ (run : ℕ × ℕ). (run.1, if nat_lt run.0 never then Some run.0 else None)) (map run_of es)
rows_runs [] = refl
rows_runs (e ∷ es) = ap (λ rest. row_of e ∷ rest) (rows_runs es)

pub rows_are : {K : Type 0} (R : K → K → Ordering) (o : IsTotalOrder R) (k : K) (low top : ℕ) (es part : List ((K × ℕ) × ℕ)) → AreRuns R es → part ≡ entries_between (place_cmp R) (Included (k, low)) (Included (k, top)) es → low ≡ 0 → top ≡ never → map row_of part ≡ spans_of R es k
rows_are R o k low top es part kept is first open_ =
    let there : part ≡ entries_between (place_cmp R) (Included (k, 0)) (Included (k, never)) es = rw (first, open_) at is in
    rows_runs part ∙ (ap (λ x. map (λ (run : ℕ × ℕ). (run.1, if nat_lt run.0 never then Some run.0 else None)) x) (ap (λ x. map run_of x) there ∙ (from_place R o k 0 0 es (kept.each k) ∙ all_from (runs_of R k es)))
    ∙ span_is 0 (runs_of R k es) (kept.each k))

-- and they are what stands for the moments
spans_from : (n : ℕ) (runs : List (ℕ × ℕ)) → RunsFrom n runs → SpansFrom n (map span_of runs)
spans_from n [] r = tt
spans_from n ((e, s) ∷ runs) r = elim (cases_Bool (e == never)) [
  | inl y ↦ rw y (r.0, last (eqb-true e never y) runs r.3)
  | inr y ↦ rw y (r.0, r.1, spans_from (suc e) runs r.3)
]
  where
    last : e ≡ never → (rest : List (ℕ × ℕ)) → RunsFrom (suc e) rest → map span_of rest ≡ []
    last y [] q = refl
    last y (run ∷ rest) q = absurd (omega (arith, y, q.0, q.1, q.2))

pub are_spans : {K : Type 0} (R : K → K → Ordering) (es : List ((K × ℕ) × ℕ)) → AreRuns R es → (k : K) → AreSpans (spans_of R es k)
are_spans R es kept k = record { from_start = spans_from 0 (runs_of R k es) (kept.each k) }

pub le_tells : (s t : ℕ) → is_le (nat_cmp s t) ≡ nat_le s t
le_tells s t = grind (arith, nat_tests, common_steps)

-- where one is looked at, there is one
is_one : (spans : List (ℕ × Option ℕ)) (t : ℕ) → looked_at spans t ≡ 1 → 1 ≤ length spans
is_one [] t e = absurd (omega (arith, e))
is_one (span ∷ spans) t e = omega arith

-- one look is within the bound, and so is none
pub one_look : (spans : List (ℕ × Option ℕ)) (t s : ℕ) → s ≡ 1 → looked_at spans t ≡ 1 → 2 ^ s ≤ 2 * length spans + 1
one_look spans t s e h = rw e (omega (arith, is_one spans t h))

pub no_look : (spans : List (ℕ × Option ℕ)) (s : ℕ) → s ≡ 0 → 2 ^ s ≤ 2 * length spans + 1
no_look spans s e = rw e (omega arith)
