-- How intervals are kept: a start for each key and end.
use Rattle.std.specs.Prelude.{◌≡◌, ◌≤◌, ◌<◌, ◌==◌, ◌&&◌, ◌++◌, ⊤, Bool, true, nat_le, ℕ, suc, List}
use Rattle.std.specs.Prelude.{[], ◌∷◌, length, map, Option, Some, None, if◌then◌else◌}
use Rattle.std.specs.Ordering.{nat_cmp, ordering_then, is_eq, is_le, is_lt, eq_by_cmp}
use Rattle.std.specs.declared.cmp.Ordering.{Ordering}
use Rattle.std.specs.declared.cmp.Ordering.TheVariants.{Less}
use Rattle.std.specs.List.{list_any}
use Rattle.std.specs.List.Sorted.{IsStrictlySortedBy}
use Rattle.std.specs.Map.{keys_of}
use Rattle.reg_pit.specs.Spans.{covers, NoLater}

-- what stands for the end of an interval that has none: the number after all moments
abbrev pub never : ℕ
never = 253402300800000000

-- the interval with an end and a start
abbrev pub span_of : ℕ × ℕ → ℕ × Option ℕ
span_of run = (run.1, if run.0 == never then None else Some run.0)

-- by key, and then by end
abbrev pub place_cmp : {K : Type 0} → (K → K → Ordering) → K × ℕ → K × ℕ → Ordering
place_cmp R a b = ordering_then (R a.0 b.0) (nat_cmp a.1 b.1)

-- the ends and starts of a key
abbrev pub runs_of : {K : Type 0} → (K → K → Ordering) → K → List ((K × ℕ) × ℕ) → List (ℕ × ℕ)
runs_of R k [] = []
runs_of R k (e ∷ es) = if is_eq (R k e.0.0) then (e.0.1, e.1) ∷ runs_of R k es else runs_of R k es

-- the intervals of a key
abbrev pub spans_of : {K : Type 0} → (K → K → Ordering) → List ((K × ℕ) × ℕ) → K
    → List (ℕ × Option ℕ)
spans_of R es k = map span_of (runs_of R k es)

-- ends and starts from a moment on: none is empty and no two touch
abbrev pub RunsFrom : ℕ → List (ℕ × ℕ) → Type 0
RunsFrom n [] = ⊤
RunsFrom n (run ∷ runs) =
    (n ≤ run.1) × (run.1 < run.0) × (run.0 ≤ never) × RunsFrom (suc run.0) runs

-- the places ascend, and each key has intervals
pub record AreRuns {K : Type 0} (R : K → K → Ordering) (es : List ((K × ℕ) × ℕ)) : Type 0 where
  pub ordered : IsStrictlySortedBy (place_cmp R) (keys_of es)
  pub each : (k : K) → RunsFrom 0 (runs_of R k es)

-- no interval that has an end ends later than a moment
abbrev pub EndedBy : ℕ → List (ℕ × Option ℕ) → Type 0
EndedBy latest [] = ⊤
EndedBy latest ((s, None) ∷ spans) = EndedBy latest spans
EndedBy latest ((s, Some e) ∷ spans) = (e ≤ latest) × EndedBy latest spans

-- the intervals, and a moment after which none ended
pub record AreKept {K : Type 0} (R : K → K → Ordering) (latest : ℕ) (es : List ((K × ℕ)
    × ℕ)) : Type 0 where
  pub runs : AreRuns R es
  pub ended : (k : K) → EndedBy latest (spans_of R es k)

-- from a moment on a key is on or off; all else is as before
pub record Switched {K : Type 0} (R : K → K → Ordering) (key : K) (at : ℕ) (on : Bool)
    (old new : List ((K × ℕ) × ℕ)) : Type 0 where
  pub kept : AreRuns R new
  pub last : (k : K) → NoLater at (spans_of R new k)
  pub covers : (k : K) (t : ℕ)
      → covers (spans_of R new k) t
      ≡ (if is_eq (R key k) && nat_le at t then on else covers (spans_of R old k) t)

-- whether a key is one of those from one to another
abbrev pub is_between : {K : Type 0} → (K → K → Ordering) → K → K → K → Bool
is_between R from to k = is_le (R from k) && is_le (R k to)

-- whether a key is behind another one, and no later than a last
abbrev pub is_behind : {K : Type 0} → (K → K → Ordering) → K → K → K → Bool
is_behind R key to k = is_lt (R key k) && is_le (R k to)

-- of the keys that pass a test, the first that has an interval
pub record IsFirstKey {K : Type 0} (R : K → K → Ordering) (es : List ((K × ℕ) × ℕ))
    (test : K → Bool) (key : K) : Type 0 where
  pub passes : test key ≡ true
  pub has : 0 < length (spans_of R es key)
  pub first : (k : K) → test k ≡ true → R k key ≡ Less → spans_of R es k ≡ []

-- keys that tie are one
abbrev pub TiesAreOne : {K : Type 0} → (K → K → Ordering) → Type 0
TiesAreOne {K} R = (a b : K) → eq_by_cmp R a b ≡ true → a ≡ b

-- of the keys that were ever on, these are those from one to another
abbrev pub AreAllOn : {K : Type 0} → (K → K → Ordering) → K → K → List ((K × ℕ) × ℕ) → List K
    → Type 0
AreAllOn {K} R from to es keys =
    (k : K) (t : ℕ) → covers (spans_of R es k) t ≡ true
    → list_any (eq_by_cmp R k) keys ≡ is_between R from to k

-- the intervals of some keys, each with its key, key by key
abbrev pub keyed_spans : {K : Type 0} → (K → K → Ordering) → List ((K × ℕ) × ℕ) → List K
    → List (K × ℕ × Option ℕ)
keyed_spans R es [] = []
keyed_spans {K} R es (k ∷ keys) =
    map (λ (span : ℕ × Option ℕ). (k, span.0, span.1)) (spans_of R es k) ++ keyed_spans R es keys
