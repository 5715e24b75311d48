-- Memberships as intervals.
use Rattle.std.specs.Prelude.{◌≡◌, ◌≤◌, ◌^◌, ◌==◌, ◌++◌, ℕ, List, [], ◌∷◌, Bool, true, false}
use Rattle.std.specs.Prelude.{Option, map}
use Rattle.std.specs.Ordering.{nat_cmp, ordering_then, eq_by_cmp}
use Rattle.std.specs.List.{list_any}
use Rattle.std.specs.List.Sorted.{IsStrictlySortedBy}
use Rattle.std.specs.declared.cmp.Ordering.{Ordering}
use Rattle.reg_pit.specs.Spans.{covers}
use Rattle.reg_pit.specs.Runs.{spans_of}

-- by the first, and then by the second
abbrev pub pair_cmp : ℕ × ℕ → ℕ × ℕ → Ordering
pair_cmp a b = ordering_then (nat_cmp a.0 b.0) (nat_cmp a.1 b.1)

-- whether a pair was on at a moment
abbrev pub are_on : List (((ℕ × ℕ) × ℕ) × ℕ) → ℕ → ℕ → ℕ → Bool
are_on pairs x y t = covers (spans_of pair_cmp pairs (x, y)) t

-- the intervals of a number with some others, each with the other number, one after another
abbrev pub second_spans : List (((ℕ × ℕ) × ℕ) × ℕ) → ℕ → List ℕ → List (ℕ × ℕ × Option ℕ)
second_spans pairs x [] = []
second_spans pairs x (y ∷ ys) =
    map (λ (span : ℕ × Option ℕ). (y, span.0, span.1)) (spans_of pair_cmp pairs (x, y))
    ++ second_spans pairs x ys

-- the numbers that pass a test, ascending
pub record Lists (test : ℕ → Bool) (numbers : List ℕ) : Type 0 where
  pub ascending : IsStrictlySortedBy nat_cmp numbers
  pub each : (n : ℕ) → list_any (λ x. x == n) numbers ≡ test n

-- whether a pair is among some
abbrev pub has_pair : ℕ × ℕ → List (ℕ × ℕ) → Bool
has_pair k pairs = list_any (eq_by_cmp pair_cmp k) pairs

-- each pair that was ever on is known the other way round, and is of numbers of 32 bits
pub record AreKnown (pairs : List (((ℕ × ℕ) × ℕ) × ℕ)) (reversed : List (ℕ × ℕ)) : Type 0 where
  pub known : (x y t : ℕ) → are_on pairs x y t ≡ true → has_pair (y, x) reversed ≡ true
  pub first : (x y t : ℕ) → 2 ^ 32 ≤ x → are_on pairs x y t ≡ false
  pub second : (x y t : ℕ) → 2 ^ 32 ≤ y → are_on pairs x y t ≡ false
