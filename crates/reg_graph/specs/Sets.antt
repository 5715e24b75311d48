-- A set of subjects for each group, as pairs of a group and a subject in order.
use Rattle.std.specs.Prelude.{◌≡◌, ℕ, ◌==◌, ◌&&◌, ◌<◌, ◌≤◌, ◌^◌, List, map, filter, Bool, true, false}
use Rattle.std.specs.Prelude.{Option, MatchOption}
use Rattle.std.specs.List.{list_any, All}
use Rattle.std.specs.List.Sorted.{IsStrictlySortedBy}
use Rattle.std.specs.Ordering.{nat_cmp, ordering_then}
use Rattle.std.specs.declared.cmp.Ordering.{Ordering}

-- whether the group has the subject
abbrev pub holds : ℕ → ℕ → List (ℕ × ℕ) → Bool
holds g s pairs = list_any (λ (p : ℕ × ℕ). (p.0 == g) && (p.1 == s)) pairs

-- the subjects of a group, by id
abbrev pub subjects_of : ℕ → List (ℕ × ℕ) → List ℕ
subjects_of g pairs = map (λ (p : ℕ × ℕ). p.1) (filter (λ (p : ℕ × ℕ). p.0 == g) pairs)

-- the groups that have a subject, by id
abbrev pub groups_of : ℕ → List (ℕ × ℕ) → List ℕ
groups_of s pairs = map (λ (p : ℕ × ℕ). p.0) (filter (λ (p : ℕ × ℕ). p.1 == s) pairs)

-- the first number that passes a test, from a number on, or none
abbrev pub IsFirstFrom : (ℕ → Bool) → ℕ → Option ℕ → Type 0
IsFirstFrom test from found =
    MatchOption found ((x : ℕ) → from ≤ x → test x ≡ false)
    (λ k. (from ≤ k) × (test k ≡ true) × ((x : ℕ) → from ≤ x → x < k → test x ≡ false))

-- by group, and then by subject
abbrev pub pair_cmp : ℕ × ℕ → ℕ × ℕ → Ordering
pair_cmp a b = ordering_then (nat_cmp a.0 b.0) (nat_cmp a.1 b.1)

-- in order, each pair once, and of 32 bits
pub record IsKept (pairs : List (ℕ × ℕ)) : Type 0 where
  pub ordered : IsStrictlySortedBy pair_cmp pairs
  pub small : All (λ (p : ℕ × ℕ). p.1 < 2 ^ 32) pairs

-- pairs of a group and a subject, and beside them the same pairs turned, a subject and a group
pub record AreTurned (pairs turned : List (ℕ × ℕ)) : Type 0 where
  pub by_group : IsKept pairs
  pub by_subject : IsKept turned
  pub same : (g s : ℕ) → holds s g turned ≡ holds g s pairs
