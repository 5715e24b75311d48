-- The list of states: each from a moment on, until the next.
use Rattle.std.specs.Prelude.{◌≡◌, ◌≢◌, ◌<◌, ◌≤◌, ⊤, ℕ, List, [], ◌∷◌, Option, Some, None, filter}
use Rattle.std.specs.Prelude.{min, nat_le, option_map, slice_get}
use Rattle.std.specs.List.{AllByRecursion, last_or}
use Rattle.reg_access.specs.declared.state.StateKind.{StateKind}

-- neighbours in a list are so related
abbrev pub Neighbours : {A : Type 0} → (A → A → Type 0) → List A → Type 0
Neighbours R [] = ⊤
Neighbours R (x ∷ []) = ⊤
Neighbours R (x ∷ y ∷ rest) = R x y × Neighbours R (y ∷ rest)

-- the last state of a list
abbrev pub last_kind : List (ℕ × StateKind) → Option StateKind
last_kind states = option_map (λ (x : ℕ × StateKind). x.1) (last_or None states)

-- the state that a list gives for a moment: the last of those that begin by then
abbrev pub kind_in : List (ℕ × StateKind) → ℕ → Option StateKind
kind_in states t = last_kind (filter (λ (x : ℕ × StateKind). nat_le x.0 t) states)

-- the list of the states at all moments before an end: moments ascend, no two neighbours are alike
pub record AreBefore (kind_at : ℕ → StateKind) (end : ℕ) (states : List (ℕ × StateKind))
    : Type 0 where
  pub ascend : Neighbours (λ (a : ℕ × StateKind) (b : ℕ × StateKind). a.0 < b.0) states
  pub apart : Neighbours (λ (a : ℕ × StateKind) (b : ℕ × StateKind). a.1 ≢ b.1) states
  pub before : AllByRecursion (λ (x : ℕ × StateKind). x.0 < end) states
  pub gives : (t : ℕ) → t < end → kind_in states t ≡ Some (kind_at t)

-- the list of the states at all moments up to a last one
pub record AreStates (kind_at : ℕ → StateKind) (now : ℕ) (states : List (ℕ × StateKind))
    : Type 0 where
  pub first : slice_get states 0 ≡ Some (0, kind_at 0)
  pub ascend : Neighbours (λ (a : ℕ × StateKind) (b : ℕ × StateKind). a.0 < b.0) states
  pub apart : Neighbours (λ (a : ℕ × StateKind) (b : ℕ × StateKind). a.1 ≢ b.1) states
  pub by_now : AllByRecursion (λ (x : ℕ × StateKind). x.0 ≤ now) states
  pub gives : (t : ℕ) → t ≤ now → kind_in states t ≡ Some (kind_at t)

-- the first of some moments, at most an end; the end where there is none
abbrev pub next_of : ℕ → List ℕ → ℕ
next_of end [] = end
next_of end (m ∷ later) = min m end
