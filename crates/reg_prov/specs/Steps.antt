-- The boundaries of a batch, each with its moment and that of the boundary before it.
use Rattle.std.specs.Prelude.{◌≡◌, ◌≤◌, ◌<◌, ⊤, ℕ, ◌==◌, List, [], ◌∷◌, Bool, true, Option}
use Rattle.std.specs.Prelude.{Some, None, nat_lt, if◌then◌else◌}
use Rattle.std.specs.List.{AllByRecursion, list_any}
use Rattle.reg_prov.specs.declared.boundary.Boundary.{Boundary}
use Rattle.reg_prov.specs.Boundaries.{boundary_before, is_boundary, moment_at}
use Rattle.reg_prov.specs.Turns.{change, held}

-- a moment is later than another one, if there is one
abbrev pub IsAfter : Option ℕ → ℕ → Type 0
IsAfter None moment = ⊤
IsAfter (Some before) moment = before < moment

-- each boundary is behind the one before it, and has its moment, which is an earlier one
abbrev pub Chained : ℕ → Option ℕ → List Boundary → Type 0
Chained number before [] = ⊤
Chained number before (boundary ∷ boundaries) =
    (number < boundary.number) × (boundary.before ≡ before) × IsAfter before boundary.at
    × Chained boundary.number (Some boundary.at) boundaries

abbrev pub AreChained : List Boundary → Type 0
AreChained boundaries = (number : ℕ) × (before : Option ℕ) × Chained number before boundaries

-- a boundary behind the start and up to the last number, with its moments
pub record IsInside (moments : List ℕ) (start last : ℕ) (boundary : Boundary) : Type 0 where
  pub stands : is_boundary moments boundary.number ≡ true
  pub behind : start < boundary.number
  pub within : boundary.number ≤ last
  pub moment : moment_at moments boundary.number ≡ Some boundary.at
  pub earlier : moment_at moments (boundary_before moments boundary.number) ≡ boundary.before

-- whether some boundary has a number
abbrev pub has_number : ℕ → List Boundary → Bool
has_number n boundaries = list_any (λ (boundary : Boundary). boundary.number == n) boundaries

-- all boundaries behind the start and up to the last number, in order
pub record AreBoundaries (moments : List ℕ) (start last : ℕ) (boundaries : List Boundary)
    : Type 0 where
  pub chained : Chained start (moment_at moments start) boundaries
  pub inside : AllByRecursion (IsInside moments start last) boundaries
  pub all : (n : ℕ) → is_boundary moments n ≡ true → start < n → n ≤ last
      → has_number n boundaries ≡ true

-- the first boundary whose moment isn't before one
abbrev pub first_from : ℕ → List Boundary → Option Boundary
first_from moment [] = None
first_from moment (boundary ∷ boundaries) =
    if nat_lt boundary.at moment then first_from moment boundaries else Some boundary

-- what becomes of a wish at a boundary
abbrev pub change_in : (ℕ → Bool) → Boundary → Option Bool
change_in wish boundary = change (held wish boundary.before) (wish boundary.at)

-- what becomes of a wish at the boundary of a number
abbrev pub change_at : (ℕ → Bool) → List Boundary → ℕ → Option Bool
change_at wish [] n = None
change_at wish (boundary ∷ boundaries) n =
    if boundary.number == n then change_in wish boundary else change_at wish boundaries n
