-- What is noted of the turns of a pair.
use Rattle.std.specs.Prelude.{◌≡◌, ℕ, ◌==◌, ◌&&◌, List, Bool, false, Option, Some, None}
use Rattle.std.specs.Prelude.{if◌then◌else◌}
use Rattle.std.specs.List.{list_any}
use Rattle.reg_prov.specs.declared.boundary.Boundary.{Boundary}
use Rattle.reg_prov.specs.declared.turn.Turn.{Turn}
use Rattle.reg_prov.specs.Turns.{turn_at}
use Rattle.reg_prov.specs.Steps.{change_at, first_from}

-- a boundary, its group and its person, with what the pair turns to
abbrev pub turn_of : (ℕ × ℕ × ℕ) × Bool → Turn
turn_of entry =
    record { at = entry.0.0; group = entry.0.1; subject = entry.0.2; on = entry.1 }

abbrev pub is_numbered : ℕ → Option Boundary → Bool
is_numbered n None = false
is_numbered n (Some boundary) = boundary.number == n

-- whether a number is that of the first boundary from a moment on
abbrev pub reaches : List Boundary → ℕ → ℕ → Bool
reaches boundaries n moment = is_numbered n (first_from moment boundaries)

-- whether a number is that of the first boundary from one of some moments on
abbrev pub reached : List Boundary → ℕ → List ℕ → Bool
reached boundaries n moments = list_any (reaches boundaries n) moments

-- what becomes of the pair's wish is noted for the numbers that a test tells, and for no others
abbrev pub AreNoted : (ℕ → Bool) → List Boundary → ℕ → ℕ → (ℕ → Bool) → List Turn → Type 0
AreNoted wish boundaries g s test turns =
    (n : ℕ) → turn_at turns n g s ≡ (if test n then change_at wish boundaries n else None)

-- what is noted of other pairs stays
abbrev pub OthersStay : ℕ → ℕ → List Turn → List Turn → Type 0
OthersStay group subject old new =
    (n g s : ℕ) → ((group == g) && (subject == s)) ≡ false → turn_at new n g s ≡ turn_at old n g s
