-- The state of a group's attestation at a moment: by the days for which a certification lasts, if
-- any are set, and by the moments at which the group was certified.
use Rattle.std.specs.Prelude.{ℕ, ◌+◌, ◌*◌, ◌-◌, ◌&&◌, ℤ, pos, negsuc, List, [], ◌∷◌, Option, Some}
use Rattle.std.specs.Prelude.{None, nat_le, nat_lt, max, filter, unwrap_or}
use Rattle.std.specs.Prelude.{if◌then◌else◌}
use Rattle.std.specs.List.{flat_map}
use Rattle.reg_base.specs.Calendar.{day_micros}
use Rattle.reg_base.specs.declared.moment.TheConstants.{GREATEST_MOMENT}
use Rattle.reg_access.specs.declared.state.State.{State}
use Rattle.reg_access.specs.declared.state.StateKind.{StateKind}
use Rattle.reg_access.specs.declared.state.StateKind.TheVariants as kind

-- the days that a whole number gives
abbrev pub days_in : ℤ → Option ℕ
days_in (pos n) = if nat_le 1 n && nat_le n 3_650 then Some n else None
days_in (negsuc n) = None

-- the latest of some moments
abbrev pub latest : List ℕ → Option ℕ
latest [] = None
latest (m ∷ ms) = Some (max m (unwrap_or (latest ms) 0))

-- the last certification by a moment: the latest certified moment that isn't later
abbrev pub cert : List ℕ → ℕ → Option ℕ
cert certified t = latest (filter (λ c. nat_le c t) certified)

-- how long before its end a certification is due to be renewed: 14 days
abbrev pub notice : ℕ
notice = 14 * day_micros

abbrev pub state : StateKind → Option ℕ → State
state kind until = record { kind = kind; until = until }

-- the state at a moment of a certification that ends at a moment of the calendar
abbrev pub ending : ℕ → ℕ → State
ending end t =
    if nat_le end t then state kind.Overdue (Some end)
    else (if nat_le end (t + notice) then state kind.Due (Some end)
    else state kind.Attested (Some end))

-- the state at a moment by the end of the last certification: an end past the greatest moment is
-- none
abbrev pub ended : ℕ → ℕ → State
ended end t = if nat_lt GREATEST_MOMENT end then state kind.Attested None else ending end t

-- the state at a moment by the days, if any are set, and the last certification by then, if any
abbrev pub state_of : Option ℕ → Option ℕ → ℕ → State
state_of None last t = state kind.None None
state_of (Some days) None t = state kind.Never None
state_of (Some days) (Some c) t = ended (c + days * day_micros) t

-- the state at a moment by the days, if any are set, and the certified moments
abbrev pub state_by : Option ℕ → List ℕ → ℕ → State
state_by days certified t = state_of days (cert certified t) t

-- the moments at which a certification of so many days changes the state: itself, where it is due
-- and where it ends
abbrev pub turns : ℕ → ℕ → List ℕ
turns days c = c ∷ (c + days * day_micros - notice) ∷ (c + days * day_micros) ∷ []

-- the moments at which the state may change
abbrev pub changes : Option ℕ → List ℕ → List ℕ
changes None certified = []
changes (Some days) certified = flat_map (turns days) certified
