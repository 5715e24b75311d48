-- Boundaries of a log: its entries have numbers from 1 on, and each a moment.
use Rattle.std.specs.Prelude.{ℕ, zero, suc, ◌+◌, ◌==◌, ◌&&◌, List, Bool, true, false, not, Option}
use Rattle.std.specs.Prelude.{Some, None, length, nat_lt, unwrap_or, if◌then◌else◌}
use Rattle.std.specs.List.{slice_get}

-- the moment of an entry, by its number
abbrev pub moment_at : List ℕ → ℕ → Option ℕ
moment_at moments zero = None
moment_at moments (suc n) = slice_get moments n

-- whether there is an entry of this moment, and the next one isn't of the same
abbrev pub is_last_of : Option ℕ → Option ℕ → Bool
is_last_of None next = false
is_last_of (Some moment) None = true
is_last_of (Some moment) (Some next) = not (moment == next)

-- a number is a boundary where it is 0, or its entry is the last one of its moment
abbrev pub is_boundary : List ℕ → ℕ → Bool
is_boundary moments zero = true
is_boundary moments (suc n) = is_last_of (slice_get moments n) (slice_get moments (suc n))

-- the greatest boundary up to a number
unfoldable pub start_of : List ℕ → ℕ → ℕ
start_of moments zero = zero
start_of moments (suc n) = if is_boundary moments (suc n) then suc n else start_of moments n

-- the greatest boundary less than a number
abbrev pub boundary_before : List ℕ → ℕ → ℕ
boundary_before moments zero = zero
boundary_before moments (suc n) = start_of moments n

-- whether there is a moment, and it is less than the clock
abbrev pub is_past : ℕ → Option ℕ → Bool
is_past clock None = false
is_past clock (Some moment) = nat_lt moment clock

-- a number is an end where it is a boundary behind the place, and its moment is less than the clock
abbrev pub is_end : List ℕ → ℕ → ℕ → ℕ → Bool
is_end moments clock place n =
    nat_lt place n && (is_boundary moments n && is_past clock (moment_at moments n))

-- the greatest end up to a number
unfoldable pub last_end : List ℕ → ℕ → ℕ → ℕ → Option ℕ
last_end moments clock place zero = None
last_end moments clock place (suc n) =
    if is_end moments clock place (suc n) then Some (suc n) else last_end moments clock place n

-- a first number, or else a second
abbrev pub or_else : Option ℕ → Option ℕ → Option ℕ
or_else None other = other
or_else (Some n) other = Some n

-- the least end up to a number
unfoldable pub first_end : List ℕ → ℕ → ℕ → ℕ → Option ℕ
first_end moments clock place zero = None
first_end moments clock place (suc n) =
    or_else (first_end moments clock place n)
    (if is_end moments clock place (suc n) then Some (suc n) else None)

-- where a batch ends: at the greatest end up to so many entries behind the place, else at the least
-- end, else at the place
abbrev pub batch_end : List ℕ → ℕ → ℕ → ℕ → ℕ
batch_end moments clock place most =
    unwrap_or (or_else (last_end moments clock place (place + most))
    (first_end moments clock place (length moments))) place
