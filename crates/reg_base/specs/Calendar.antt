-- The proleptic Gregorian calendar, from 1970 to 9999, and the days since 1970-01-01.
use Rattle.std.specs.Prelude.{ℕ, zero, suc, ◌+◌, ◌-◌, Bool, ◌&&◌, nat_le, nat_lt, if◌then◌else◌}
use Rattle.std.specs.Prelude.{pos, unsigned_abs}
use Rattle.jiff_core.specs.Calendar.{days_in_year, days_in_month, days_from_civil}
use Rattle.reg_base.specs.declared.calendar.Day.{Day}

-- the microseconds of a day
abbrev pub day_micros : ℕ
day_micros = 86_400_000_000

-- the calendar has this day, in a year from 1970 to 9999
abbrev pub day_exists : ℕ → ℕ → ℕ → Bool
day_exists year month day =
    nat_le 1970 year && nat_le year 9999 && nat_le 1 month && nat_le month 12 && nat_le 1 day
    && nat_le day (days_in_month (pos year) month)

-- how many days a day lies after 1970-01-01
abbrev pub day_number : ℕ → ℕ → ℕ → ℕ
day_number year month day = unsigned_abs (days_from_civil (pos year) month day)

-- the day that lies n days after the first of this month, where `more` months of the year follow
unfoldable pub day_from_month : ℕ → ℕ → ℕ → ℕ → Day
day_from_month zero year month n = record { year = year; month = month; day = n + 1 }
day_from_month (suc more) year month n =
    if nat_lt n (days_in_month (pos year) month)
    then record { year = year; month = month; day = n + 1 }
    else day_from_month more year (month + 1) (n - days_in_month (pos year) month)

-- the day that lies n days after 1 January of this year, where `more` years may follow
unfoldable pub day_from_year : ℕ → ℕ → ℕ → Day
day_from_year zero year n = day_from_month 11 year 1 n
day_from_year (suc more) year n =
    if nat_lt n (days_in_year (pos year)) then day_from_month 11 year 1 n
    else day_from_year more (year + 1) (n - days_in_year (pos year))

-- the day that lies n days after 1970-01-01, up to the end of the year 9999
unfoldable pub day_of : ℕ → Day
day_of n = day_from_year 8029 1970 n
