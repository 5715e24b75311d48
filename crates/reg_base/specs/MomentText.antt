-- The text of a moment: the shape of RFC 3339 in UTC, with a `T`, a `Z` and at most six digits of a
-- second's fraction.
use Rattle.std.specs.Prelude.{ℕ, List, [], ◌∷◌, ◌++◌, ◌+◌, ◌-◌, ◌*◌, ◌/◌, ◌%◌, Bool, true, false}
use Rattle.std.specs.Prelude.{◌&&◌, ◌||◌, ◌==◌, nat_le, if◌then◌else◌, Option, Some, None, codes}
use Rattle.std.specs.Prelude.{length, take, drop, slice_index}
use Rattle.reg_base.specs.declared.calendar.Day.{Day}
use Rattle.reg_base.specs.Calendar.{day_micros, day_exists, day_number, day_of}

-- the shape of a text in full, where `0` stands for any digit and every other byte for itself
abbrev pub full_shape : List ℕ
full_shape = codes "0000-00-00T00:00:00.000000Z"

-- a byte is an ASCII digit
abbrev pub is_digit : ℕ → Bool
is_digit b = nat_le 48 b && nat_le b 57

-- a byte is what this byte of a shape stands for
abbrev pub fits_mark : ℕ → ℕ → Bool
fits_mark mark b = if mark == 48 then is_digit b else b == mark

-- the bytes have this shape
abbrev pub fits : List ℕ → List ℕ → Bool
fits [] [] = true
fits [] (b ∷ text) = false
fits (mark ∷ shape) [] = false
fits (mark ∷ shape) (b ∷ text) = fits_mark mark b && fits shape text

-- a text has no fraction, or a point and 1 to 6 digits, as far as its length tells
abbrev pub has_length : ℕ → Bool
has_length n = (n == 20) || (nat_le 22 n && nat_le n 27)

-- the text with the point and the zeros that it leaves out before its last byte
abbrev pub full_text : List ℕ → List ℕ
full_text text =
    take (length text - 1) text ++ take (27 - length text) (drop (length text - 1) full_shape)
    ++ drop (length text - 1) text

-- the value of a digit, and 0 for other bytes, which the shape refuses
abbrev pub digit : ℕ → ℕ
digit b = if is_digit b then b - 48 else 0

-- the number that two digits at a place write
abbrev pub two_at : List ℕ → ℕ → ℕ
two_at text place = 10 * digit (slice_index text place) + digit (slice_index text (place + 1))

-- the year that a text in full names
abbrev pub year_at : List ℕ → ℕ
year_at text = 100 * two_at text 0 + two_at text 2

-- the microseconds of a second that a text in full names
abbrev pub fraction_at : List ℕ → ℕ
fraction_at text = 10_000 * two_at text 20 + 100 * two_at text 22 + two_at text 24

-- hours are 00 to 23, minutes and seconds 00 to 59
abbrev pub is_time : List ℕ → Bool
is_time text =
    nat_le (two_at text 11) 23 && nat_le (two_at text 14) 59 && nat_le (two_at text 17) 59

-- the microseconds since midnight that a text in full names
abbrev pub time_at : List ℕ → ℕ
time_at text =
    ((two_at text 11 * 60 + two_at text 14) * 60 + two_at text 17) * 1_000_000 + fraction_at text

-- the calendar has the day that a text in full names
abbrev pub is_day : List ℕ → Bool
is_day text = day_exists (year_at text) (two_at text 5) (two_at text 8)

-- the days from 1970-01-01 to the day that a text in full names
abbrev pub day_at : List ℕ → ℕ
day_at text = day_number (year_at text) (two_at text 5) (two_at text 8)

-- the moment of a text in full: its days and the time of its day, in microseconds
unfoldable pub moment_in_full : List ℕ → Option ℕ
moment_in_full text =
    if fits full_shape text && is_day text && is_time text
    then Some (day_at text * day_micros + time_at text) else None

-- the moment of a text, where it is the text of one
unfoldable pub moment_of : List ℕ → Option ℕ
moment_of text = if has_length (length text) then moment_in_full (full_text text) else None

-- a number below 100 in two digits
abbrev pub two_digits : ℕ → List ℕ
two_digits n = (48 + n / 10 % 10) ∷ (48 + n % 10) ∷ []

-- a day, as YYYY-MM-DD
abbrev pub date_text : Day → List ℕ
date_text day =
    two_digits (day.year / 100) ++ two_digits day.year ++ codes "-" ++ two_digits day.month
    ++ codes "-" ++ two_digits day.day

-- the microseconds since midnight, as hh:mm:ss.ffffff
abbrev pub time_text : ℕ → List ℕ
time_text micros =
    two_digits (micros / 3_600_000_000) ++ codes ":" ++ two_digits (micros / 60_000_000 % 60)
    ++ codes ":" ++ two_digits (micros / 1_000_000 % 60) ++ codes "."
    ++ two_digits (micros / 10_000 % 100) ++ two_digits (micros / 100 % 100)
    ++ two_digits (micros % 100)

-- a day and a time in one text
unfoldable pub stamp : Day → ℕ → List ℕ
stamp day micros = date_text day ++ codes "T" ++ time_text micros ++ codes "Z"

-- the text that is printed for a moment
unfoldable pub text_of : ℕ → List ℕ
text_of moment = stamp (day_of (moment / day_micros)) (moment % day_micros)
