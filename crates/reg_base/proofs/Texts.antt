-- The text that is printed for a moment reads back as that moment.
use Rattle.std.proofs.Common.{◌≡◌, ℕ, ◌+◌, ◌*◌, ◌/◌, ◌%◌, ◌<◌, ◌≤◌, true, nat_le, List, Some, refl, ◌∙◌, ap, arith, pos}
use Rattle.std.proofs.lemmas.Bool.Decides.{nat_tests}
use Rattle.reg_base.specs.declared.calendar.Day.{Day}
use Rattle.reg_base.specs.Calendar.{day_exists, day_number, day_micros, day_of}
use Rattle.reg_base.specs.MomentText.{full_shape, fits, digit, two_at, year_at, is_day, is_time, day_at, time_at, moment_in_full, moment_of, stamp, text_of}
use Rattle.jiff_core.proofs.CalendarLemmas.{days_in_month_bounds}
use Rattle.reg_base.proofs.Days.{day_of_is, day_of_exists, day_of_number}

-- a printed digit is a digit
is_digit_low : (n : ℕ) → nat_le 48 (48 + n) ≡ true
is_digit_low n = grind (arith, nat_tests)

is_digit_high : (n : ℕ) → nat_le (48 + n % 10) 57 ≡ true
is_digit_high n = grind (arith, nat_tests)

-- it has the value that was printed
digit_of : (n : ℕ) → digit (48 + n % 10) ≡ n % 10
digit_of n = simp (is_digit_low, is_digit_high) (omega arith)

two_of : (n : ℕ) → n < 100 → 10 * digit (48 + n / 10 % 10) + digit (48 + n % 10) ≡ n
two_of n h = omega (arith, digit_of (n / 10), digit_of n)

-- what the parts of a text say is its moment
in_full : (text : List ℕ) (days micros : ℕ) → fits full_shape text ≡ true → is_day text ≡ true → is_time text ≡ true → day_at text ≡ days → time_at text ≡ micros → moment_in_full text ≡ Some (days * day_micros + micros)
unfolding moment_in_full
in_full text days micros shape day time at_day at_time = rw (shape, day, time, at_day, at_time)

same_day : (year month day y m d : ℕ) → y ≡ year → m ≡ month → d ≡ day → day_exists year month day ≡ true → (day_exists y m d ≡ true) × (day_number y m d ≡ day_number year month day)
same_day year month day y m d e f g exists = rw (e, f, g) (exists, refl)

stamp_fits : (day : Day) (micros : ℕ) → fits full_shape (stamp day micros) ≡ true
unfolding stamp
stamp_fits day micros = simp (is_digit_low, is_digit_high)

stamp_year : (day : Day) (micros : ℕ) → day.year ≤ 9999 → year_at (stamp day micros) ≡ day.year
unfolding stamp
stamp_year day micros h = omega (arith, digit_of (day.year / 100 / 10), digit_of (day.year / 100), digit_of (day.year / 10), digit_of day.year)

stamp_month : (day : Day) (micros : ℕ) → day.month < 100 → two_at (stamp day micros) 5 ≡ day.month
unfolding stamp
stamp_month day micros h = two_of day.month h

stamp_day : (day : Day) (micros : ℕ) → day.day < 100 → two_at (stamp day micros) 8 ≡ day.day
unfolding stamp
stamp_day day micros h = two_of day.day h

stamp_hour : (day : Day) (micros : ℕ) → micros < 86_400_000_000 → two_at (stamp day micros) 11 ≡ micros / 3_600_000_000
unfolding stamp
stamp_hour day micros h = two_of (micros / 3_600_000_000) (omega arith)

stamp_minute : (day : Day) (micros : ℕ) → two_at (stamp day micros) 14 ≡ micros / 60_000_000 % 60
unfolding stamp
stamp_minute day micros = two_of (micros / 60_000_000 % 60) (omega arith)

stamp_second : (day : Day) (micros : ℕ) → two_at (stamp day micros) 17 ≡ micros / 1_000_000 % 60
unfolding stamp
stamp_second day micros = two_of (micros / 1_000_000 % 60) (omega arith)

stamp_fraction : (day : Day) (micros : ℕ) → 10_000 * two_at (stamp day micros) 20 + 100 * two_at (stamp day micros) 22 + two_at (stamp day micros) 24 ≡ micros % 1_000_000
unfolding stamp
stamp_fraction day micros = omega (arith, two_of (micros / 10_000 % 100) (omega arith), two_of (micros / 100 % 100) (omega arith), two_of (micros % 100) (omega arith))

-- the parts of a time make it up again
time_again : (micros hour minute second fraction : ℕ) → micros < 86_400_000_000 → hour ≡ micros / 3_600_000_000 → minute ≡ micros / 60_000_000 % 60 → second ≡ micros / 1_000_000 % 60 → fraction ≡ micros % 1_000_000 → (hour ≤ 23) × (minute ≤ 59) × (second ≤ 59) × (((hour * 60 + minute) * 60 + second) * 1_000_000 + fraction ≡ micros)
time_again micros hour minute second fraction h e f g k = (omega arith, omega arith, omega arith, omega arith)

stamp_reads : (day : Day) (micros : ℕ) → day.year ≤ 9999 → day.month < 100 → day.day < 100 → day_exists day.year day.month day.day ≡ true → micros < 86_400_000_000 → moment_in_full (stamp day micros) ≡ Some (day_number day.year day.month day.day * day_micros + micros)
stamp_reads day micros year month date exists inside =
    let same = same_day day.year day.month day.day _ _ _ (stamp_year day micros year) (stamp_month day micros month) (stamp_day day micros date) exists in
    let again = time_again micros _ _ _ _ inside (stamp_hour day micros inside) (stamp_minute day micros) (stamp_second day micros) (stamp_fraction day micros) in
    in_full (stamp day micros) (day_number day.year day.month day.day) micros (stamp_fits day micros) same.0 (grind (arith, nat_tests)) same.1 again.3

-- a text in full is its own full text
stamp_is_full : (day : Day) (micros : ℕ) → moment_of (stamp day micros) ≡ moment_in_full (stamp day micros)
unfolding stamp moment_of
stamp_is_full day micros = refl

-- the text of a moment reads back as it
pub text_of_reads : (moment : ℕ) → moment ≤ 253_402_300_799_999_999 → moment_of (text_of moment) ≡ Some moment
unfolding text_of
text_of_reads moment h =
    let days : moment / day_micros ≤ 2_932_896 = omega arith in
    let inside : moment % day_micros < 86_400_000_000 = omega arith in
    let day = day_of (moment / day_micros) in
    let found = day_of_is (moment / day_micros) days in
    let exists = day_of_exists (moment / day_micros) days in
    let number = day_of_number (moment / day_micros) days in
    stamp_is_full day _ ∙ stamp_reads day (moment % day_micros) found.year_high (omega (arith, found.month_high)) (omega (arith, found.day_high, days_in_month_bounds (pos day.year) day.month)) exists inside ∙ ap (λ n. Some n) (rw number (omega arith))
