-- The day of a number is that day of the calendar.
use Rattle.std.proofs.Common.{◌≡◌, ℕ, zero, suc, ◌+◌, ◌-◌, ◌<◌, ◌≤◌, true, inl, inr, refl, sym, ◌∙◌, ap, arith, ℤ, pos, ◌+ℤ◌, unsigned_abs, to_z, w8, w16}
use Rattle.std.proofs.lemmas.Int.{to_z_pos}
use Rattle.std.proofs.lemmas.Bool.{cases_lt, lt-ltb, le-ltb, and_parts, leb-true}
use Rattle.std.proofs.lemmas.Bool.Decides.{nat_tests}
use Rattle.jiff_core.specs.declared.civil.date.Date.{Date}
use Rattle.jiff_core.specs.Date.{epoch_day, IsYmd}
use Rattle.jiff_core.specs.Calendar.{days_in_month, days_in_year, day_count, days_from_civil, IsCivilDate}
use Rattle.jiff_core.proofs.CalendarLemmas.{day_count-epoch, days_from_civil-day_count, day_count-next_year, day_count-next_month, day_count-day, day_count-last_of_year, day_count-end, day_count-later_year, day_count-day_of_year, day_count_bounds}
use Rattle.jiff_core.proofs.DateLemmas.{civil, epoch_day_injective}
use Rattle.jiff_core.proofs.SignedLemmas.{signed_arith}
use Rattle.reg_base.specs.declared.calendar.Day.{Day}
use Rattle.reg_base.specs.Calendar.{day_exists, day_number, day_from_month, day_from_year, day_of}

-- a day of the calendar in a year from 1970 to 9999, that many days after the calendar's first
pub record IsDay (day : Day) (count : ℕ) : Type 0 where
  pub year_low : 1970 ≤ day.year
  pub year_high : day.year ≤ 9999
  pub month_low : 1 ≤ day.month
  pub month_high : day.month ≤ 12
  pub day_low : 1 ≤ day.day
  pub day_high : day.day ≤ days_in_month (pos day.year) day.month
  pub counted : day_count (pos day.year) day.month day.day ≡ count

-- a place in the month is a day of it
in_month : (year month n count : ℕ) → 1970 ≤ year → year ≤ 9999 → 1 ≤ month → month ≤ 12 → n < days_in_month (pos year) month → day_count (pos year) month 1 + n ≡ count → IsDay (record { year = year; month = month; day = n + 1 }) count
in_month year month n count low high first last inside counted = record {
  year_low = low;
  year_high = high;
  month_low = first;
  month_high = last;
  day_low = omega arith;
  day_high = omega arith;
  counted = omega (arith, day_count-day (pos year) month 1 (n + 1) (omega arith) (omega arith));
}

in_year : (more year month n count : ℕ) → 1970 ≤ year → year ≤ 9999 → 1 ≤ month → month + more ≡ 12 → day_count (pos year) month 1 + n < day_count (pos year) 1 1 + days_in_year (pos year) → day_count (pos year) month 1 + n ≡ count → IsDay (day_from_month more year month n) count
unfolding day_from_month
in_year zero year month n count low high first left inside counted =
    let december : month ≡ 12 = omega arith in
    let last = day_count-last_of_year (pos year) in
    let place = day_count-day (pos year) 12 1 31 (omega arith) (omega arith) in
    in_month year month n count low high first (omega arith) (rw december (omega (arith, rw december at inside))) counted
in_year (suc more) year month n count low high first left inside counted =
    elim (cases_lt n (days_in_month (pos year) month)) [
      | inl before ↦ rw (lt-ltb n _ before) (in_month year month n count low high first (omega arith) before counted)
      | inr after ↦ let next = day_count-next_month (pos year) month first in
          rw (le-ltb n _ after) (in_year more year (month + 1) (n - days_in_month (pos year) month) count low high (omega arith) (omega arith) (omega arith) (omega arith))
    ]

in_years : (more year n count : ℕ) → 1970 ≤ year → year + more ≡ 9999 → day_count (pos year) 1 1 + n < 7_304_850 → day_count (pos year) 1 1 + n ≡ count → IsDay (day_from_year more year n) count
unfolding day_from_year
in_years zero year n count low left inside counted =
    let last : year ≡ 9999 = omega arith in
    let next = day_count-next_year (pos 9999) (pos 10000) (omega (arith, signed_arith)) refl in
    in_year 11 year 1 n count low (omega arith) (omega arith) refl (rw last (omega (arith, day_count-end, rw last at inside))) counted
in_years (suc more) year n count low left inside counted =
    elim (cases_lt n (days_in_year (pos year))) [
      | inl before ↦ rw (lt-ltb n _ before) (in_year 11 year 1 n count low (omega arith) (omega arith) refl (omega arith) counted)
      | inr after ↦ let next = day_count-next_year (pos year) (pos (year + 1)) (omega (arith, signed_arith)) (omega (arith, signed_arith)) in
          rw (le-ltb n _ after) (in_years more (year + 1) (n - days_in_year (pos year)) count (omega arith) (omega arith) (omega arith) (omega arith))
    ]

-- the day of a number is in the calendar, that many days after 1970-01-01
pub day_of_is : (n : ℕ) → n ≤ 2_932_896 → IsDay (day_of n) (4_371_953 + n)
unfolding day_of
day_of_is n h = in_years 8029 1970 n (4_371_953 + n) (omega arith) refl (omega (arith, day_count-epoch)) (omega (arith, day_count-epoch))

-- it exists
pub day_of_exists : (n : ℕ) → n ≤ 2_932_896 → day_exists (day_of n).year (day_of n).month (day_of n).day ≡ true
day_of_exists n h = let found = day_of_is n h in grind (arith, nat_tests)

-- its number is n
pub day_of_number : (n : ℕ) → n ≤ 2_932_896 → day_number (day_of n).year (day_of n).month (day_of n).day ≡ n
day_of_number n h =
    let found = day_of_is n h in
    let day = day_of n in
    let number : days_from_civil (pos day.year) day.month day.day ≡ pos n = omega (arith, signed_arith, found.counted, days_from_civil-day_count (pos day.year) day.month day.day) in
    ap unsigned_abs number

-- a date of that day number has the same parts
pub date_is : (d : Date) (n : ℕ) → n ≤ 2_932_896 → epoch_day d ≡ pos n → (d.year ≡ pos (day_of n).year) × (d.month ≡ (day_of n).month) × (d.day ≡ (day_of n).day)
date_is d n h e =
    let found = day_of_is n h in
    let day = day_of n in
    let same : Date = record { year = pos day.year; month = day.month; day = day.day; year_in = (omega (arith, signed_arith, found.year_high), omega (arith, signed_arith, found.year_high)); month_in = (found.month_low, found.month_high); day_in = (found.day_low, found.day_high) } in
    epoch_day_injective d same (omega (arith, signed_arith, found.counted, e, days_from_civil-day_count (pos day.year) day.month day.day))

-- a day of the calendar from 1970 on is at or after the first one
from_1970 : (year month day : ℕ) → 1970 ≤ year → 1 ≤ day → 4_371_953 ≤ day_count (pos year) month day
from_1970 year month day low first =
    let place = day_count-day_of_year (pos year) month day first in
    elim (cases_lt 1970 year) [
      | inl later ↦ omega (arith, day_count-epoch, day_count-later_year (pos 1970) (pos year) (omega (arith, signed_arith)) (omega (arith, signed_arith)))
      | inr same ↦ let is : year ≡ 1970 = omega arith in
          rw is (omega (arith, day_count-epoch, rw is at place))
    ]

-- what a count from -9999-01-01 on says of the day
pub number_is : (year month day n : ℕ) → 1970 ≤ year → IsCivilDate (pos year) month day → days_from_civil (pos year) month day +ℤ pos 4_371_587 ≡ pos n → (4_371_587 ≤ n) × (n ≤ 7_304_483) × (day_exists year month day ≡ true) × (day_number year month day ≡ n - 4_371_587)
number_is year month day n low civil counted =
    let exists : day_exists year month day ≡ true = grind (arith, nat_tests, signed_arith) in
    let first = from_1970 year month day low civil.2.0 in
    let bound = day_count_bounds (pos year) month day civil in
    let count = days_from_civil-day_count (pos year) month day in
    let number : days_from_civil (pos year) month day ≡ pos (n - 4_371_587) = omega (arith, signed_arith) in
    (omega (arith, signed_arith), omega (arith, signed_arith), exists, ap unsigned_abs number)

civil_same : (year y : ℤ) (month m day d : ℕ) → year ≡ y → month ≡ m → day ≡ d → IsCivilDate year month day → IsCivilDate y m d
civil_same year y month m day d e f g civil = rw (← e, ← f, ← g) civil

-- the same of a date that was made from these numbers
pub date_number : (date : Date) (year month day n : ℕ) → IsYmd (to_z w16 year) (to_z w8 month) (to_z w8 day) date → 1970 ≤ year → year ≤ 9999 → month ≤ 99 → day ≤ 99 → epoch_day date +ℤ pos 4_371_587 ≡ pos n → (4_371_587 ≤ n) × (n ≤ 7_304_483) × (day_exists year month day ≡ true) × (day_number year month day ≡ n - 4_371_587)
date_number date year month day n parts low y m d counted =
    let same_year : date.year ≡ pos year = parts.0 ∙ to_z_pos w16 year (omega arith) in
    let same_month : date.month ≡ month = omega (arith, signed_arith, parts.1 ∙ to_z_pos w8 month (omega arith)) in
    let same_day : date.day ≡ day = omega (arith, signed_arith, parts.2 ∙ to_z_pos w8 day (omega arith)) in
    number_is year month day n low
    (civil_same date.year (pos year) date.month month date.day day same_year same_month same_day (civil date))
    (rw (← same_year, ← same_month, ← same_day) counted)

exists_bounds : (year month day : ℕ) → day_exists year month day ≡ true → (1970 ≤ year) × (year ≤ 9999) × (1 ≤ month) × (month ≤ 12) × (1 ≤ day) × (day ≤ days_in_month (pos year) month)
exists_bounds year month day exists =
    let p = and_parts _ _ exists in
    let q = and_parts _ _ p.0 in
    let r = and_parts _ _ q.0 in
    let s = and_parts _ _ r.0 in
    let t = and_parts _ _ s.0 in
    (leb-true _ _ t.0, leb-true _ _ t.1, leb-true _ _ s.1, leb-true _ _ r.1, leb-true _ _ q.1, leb-true _ _ p.1)

-- a day that exists is the day of its number, which is at most that of 9999-12-31
pub number_back : (year month day : ℕ) → day_exists year month day ≡ true → (day_number year month day ≤ 2_932_896) × ((day_of (day_number year month day)).year ≡ year) × ((day_of (day_number year month day)).month ≡ month) × ((day_of (day_number year month day)).day ≡ day)
number_back year month day exists =
    let bounds : (1970 ≤ year) × (year ≤ 9999) × (1 ≤ month) × (month ≤ 12) × (1 ≤ day) × (day ≤ days_in_month (pos year) month) = exists_bounds year month day exists in
    let low : IsCivilDate (pos year) month day = ((omega (arith, signed_arith), omega (arith, signed_arith)), (bounds.2, bounds.3), (bounds.4, bounds.5)) in
    let first = from_1970 year month day bounds.0 bounds.4 in
    let last = day_count_bounds (pos year) month day low in
    let number : days_from_civil (pos year) month day ≡ pos (day_count (pos year) month day - 4_371_953) = omega (arith, signed_arith, days_from_civil-day_count (pos year) month day) in
    let is : day_number year month day ≡ day_count (pos year) month day - 4_371_953 = ap unsigned_abs number in
    let date : Date = record { year = pos year; month = month; day = day; year_in = low.0; month_in = low.1; day_in = low.2 } in
    let small : day_number year month day ≤ 2_932_896 = omega arith in
    let same = date_is date (day_number year month day) small (number ∙ ap pos (sym is)) in
    (small, omega (arith, signed_arith, same.0), sym same.1, sym same.2)
