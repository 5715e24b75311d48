-- Moments in texts: what is read is at most the greatest, and what is printed is UTF-8.
use Rattle.std.proofs.Common.{◌≡◌, ◌≤◌, ◌<◌, ◌+◌, ◌*◌, ◌%◌, ℕ, List, [], ◌∷◌, None, IfSome, true, nat_lt, slice_index, arith}
use Rattle.std.specs.List.{list_all}
use Rattle.std.specs.Str.{IsAscii, IsUtf8}
use Rattle.std.proofs.lemmas.Bool.{and_parts, leb-true, ltb-true}
use Rattle.std.proofs.lemmas.Bool.Decides.{nat_tests}
use Rattle.std.proofs.lemmas.Str.{IsUtf8-from_ascii}
use Rattle.std.proofs.lemmas.Str.Ascii.{IsAscii-nil, IsAscii-cons}
use Rattle.reg_base.proofs.Days.{number_back}
use Rattle.reg_base.specs.Calendar.{day_micros}
use Rattle.reg_base.specs.MomentText.{full_text, digit, two_at, year_at, is_time, day_at, time_at, moment_in_full, moment_of, stamp, text_of}
use Rattle.reg_terms.specs.Limits.{max_moment}
use Rattle.reg_json.proofs.Options.{some_tested, either}

digit_small : (b : ℕ) → digit b ≤ 9
digit_small b = grind (arith, nat_tests)

two_small : (text : List ℕ) (place : ℕ) → two_at text place ≤ 99
two_small text place = omega (arith, digit_small (slice_index text place), digit_small (slice_index text (place + 1)))

-- a time of a day is less than a day
within_day : (hour minute second front middle back : ℕ) → hour ≤ 23 → minute ≤ 59 → second ≤ 59 → front ≤ 99 → middle ≤ 99 → back ≤ 99 → ((hour * 60 + minute) * 60 + second) * 1_000_000 + (10_000 * front + 100 * middle + back) < 86_400_000_000
within_day hour minute second front middle back h m s f g b = omega arith

within_years : (days micros : ℕ) → days ≤ 2_932_896 → micros < 86_400_000_000 → days * 86_400_000_000 + micros ≤ 253_402_300_799_999_999
within_years days micros d m = omega arith

time_within : (text : List ℕ) → is_time text ≡ true → time_at text < 86_400_000_000
time_within text h =
    let seconds = and_parts _ _ h in
    let hours = and_parts _ _ seconds.0 in
    within_day (two_at text 11) (two_at text 14) (two_at text 17) (two_at text 20) (two_at text 22) (two_at text 24) (leb-true _ _ hours.0) (leb-true _ _ hours.1) (leb-true _ _ seconds.1) (two_small text 20) (two_small text 22) (two_small text 24)

in_full_within : (text : List ℕ) → IfSome (moment_in_full text) (λ moment. moment ≤ max_moment)
unfolding moment_in_full
in_full_within text =
    some_tested _ (λ moment. moment ≤ max_moment) (day_at text * day_micros + time_at text) (λ h.
    let tests = and_parts _ _ h in
    let shape = and_parts _ _ tests.0 in
    let day = number_back (year_at text) (two_at text 5) (two_at text 8) shape.1 in
    within_years (day_at text) (time_at text) day.0 (time_within text tests.1))

-- a moment that is read is at most the greatest
pub read_within : (text : List ℕ) → IfSome (moment_of text) (λ moment. moment ≤ max_moment)
unfolding moment_of
read_within text = either _ (λ moment. moment ≤ max_moment) (moment_in_full (full_text text)) None (in_full_within (full_text text)) tt

-- bytes below 128 are ASCII
bytes_ascii : (text : List ℕ) → list_all (λ b. nat_lt b 128) text ≡ true → IsAscii text
bytes_ascii [] h = IsAscii-nil
bytes_ascii (b ∷ text) h = let both = and_parts _ _ h in IsAscii-cons b text (ltb-true _ _ both.0) (bytes_ascii text both.1)

digit_low : (n : ℕ) → nat_lt (48 + n % 10) 128 ≡ true
digit_low n = grind (arith, nat_tests)

printed_low : (moment : ℕ) → list_all (λ b. nat_lt b 128) (text_of moment) ≡ true
unfolding text_of stamp
printed_low moment = simp digit_low

-- the text of a moment is UTF-8
pub text_utf8 : (moment : ℕ) → IsUtf8 (text_of moment)
text_utf8 moment = IsUtf8-from_ascii (text_of moment) (bytes_ascii (text_of moment) (printed_low moment))
