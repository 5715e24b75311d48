-- What is read as a moment is, in full, what is printed for that moment.
use Rattle.std.proofs.Common.{◌≡◌, ℕ, ◌+◌, ◌*◌, ◌/◌, ◌%◌, ◌<◌, ◌≤◌, Bool, true, false, nat_eq, List, [], ◌∷◌, cond, IfSome, slice_index, Option, Some, None, length, refl, sym, ◌∙◌, ap, arith}
use Rattle.std.proofs.lemmas.Bool.{and_parts, eqb-true, leb-true}
use Rattle.std.proofs.lemmas.Bool.Decides.{nat_tests}
use Rattle.reg_base.specs.declared.calendar.Day.{Day}
use Rattle.reg_base.specs.Calendar.{day_of}
use Rattle.reg_base.specs.MomentText.{full_shape, full_text, has_length, is_digit, digit, fits, two_at, year_at, time_at, day_at, moment_in_full, stamp, text_of}
use Rattle.reg_base.proofs.Days.{number_back}
use Rattle.std.proofs.lemmas.List.{length-append, length-take, length-drop}

digit_back : (b : ℕ) → is_digit b ≡ true → 48 + digit b ≡ b
digit_back b h = grind (arith, nat_tests)

digit_small : (b : ℕ) → digit b ≤ 9
digit_small b = grind (arith, nat_tests)

mark_back : (b mark : ℕ) → nat_eq b mark ≡ true → mark ≡ b
mark_back b mark h = sym (eqb-true b mark h)

-- two digits that write n are those that are printed for it
pair_back : (a b n : ℕ) → is_digit a ≡ true → is_digit b ≡ true → 10 * digit a + digit b ≡ n % 100 → (48 + n / 10 % 10 ≡ a) × (48 + n % 10 ≡ b)
pair_back a b n f g e =
    let first = digit_back a f in
    let second = digit_back b g in
    let small = digit_small a in
    let least = digit_small b in
    (omega arith, omega arith)

-- the parts of a text in full give it back
pub stamp_back : (text : List ℕ) (day : Day) (micros : ℕ) → length text ≡ 27 → fits full_shape text ≡ true → year_at text ≡ day.year → two_at text 5 ≡ day.month → two_at text 8 ≡ day.day → two_at text 11 ≡ micros / 3_600_000_000 % 100 → two_at text 14 ≡ micros / 60_000_000 % 60 → two_at text 17 ≡ micros / 1_000_000 % 60 → two_at text 20 ≡ micros / 10_000 % 100 → two_at text 22 ≡ micros / 100 % 100 → two_at text 24 ≡ micros % 100 → stamp day micros ≡ text
unfolding stamp
stamp_back (b0 ∷ b1 ∷ b2 ∷ b3 ∷ b4 ∷ b5 ∷ b6 ∷ b7 ∷ b8 ∷ b9 ∷ b10 ∷ b11 ∷ b12 ∷ b13 ∷ b14 ∷ b15 ∷ b16 ∷ b17 ∷ b18 ∷ b19 ∷ b20 ∷ b21 ∷ b22 ∷ b23 ∷ b24 ∷ b25 ∷ b26 ∷ []) day micros len shape year month date hour minute second front middle back =
    let p0 = and_parts _ _ shape in
    let p1 = and_parts _ _ p0.1 in
    let p2 = and_parts _ _ p1.1 in
    let p3 = and_parts _ _ p2.1 in
    let p4 = and_parts _ _ p3.1 in
    let p5 = and_parts _ _ p4.1 in
    let p6 = and_parts _ _ p5.1 in
    let p7 = and_parts _ _ p6.1 in
    let p8 = and_parts _ _ p7.1 in
    let p9 = and_parts _ _ p8.1 in
    let p10 = and_parts _ _ p9.1 in
    let p11 = and_parts _ _ p10.1 in
    let p12 = and_parts _ _ p11.1 in
    let p13 = and_parts _ _ p12.1 in
    let p14 = and_parts _ _ p13.1 in
    let p15 = and_parts _ _ p14.1 in
    let p16 = and_parts _ _ p15.1 in
    let p17 = and_parts _ _ p16.1 in
    let p18 = and_parts _ _ p17.1 in
    let p19 = and_parts _ _ p18.1 in
    let p20 = and_parts _ _ p19.1 in
    let p21 = and_parts _ _ p20.1 in
    let p22 = and_parts _ _ p21.1 in
    let p23 = and_parts _ _ p22.1 in
    let p24 = and_parts _ _ p23.1 in
    let p25 = and_parts _ _ p24.1 in
    let p26 = and_parts _ _ p25.1 in
    let high : 10 * digit b0 + digit b1 ≡ day.year / 100 % 100 = omega (arith, digit_small b0, digit_small b1, digit_small b2, digit_small b3) in
    let low : 10 * digit b2 + digit b3 ≡ day.year % 100 = omega (arith, digit_small b0, digit_small b1, digit_small b2, digit_small b3) in
    let e0 = pair_back b0 b1 (day.year / 100) p0.0 p1.0 high in
    let e2 = pair_back b2 b3 day.year p2.0 p3.0 low in
    let e5 = pair_back b5 b6 day.month p5.0 p6.0 (month ∙ omega (arith, digit_small b5, digit_small b6)) in
    let e8 = pair_back b8 b9 day.day p8.0 p9.0 (date ∙ omega (arith, digit_small b8, digit_small b9)) in
    let e11 = pair_back b11 b12 (micros / 3_600_000_000) p11.0 p12.0 hour in
    let e14 = pair_back b14 b15 (micros / 60_000_000 % 60) p14.0 p15.0 (minute ∙ omega arith) in
    let e17 = pair_back b17 b18 (micros / 1_000_000 % 60) p17.0 p18.0 (second ∙ omega arith) in
    let e20 = pair_back b20 b21 (micros / 10_000 % 100) p20.0 p21.0 (front ∙ omega arith) in
    let e22 = pair_back b22 b23 (micros / 100 % 100) p22.0 p23.0 (middle ∙ omega arith) in
    let e24 = pair_back b24 b25 (micros % 100) p24.0 p25.0 (back ∙ omega arith) in
    let m4 = mark_back b4 45 p4.0 in
    let m7 = mark_back b7 45 p7.0 in
    let m10 = mark_back b10 84 p10.0 in
    let m13 = mark_back b13 58 p13.0 in
    let m16 = mark_back b16 58 p16.0 in
    let m19 = mark_back b19 46 p19.0 in
    let m26 = mark_back b26 90 p26.0 in
    cc
stamp_back text day micros len shape year month date hour minute second front middle back = absurd (omega arith)

some_given : (test : Bool) (x y : ℕ) → cond test (Some x) None ≡ Some y → (test ≡ true) × (x ≡ y)
some_given true x y h = (refl, cc)
some_given false x y h = cc

day_again : (days micros moment : ℕ) → micros < 86_400_000_000 → days * 86_400_000_000 + micros ≡ moment → (moment / 86_400_000_000 ≡ days) × (moment % 86_400_000_000 ≡ micros)
day_again days micros moment small whole = (omega arith, omega arith)

-- the parts of a time stand at their places in the microseconds of the day
time_parts : (hour minute second front middle back micros : ℕ) → hour ≤ 23 → minute ≤ 59 → second ≤ 59 → front ≤ 99 → middle ≤ 99 → back ≤ 99 → ((hour * 60 + minute) * 60 + second) * 1_000_000 + (10_000 * front + 100 * middle + back) ≡ micros → (micros < 86_400_000_000) × (hour ≡ micros / 3_600_000_000 % 100) × (minute ≡ micros / 60_000_000 % 60) × (second ≡ micros / 1_000_000 % 60) × (front ≡ micros / 10_000 % 100) × (middle ≡ micros / 100 % 100) × (back ≡ micros % 100)
time_parts hour minute second front middle back micros h m s f g b whole = (omega arith, omega arith, omega arith, omega arith, omega arith, omega arith, omega arith)

two_small : (text : List ℕ) (place : ℕ) → two_at text place ≤ 99
two_small text place = omega (arith, digit_small (slice_index text place), digit_small (slice_index text (place + 1)))

-- a text in full that is read as a moment is the one that is printed for it
pub in_full_back : (text : List ℕ) (moment : ℕ) → length text ≡ 27 → moment_in_full text ≡ Some moment → text_of moment ≡ text
unfolding moment_in_full text_of
in_full_back text moment len read =
    let given = some_given _ _ _ read in
    let tests = and_parts _ _ given.0 in
    let shape = and_parts _ _ tests.0 in
    let seconds = and_parts _ _ tests.1 in
    let hours = and_parts _ _ seconds.0 in
    let day = number_back (year_at text) (two_at text 5) (two_at text 8) shape.1 in
    let time = time_parts (two_at text 11) (two_at text 14) (two_at text 17) (two_at text 20) (two_at text 22) (two_at text 24) (time_at text) (leb-true _ _ hours.0) (leb-true _ _ hours.1) (leb-true _ _ seconds.1) (two_small text 20) (two_small text 22) (two_small text 24) refl in
    let again = day_again (day_at text) (time_at text) moment time.0 given.1 in
    rw (again.0, again.1) (stamp_back text (day_of (day_at text)) (time_at text) len shape.0 (sym day.1) (sym day.2) (sym day.3) time.1 time.2 time.3 time.4 time.5 time.6)

pub length-full_text : (text : List ℕ) → 20 ≤ length text → length text ≤ 27 → length (full_text text) ≡ 27
length-full_text text low high = simp (length-append, length-take, length-drop) (omega arith)

read_printed : (text : List ℕ) (found : Option ℕ) → length text ≡ 27 → found ≡ moment_in_full text → IfSome found (λ moment. text_of moment ≡ text)
read_printed text None len e = tt
read_printed text (Some moment) len e = in_full_back text moment len (sym e)

length_bounds : (n : ℕ) → has_length n ≡ true → (20 ≤ n) × (n ≤ 27)
length_bounds n h = grind (arith, nat_tests)

-- the moment that a text is read as is printed as that text in full
pub moment_printed : (text full : List ℕ) (found : Option ℕ) → has_length (length text) ≡ true → full ≡ full_text text → found ≡ moment_in_full full → IfSome found (λ moment. text_of moment ≡ full_text text)
moment_printed text full found bounds is read =
    let range = length_bounds (length text) bounds in
    read_printed (full_text text) found (length-full_text text range.0 range.1) (read ∙ ap moment_in_full is)
