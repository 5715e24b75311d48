-- Intervals put together moment by moment.
use Rattle.std.proofs.Common.{◌≡◌, ◌≤◌, ◌&&◌, ℕ, zero, suc, List, [], ◌∷◌, Bool, true, false, Option, Some, None, nat_lt, nat_le, arith, refl, sym, ◌∙◌, inl, inr}
use Rattle.std.proofs.lemmas.Bool.{cases_Bool}
use Rattle.std.proofs.Math.Bool.{or-true}
use Rattle.std.proofs.lemmas.Bool.Decides.{nat_tests}
use Rattle.std.proofs.lemmas.Grind.{common_steps}
use Rattle.reg_pit.specs.Spans.{covers, AreSpans, SpansFrom, NoLater, AreSpansOf, on_at, off_at, spans_until}
use Rattle.reg_pit.proofs.Alone.{alone}

-- ---- on at the moment after a last one

on_from : (m n : ℕ) (spans : List (ℕ × Option ℕ)) → m ≤ suc n → SpansFrom m spans → NoLater n spans → SpansFrom m (on_at (suc n) spans)
on_from m n [] w h l = (w, refl)
on_from m n ((s, None) ∷ spans) w h l = h
on_from m n ((s, Some e) ∷ spans) w h l = (h.0, h.1, on_from (suc e) n spans (omega (arith, l.1)) h.2 l.2)

on_last : (n : ℕ) (spans : List (ℕ × Option ℕ)) → NoLater n spans → NoLater (suc n) (on_at (suc n) spans)
on_last n [] l = (omega arith, tt)
on_last n ((s, None) ∷ spans) l = (omega (arith, l.0), later spans l.1)
  where
    later : (rest : List (ℕ × Option ℕ)) → NoLater n rest → NoLater (suc n) rest
    later [] h = tt
    later ((s, None) ∷ rest) h = (omega (arith, h.0), later rest h.1)
    later ((s, Some e) ∷ rest) h = (omega (arith, h.0), omega (arith, h.1), later rest h.2)
on_last n ((s, Some e) ∷ spans) l = (omega (arith, l.0), omega (arith, l.1), on_last n spans l.2)

on_before : (n t : ℕ) (spans : List (ℕ × Option ℕ)) → t ≤ n → covers (on_at (suc n) spans) t ≡ covers spans t
on_before n t [] w = let a : nat_le (suc n) t ≡ false = grind (arith, nat_tests, w) in rw a refl
on_before n t ((s, None) ∷ spans) w = refl
on_before n t ((s, Some e) ∷ spans) w = rw (on_before n t spans w) refl

on_then : (n : ℕ) (spans : List (ℕ × Option ℕ)) → NoLater n spans → covers (on_at (suc n) spans) (suc n) ≡ true
on_then n [] l = let a : nat_le (suc n) (suc n) ≡ true = grind (arith, nat_tests) in rw a refl
on_then n ((s, None) ∷ spans) l = let a : nat_le s (suc n) ≡ true = grind (arith, nat_tests, l.0) in rw a refl
on_then n ((s, Some e) ∷ spans) l = rw (on_then n spans l.2) (or-true (nat_le s (suc n) && nat_lt (suc n) e))

-- ---- and off then

off_from : (m n : ℕ) (spans : List (ℕ × Option ℕ)) → SpansFrom m spans → NoLater n spans → SpansFrom m (off_at (suc n) spans)
off_from m n [] h l = tt
off_from m n ((s, None) ∷ spans) h l = rw h.1 (h.0, omega (arith, l.0), tt)
off_from m n ((s, Some e) ∷ spans) h l = (h.0, h.1, off_from (suc e) n spans h.2 l.2)

off_last : (m n : ℕ) (spans : List (ℕ × Option ℕ)) → SpansFrom m spans → NoLater n spans → NoLater (suc n) (off_at (suc n) spans)
off_last m n [] h l = tt
off_last m n ((s, None) ∷ spans) h l = rw h.1 (omega (arith, l.0), omega arith, tt)
off_last m n ((s, Some e) ∷ spans) h l = (omega (arith, l.0), omega (arith, l.1), off_last (suc e) n spans h.2 l.2)

off_before : (n t : ℕ) (spans : List (ℕ × Option ℕ)) → t ≤ n → covers (off_at (suc n) spans) t ≡ covers spans t
off_before n t [] w = refl
off_before n t ((s, None) ∷ spans) w = let a : nat_lt t (suc n) ≡ true = grind (arith, nat_tests, w) in rw a refl
off_before n t ((s, Some e) ∷ spans) w = rw (off_before n t spans w) refl

off_then : (m n : ℕ) (spans : List (ℕ × Option ℕ)) → SpansFrom m spans → NoLater n spans → covers (off_at (suc n) spans) (suc n) ≡ false
off_then m n [] h l = refl
off_then m n ((s, None) ∷ spans) h l = let a : (nat_le s (suc n) && nat_lt (suc n) (suc n)) ≡ false = grind (arith, nat_tests, common_steps) in rw (a, h.1) refl
off_then m n ((s, Some e) ∷ spans) h l =
    let a : (nat_le s (suc n) && nat_lt (suc n) e) ≡ false = grind (arith, nat_tests, common_steps, l.1) in
    rw a (off_then (suc e) n spans h.2 l.2)

-- ---- moment by moment

module _ (test : ℕ → Bool) where
  at_zero : (spans : List (ℕ × Option ℕ)) → covers spans 0 ≡ test 0 → (t : ℕ) → t ≤ 0 → covers spans t ≡ test t
  at_zero spans h t w = let none : t ≡ 0 = omega (arith, w) in rw none h

  first : AreSpansOf test 0 (spans_until test 0)
  first = elim (cases_Bool (test 0)) [
    | inl y ↦ rw y (record { are = record { from_start = (omega arith, refl) }; last = (omega arith, tt); covers = at_zero ((0, None) ∷ []) (sym y) })
    | inr y ↦ rw y (record { are = record { from_start = tt }; last = tt; covers = at_zero [] (sym y) })
  ]

  or_last : (n : ℕ) (spans : List (ℕ × Option ℕ)) → ((t : ℕ) → t ≤ n → covers spans t ≡ test t) → covers spans (suc n) ≡ test (suc n) → (t : ℕ) → t ≤ suc n → covers spans t ≡ test t
  or_last n spans h k t w = elim (cases_Bool (nat_le t n)) [
    | inl y ↦ h t (grind (arith, nat_tests, y))
    | inr y ↦ let last : t ≡ suc n = grind (arith, nat_tests, y, w) in rw last k
  ]

  pub until : (now : ℕ) → AreSpansOf test now (spans_until test now)
  until zero = first
  until (suc n) =
      let before = until n in
      elim (cases_Bool (test (suc n))) [
        | inl y ↦ rw y (record {
          are = record { from_start = on_from 0 n (spans_until test n) (omega arith) before.are.from_start before.last };
          last = on_last n (spans_until test n) before.last;
          covers = or_last n (on_at (suc n) (spans_until test n)) (λ t w. on_before n t (spans_until test n) w ∙ before.covers t w) (on_then n (spans_until test n) before.last ∙ sym y);
        })
        | inr y ↦ rw y (record {
          are = record { from_start = off_from 0 n (spans_until test n) before.are.from_start before.last };
          last = off_last 0 n (spans_until test n) before.are.from_start before.last;
          covers = or_last n (off_at (suc n) (spans_until test n)) (λ t w. off_before n t (spans_until test n) w ∙ before.covers t w) (off_then 0 n (spans_until test n) before.are.from_start before.last ∙ sym y);
        })
      ]

-- intervals whose moments up to a last one pass a test are those
pub are_until : (own test : ℕ → Bool) (now : ℕ) (spans : List (ℕ × Option ℕ)) → AreSpans spans → NoLater now spans → ((t : ℕ) → covers spans t ≡ own t) → ((t : ℕ) → t ≤ now → own t ≡ test t) → spans ≡ spans_until test now
are_until own test now spans are last own_is same = alone test now spans (spans_until test now) (record { are = are; last = last; covers = λ t w. own_is t ∙ same t w }) (until test now)
