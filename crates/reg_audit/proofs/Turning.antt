-- Memberships that are turned, noted one after another.
use Rattle.std.proofs.Common.{◌≡◌, ◌<◌, ◌+◌, ◌==◌, ◌&&◌, ℕ, List, ◌∷◌, Bool, true, false, length, drop, get_or, nat_le, if◌then◌else◌, arith, refl, sym, ap, ◌∙◌, inl, inr}
use Rattle.std.proofs.lemmas.Bool.{cases_Bool}
use Rattle.std.proofs.lemmas.Bool.Decides.{nat_tests}
use Rattle.std.proofs.lemmas.Grind.{common_steps}
use Rattle.std.proofs.lemmas.List.{drop_more}
use Rattle.reg_effect.specs.Turned.{after_turns}

either_way : (a b : ℕ) → (a == b) ≡ (b == a)
either_way a b = grind (arith, nat_tests, common_steps)

turned_now : (b l x old new : Bool) → l ≡ true → new ≡ (if b && l then x else old) → new ≡ (if b then x else old)
turned_now b l x old new h e = e ∙ rw h (elim b as (λ (c : Bool). (if c && true then x else old) ≡ (if c then x else old)) [ true ↦ refl | false ↦ refl ])

untouched : (b l x old new : Bool) → l ≡ false → new ≡ (if b && l then x else old) → new ≡ old
untouched b l x old new h e = e ∙ rw h (elim b as (λ (c : Bool). (if c && false then x else old) ≡ old) [ true ↦ refl | false ↦ refl ])

-- one more is noted
pub turn_noted : (turned : List (ℕ × ℕ × Bool)) (i : ℕ) (turn : ℕ × ℕ × Bool) (at t g s : ℕ) (old new : Bool) → i < length turned → turn ≡ get_or turned i turn → new ≡ (if ((g == turn.0) && (s == turn.1)) && nat_le at t then turn.2 else old)
    → (if nat_le at t then after_turns (drop (i + 1) turned) g s new else new) ≡ (if nat_le at t then after_turns (drop i turned) g s old else old)
turn_noted turned i turn at t g s old new w is e = elim (cases_Bool (nat_le at t)) [
  | inl y ↦
      let left : drop i turned ≡ turn ∷ drop (i + 1) turned = drop_more turned i turn w ∙ ap (λ x. x ∷ drop (i + 1) turned) (sym is) in
      let same : new ≡ (if (turn.0 == g) && (turn.1 == s) then turn.2 else old) = turned_now ((turn.0 == g) && (turn.1 == s)) (nat_le at t) turn.2 old new y (rw (either_way turn.0 g, either_way turn.1 s) e) in
      rw (y, left) (ap (after_turns (drop (i + 1) turned) g s) same)
  | inr n ↦ rw n (untouched ((g == turn.0) && (s == turn.1)) (nat_le at t) turn.2 old new n e)
]

pub both_ways : (b x : Bool) → (if b then x else x) ≡ x
both_ways true x = refl
both_ways false x = refl
