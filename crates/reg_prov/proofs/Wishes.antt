-- The turns of a batch by what is known of groups are those by what was so up to the clock.
use Rattle.std.proofs.Common.{◌≡◌, ◌≤◌, ◌<◌, ◌&&◌, ℕ, zero, suc, List, [], ◌∷◌, Bool, Option, Some, None, length, get_or, nat_lt, nat_le, if◌then◌else◌, arith, refl, ◌∙◌, ap}
use Rattle.std.proofs.lemmas.Option.{same_Some}
use Rattle.std.specs.List.{AllByRecursion, slice_get}
use Rattle.std.specs.List.Sorted.{IsNonDecreasing}
use Rattle.reg_prov.specs.declared.turn.Turn.{Turn}
use Rattle.reg_prov.specs.declared.past.GroupPast.{GroupPast}
use Rattle.reg_prov.specs.Boundaries.{boundary_before, is_boundary}
use Rattle.reg_prov.specs.Pasts.{Tell, want_in}
use Rattle.reg_prov.specs.Turns.{AreTurns, change, due_at, held, wanted_at}
use Rattle.reg_machine.specs.Past.{NeverFall}

-- ---- moments

at_most : (clock : ℕ) (moments : List ℕ) (n m : ℕ) → AllByRecursion (λ t. t ≤ clock) moments → slice_get moments n ≡ Some m → m ≤ clock
at_most clock [] n m h e = absurd (cc)
at_most clock (t ∷ moments) zero m h e = let same : t ≡ m = same_Some t m e in let low : t ≤ clock = h.0 in omega (arith, same, low)
at_most clock (t ∷ moments) (suc n) m h e = at_most clock moments n m h.1 e

later_ones : (n : ℕ) (moments : List ℕ) (j d : ℕ) → AllByRecursion (λ m. n ≤ m) moments → j < length moments → n ≤ get_or moments j d
later_ones n [] j d h w = absurd (omega (arith, w))
later_ones n (m ∷ moments) zero d h w = h.0
later_ones n (m ∷ moments) (suc j) d h w = later_ones n moments j d h.1 (omega (arith, w))

pub never_fallen : (moments : List ℕ) → NeverFall moments → IsNonDecreasing moments
never_fallen [] h i j d w v = absurd (omega (arith, v))
never_fallen (m ∷ moments) h zero zero d w v = omega arith
never_fallen (m ∷ moments) h zero (suc j) d w v = later_ones m moments j d h.0 (omega (arith, v))
never_fallen (m ∷ moments) h (suc i) zero d w v = absurd (omega (arith, w))
never_fallen (m ∷ moments) h (suc i) (suc j) d w v = never_fallen moments h.1 i j d (omega (arith, w)) (omega (arith, v))

-- ---- wishes

module _ (want other : ℕ → ℕ → ℕ → Bool) (clock : ℕ) (moments : List ℕ) (by : AllByRecursion (λ t. t ≤ clock) moments) (same : (t g s : ℕ) → t ≤ clock → want t g s ≡ other t g s) where
  held_same : (g s n : ℕ) (o : Option ℕ) → slice_get moments n ≡ o → held (λ t. want t g s) o ≡ held (λ t. other t g s) o
  held_same g s n None e = refl
  held_same g s n (Some t) e = same t g s (at_most clock moments n t by e)

  wish_same : (n g s : ℕ) → wanted_at want moments n g s ≡ wanted_at other moments n g s
  wish_same zero g s = refl
  wish_same (suc n) g s = held_same g s n (slice_get moments n) refl

  due_same : (start last n g s : ℕ) → due_at (wanted_at want moments) moments start last n g s ≡ due_at (wanted_at other moments) moments start last n g s
  due_same start last n g s = ap (λ (o : Option Bool). if is_boundary moments n && (nat_lt start n && nat_le n last) then o else None) both
    where
      both : change (wanted_at want moments (boundary_before moments n) g s) (wanted_at want moments n g s) ≡ change (wanted_at other moments (boundary_before moments n) g s) (wanted_at other moments n g s)
      both = ap (λ (b : Bool). change b (wanted_at want moments n g s)) (wish_same (boundary_before moments n) g s)
          ∙ ap (λ (b : Bool). change (wanted_at other moments (boundary_before moments n) g s) b) (wish_same n g s)

  turns_same : (start last : ℕ) (turns : List Turn) → AreTurns (wanted_at want moments) moments start last turns → AreTurns (wanted_at other moments) moments start last turns
  turns_same start last turns h = record { ordered = h.ordered; each = λ n g s. h.each n g s ∙ due_same start last n g s }

pub turns_told : (want : ℕ → ℕ → ℕ → Bool) (clock : ℕ) (moments : List ℕ) (pasts : List GroupPast) (start last : ℕ) (turns : List Turn) → AllByRecursion (λ t. t ≤ clock) moments → Tell want clock pasts
    → AreTurns (wanted_at (want_in pasts) moments) moments start last turns → AreTurns (wanted_at want moments) moments start last turns
turns_told want clock moments pasts start last turns by tell = turns_same (want_in pasts) want clock moments by tell.each start last turns
