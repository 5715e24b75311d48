-- What becomes of a pair at the boundary of a number is what is due there.
use Rattle.std.proofs.Common.{◌≡◌, ◌==◌, ◌&&◌, ℕ, List, [], ◌∷◌, Bool, true, false, Option, None, Result, Ok, Err, IfOk, Vec, nat_lt, nat_le, refl, sym, ◌∙◌, ap, subst, inl, inr}
use Rattle.std.proofs.lemmas.Bool.{cases_Bool, and_parts, and_from, eqb-true, ltb-true, leb-true, lt-ltb, le-leb, false≢true}
use Rattle.std.specs.List.{AllByRecursion}
use Rattle.std.specs.List.Sorted.{IsStrictlySortedBy}
use Rattle.reg_prov.specs.declared.boundary.Boundary.{Boundary}
use Rattle.reg_prov.specs.declared.turn.Turn.{Turn}
use Rattle.reg_prov.specs.Boundaries.{boundary_before, is_boundary, moment_at}
use Rattle.reg_prov.specs.Steps.{AreBoundaries, IsInside, change_at, change_in, has_number}
use Rattle.reg_prov.specs.Turns.{AreTurns, change, due_at, held, turn_at, turn_cmp, wanted_at}

module _ (moments : List ℕ) (start last : ℕ) where
  abbrev inside_at : ℕ → Bool
  inside_at n = is_boundary moments n && (nat_lt start n && nat_le n last)

  stands_inside : (b : Boundary) → IsInside moments start last b → inside_at b.number ≡ true
  stands_inside b h = and_from (is_boundary moments b.number) (nat_lt start b.number && nat_le b.number last) h.stands (and_from (nat_lt start b.number) (nat_le b.number last) (lt-ltb start b.number h.behind) (le-leb b.number last h.within))

  module _ (w : ℕ → Bool) where
    abbrev due : ℕ → Option Bool
    due n = change (held w (moment_at moments (boundary_before moments n))) (held w (moment_at moments n))

    due_here : (b : Boundary) → IsInside moments start last b → change_in w b ≡ due b.number
    due_here b h =
        ap (λ (o : Option ℕ). change (held w o) (w b.at)) (sym h.earlier)
        ∙ ap (λ (o : Option ℕ). change (held w (moment_at moments (boundary_before moments b.number))) (held w o)) (sym h.moment)

    due_inside : (bs : List Boundary) (n : ℕ) → AllByRecursion (IsInside moments start last) bs → has_number n bs ≡ true → change_at w bs n ≡ due n
    due_inside [] n h y = absurd (false≢true y)
    due_inside (b ∷ bs) n h y = elim (cases_Bool (b.number == n)) [
      | inl e ↦ rw e (subst (λ (k : ℕ). change_in w b ≡ due k) (eqb-true b.number n e) (due_here b h.0))
      | inr f ↦ rw f (due_inside bs n h.1 (rw f at y))
    ]

    due_outside : (bs : List Boundary) (n : ℕ) → AllByRecursion (IsInside moments start last) bs → inside_at n ≡ false → change_at w bs n ≡ None
    due_outside [] n h f = refl
    due_outside (b ∷ bs) n h f = elim (cases_Bool (b.number == n)) [
      | inl e ↦ absurd (false≢true (sym f ∙ subst (λ (k : ℕ). inside_at k ≡ true) (eqb-true b.number n e) (stands_inside b h.0)))
      | inr g ↦ rw g (due_outside bs n h.1 f)
    ]

pub due_is : (want : ℕ → ℕ → ℕ → Bool) (moments : List ℕ) (start last : ℕ) (bs : List Boundary) → AreBoundaries moments start last bs → (n g s : ℕ) → change_at (λ t. want t g s) bs n ≡ due_at (wanted_at want moments) moments start last n g s
due_is want moments start last bs are n g s = elim (cases_Bool (inside_at moments start last n)) [
  | inl y ↦
      let both = and_parts (is_boundary moments n) (nat_lt start n && nat_le n last) y in
      let within = and_parts (nat_lt start n) (nat_le n last) both.1 in
      rw y (due_inside moments start last (λ t. want t g s) bs n are.inside (are.all n both.0 (ltb-true start n within.0) (leb-true n last within.1)))
  | inr f ↦ rw f (due_outside moments start last (λ t. want t g s) bs n are.inside f)
]

pub turns_are : (want : ℕ → ℕ → ℕ → Bool) (moments : List ℕ) (start last : ℕ) (bs : List Boundary) (turns : List Turn) → AreBoundaries moments start last bs → IsStrictlySortedBy turn_cmp turns
    → ((n g s : ℕ) → turn_at turns n g s ≡ change_at (λ t. want t g s) bs n) → AreTurns (wanted_at want moments) moments start last turns
turns_are want moments start last bs turns are up h = record { ordered = up; each = λ n g s. h n g s ∙ due_is want moments start last bs are n g s }

pub turns_are_on : {E Z : Type 0} (r : Result (Vec Turn Z) E) (want : ℕ → ℕ → ℕ → Bool) (moments : List ℕ) (start last : ℕ) (bs : List Boundary) (turns : List Turn) → AreBoundaries moments start last bs → ((n g s : ℕ) → turn_at turns n g s ≡ change_at (λ t. want t g s) bs n)
    → IfOk r (λ listed. listed.items ≡ turns) → IfOk r (λ listed. IsStrictlySortedBy turn_cmp listed.items) → IfOk r (λ listed. AreTurns (wanted_at want moments) moments start last listed.items)
turns_are_on (Ok listed) want moments start last bs turns are h same up = turns_are want moments start last bs listed.items are up (λ n g s. ap (λ (ts : List Turn). turn_at ts n g s) same ∙ h n g s)
turns_are_on (Err e) want moments start last bs turns are h same up = same
