-- Notes in the order of their moments.
use Rattle.std.proofs.Common.{◌≡◌, ◌≤◌, ◌++◌, ℕ, List, [], ◌∷◌, true, false, Option, None, nat_le, if◌then◌else◌, arith, refl, sym, ◌∙◌, ap, inl, inr}
use Rattle.std.proofs.lemmas.Bool.{cases_Bool}
use Rattle.std.proofs.lemmas.Bool.Decides.{nat_tests}
use Rattle.std.proofs.lemmas.Grind.{common_steps}
use Rattle.std.specs.List.{AllByRecursion}
use Rattle.std.specs.List.Sorted.{IsStrictlySortedBy}
use Rattle.std.specs.Map.{keys_of}
use Rattle.std.specs.BTreeMap.{insert_entry}
use Rattle.std.specs.BTreeMap.Range.{entries_between, range_contains}
use Rattle.std.specs.Ordering.{nat_cmp}
use Rattle.std.specs.declared.ops.Bound.TheVariants.{Included, Unbounded}
use Rattle.std.specs.declared.cmp.Ordering.TheVariants.{Less}
use Rattle.reg_pit.specs.Wheel.{noted_at, last_up_to, AreNotedBy}
use Rattle.reg_pit.proofs.Orders.{less, equal, greater, answer}

-- what some notes say at their end
abbrev pub ends : Option ℕ → List (ℕ × Option ℕ) → Option ℕ
ends before [] = before
ends before (note ∷ notes) = ends note.1 notes

up_to_ends : (t : ℕ) (before : Option ℕ) (notes : List (ℕ × Option ℕ)) → last_up_to t before notes ≡ ends before (entries_between nat_cmp Unbounded (Included t) notes)
up_to_ends t before [] = refl
up_to_ends t before ((m, v) ∷ notes) = elim (cases_Bool (nat_le m t)) [
  | inl y ↦ let in_range : range_contains nat_cmp Unbounded (Included t) m ≡ true = grind (arith, nat_tests, common_steps, y) in rw (y, in_range) (up_to_ends t v notes)
  | inr y ↦ let in_range : range_contains nat_cmp Unbounded (Included t) m ≡ false = grind (arith, nat_tests, common_steps, y) in rw (y, in_range) (up_to_ends t before notes)
]

ends_last : (before : Option ℕ) (notes : List (ℕ × Option ℕ)) (note : ℕ × Option ℕ) → ends before (notes ++ note ∷ []) ≡ note.1
ends_last before [] note = refl
ends_last before (n ∷ notes) note = ends_last n.1 notes note

-- the last of the notes up to a moment tells
pub last_tells : (t : ℕ) (notes part front : List (ℕ × Option ℕ)) (note : ℕ × Option ℕ) → part ≡ entries_between nat_cmp Unbounded (Included t) notes → part ≡ front ++ note ∷ [] → note.1 ≡ noted_at notes t
last_tells t notes part front note is last = sym (up_to_ends t None notes ∙ (ap (ends None) (sym is ∙ last) ∙ ends_last None front note))

pub none_tells : (t : ℕ) (notes part : List (ℕ × Option ℕ)) → part ≡ entries_between nat_cmp Unbounded (Included t) notes → part ≡ [] → None ≡ noted_at notes t
none_tells t notes part is none = sym (up_to_ends t None notes ∙ ap (ends None) (sym is ∙ none))

-- behind a note at the greatest moment there is none
none_behind : (at : ℕ) (notes : List (ℕ × Option ℕ)) → AllByRecursion (λ q. nat_cmp at q ≡ Less) (keys_of notes) → AreNotedBy at notes → notes ≡ []
none_behind at [] h a = refl
none_behind at (n ∷ notes) h a =
    let k : nat_cmp at n.0 ≡ Less = h.0 in
    let w : n.0 ≤ at = a.0 in
    absurd (grind (arith, nat_tests, common_steps, k, w))

at_end : (at t : ℕ) (w v before : Option ℕ) → (if nat_le at t then w else before) ≡ (if nat_le at t then w else (if nat_le at t then v else before))
at_end at t w v before = elim (cases_Bool (nat_le at t)) [ inl y ↦ rw y refl | inr y ↦ rw y refl ]

pub noted_more : (at t : ℕ) (w before : Option ℕ) (notes : List (ℕ × Option ℕ)) → IsStrictlySortedBy nat_cmp (keys_of notes) → AreNotedBy at notes → last_up_to t before (insert_entry nat_cmp notes at w) ≡ (if nat_le at t then w else last_up_to t before notes)
unfolding IsStrictlySortedBy
noted_more at t w before [] h a = refl
noted_more at t w before ((m, v) ∷ notes) h a = elim (answer (nat_cmp at m)) [
  | less b ↦ let k : m ≤ at = a.0 in absurd (grind (arith, nat_tests, common_steps, b, k))
  | greater b ↦ rw b (noted_more at t w (if nat_le m t then v else before) notes h.1 a.1)
  | equal b ↦
      let same : m ≡ at = grind (arith, nat_tests, common_steps, b) in
      let none : notes ≡ [] = none_behind at notes (rw same at h.0) a.1 in
      rw (b, none, same) (at_end at t w v before)
]

pub noted_by : (at : ℕ) (w : Option ℕ) (notes : List (ℕ × Option ℕ)) → AreNotedBy at notes → AreNotedBy at (insert_entry nat_cmp notes at w)
noted_by at w [] a = (omega arith, tt)
noted_by at w ((m, v) ∷ notes) a = elim (answer (nat_cmp at m)) [
  | less b ↦ rw b (omega arith, (a.0, a.1))
  | equal b ↦ rw b (a.0, a.1)
  | greater b ↦ rw b (a.0, noted_by at w notes a.1)
]

-- what was noted by a moment was noted by a later one, and stays
pub noted_later : (a b : ℕ) (notes : List (ℕ × Option ℕ)) → a ≤ b → AreNotedBy a notes → AreNotedBy b notes
noted_later a b [] w h = tt
noted_later a b (note ∷ notes) w h = (omega (arith, h.0), noted_later a b notes w h.1)

all_up_to : (at t : ℕ) (before : Option ℕ) (notes : List (ℕ × Option ℕ)) → at ≤ t → AreNotedBy at notes → last_up_to t before notes ≡ last_up_to at before notes
all_up_to at t before [] w h = refl
all_up_to at t before (note ∷ notes) w h =
    let k : note.0 ≤ at = h.0 in
    let now : nat_le note.0 at ≡ true = grind (arith, nat_tests, k) in
    let then_ : nat_le note.0 t ≡ true = grind (arith, nat_tests, k) in
    rw (now, then_) (all_up_to at t note.1 notes w h.1)

pub noted_stays : (at t : ℕ) (notes : List (ℕ × Option ℕ)) → at ≤ t → AreNotedBy at notes → noted_at notes t ≡ noted_at notes at
noted_stays at t notes w h = all_up_to at t None notes w h
