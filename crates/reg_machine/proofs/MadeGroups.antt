-- A group that had a member at a moment up to the clock was made.
use Rattle.std.proofs.Common.{◌≡◌, ◌⊎◌, ◌≤◌, ◌==◌, ◌&&◌, ◌||◌, ℕ, List, [], ◌∷◌, Bool, true, false, Option, Some, None, nat_le, arith, refl, sym, ◌∙◌, subst, inl, inr, eqb-true}
use Rattle.std.proofs.lemmas.Bool.{cases_Bool, and_parts, both_ways, or_cases, or_left, or_right}
use Rattle.std.proofs.lemmas.Bool.Decides.{nat_tests}
use Rattle.std.specs.List.{list_any, AllByRecursion}
use Rattle.reg_terms.specs.declared.command.Stamped.{Stamped}
use Rattle.reg_terms.specs.declared.kinds.Member.{Member}
use Rattle.reg_terms.specs.declared.kinds.Object.TheVariants.{Group}
use Rattle.reg_terms.specs.declared.rows.CompositeRow.{CompositeRow}
use Rattle.reg_terms.specs.declared.rows.GroupRow.{GroupRow}
use Rattle.reg_terms.specs.declared.rows.MemberRow.{MemberRow}
use Rattle.reg_terms.specs.Kinds.{same_member}
use Rattle.reg_terms.specs.Rows.{is_composite, is_row}
use Rattle.reg_facts.specs.Lists.{Lists}
use Rattle.reg_facts.specs.Sound.{CompositeStands, IsSound, RowStands, has_group}
use Rattle.reg_effect.specs.declared.live.Live.{Live}
use Rattle.reg_effect.specs.Member.{entries, gives, in_rows, member, member_in}
use Rattle.reg_effect.specs.Order.{has_live_row, is_live_row}
use Rattle.reg_effect.proofs.LiveLaws.{composites_same}
use Rattle.reg_effect.proofs.LiveOf.{row_self, rows_on_has}
use Rattle.reg_loader.proofs.Named.{group_has_name}
use Rattle.reg_audit.specs.Lives.{life_of}
use Rattle.reg_current.specs.Live.{live}
use Rattle.reg_machine.specs.History.{State, facts}
use Rattle.reg_machine.specs.Past.{steps, was_member}
use Rattle.reg_machine.specs.Standing.{AreStood, lives_at, stands}

-- ---- a group that has a member stands

-- a group that has a person by its rows has a row
has_some : (M : ℕ → Bool) (g s : ℕ) (rows : List (ℕ × Member)) → in_rows M rows g s ≡ true → (m : Member) × (has_live_row g m rows ≡ true)
has_some M g s [] h = cc
has_some M g s ((x, m) ∷ rows) h = elim (or_cases ((x == g) && gives M s m) (in_rows M rows g s) h) [
  | inl here ↦
      let same = eqb-true x g (and_parts (x == g) (gives M s m) here).0 in
      (m, or_left (is_live_row g m (x, m)) (has_live_row g m rows) (rw same (row_self g m)))
  | inr later ↦ let found = has_some M g s rows later in (found.0, or_right (is_live_row g found.0 (x, m)) (has_live_row g found.0 rows) found.1)
]

-- one that has a person is a composite, or has a row
has_member : (L : Live) (g s : ℕ) → member L g s ≡ true → (is_composite g L.composites ≡ true) ⊎ ((m : Member) × (has_live_row g m L.rows ≡ true))
unfolding member
has_member L g s h = elim (cases_Bool (is_composite g L.composites)) [
  | inl y ↦ inl y
  | inr other ↦ inr (has_some (λ x. member_in (entries L) L x s) g s L.rows (rw other at h))
]

row_group : (u g : ℕ) (m : Member) (rows : List MemberRow) (gs : List GroupRow) → list_any (λ (row : MemberRow). nat_le row.from u && is_row g m row) rows ≡ true → AllByRecursion (λ (row : MemberRow). RowStands gs row) rows → has_group g gs ≡ true
row_group u g m [] gs h all = cc
row_group u g m (row ∷ rows) gs h all = elim (or_cases (nat_le row.from u && is_row g m row) (list_any (λ (row : MemberRow). nat_le row.from u && is_row g m row) rows) h) [
  | inl one ↦ subst (λ n. has_group n gs ≡ true) (eqb-true row.group g (and_parts (row.group == g) (same_member row.member m) (and_parts (nat_le row.from u) (is_row g m row) one).1).0) all.0.group
  | inr more ↦ row_group u g m rows gs more all.1
]

composite_group : (g : ℕ) (cs : List CompositeRow) (gs : List GroupRow) → is_composite g cs ≡ true → AllByRecursion (λ (row : CompositeRow). CompositeStands gs row) cs → has_group g gs ≡ true
composite_group g [] gs h all = cc
composite_group g (row ∷ cs) gs h all = elim (or_cases (row.group == g) (is_composite g cs) h) [
  | inl one ↦ subst (λ n. has_group n gs ≡ true) (eqb-true row.group g one) all.0.group
  | inr more ↦ composite_group g cs gs more all.1
]

neither : (x : Bool) → (x || false) ≡ x
neither true = refl
neither false = refl

member_group : (t g s : ℕ) (f : Lists) → IsSound f → member (live t f) g s ≡ true → has_group g f.groups ≡ true
member_group t g s f sound h = elim (has_member (live t f) g s h) [
  | inl y ↦ composite_group g f.composites f.groups (sym (composites_same g f.composites) ∙ y) sound.factors_stand
  | inr found ↦ row_group t g found.0 f.rows f.groups (sym (neither (list_any (λ (row : MemberRow). nat_le row.from t && is_row g found.0 row) f.rows)) ∙ (sym (rows_on_has t g found.0 f.rows []) ∙ found.1)) sound.members_stand
]

-- ---- so it stood at that moment, and was made

at_most : (n m : ℕ) → nat_le n m ≡ true → n ≤ m
at_most n m y = grind (arith, nat_tests, y)

unborn : (t : ℕ) (life : Option (ℕ × Option ℕ)) → life ≡ None → lives_at t life ≡ true → ⊥
unborn t None none lives = both_ways false refl lives
unborn t (Some span) none lives = cc

group_made : (history : List Stamped) (clock : ℕ) → AreStood history clock → (t g s : ℕ) → t ≤ clock → was_member history t g s ≡ true → g ≤ (facts history clock).made.groups
group_made history clock h t g s w was =
    let stood : stands (Group g) (facts history t) ≡ true = group_has_name g (facts history t) (member_group t g s (facts history t) (h.sound t w) was) in
    let lives : lives_at t (life_of (Group g) (steps history clock)) ≡ true = sym (h.stood (Group g) t w) ∙ stood in
    elim (cases_Bool (nat_le g (facts history clock).made.groups)) [
      | inl y ↦ at_most g (facts history clock).made.groups y
      | inr n ↦ absurd (unborn t (life_of (Group g) (steps history clock)) ((h.lived (Group g)).new n) lives)
    ]

-- of a machine that is seen as a state
pub made_told : (history : List Stamped) (clock : ℕ) (s : State) → AreStood history clock → record { history = history; clock = clock } ≡ s → (t g x : ℕ) → t ≤ s.clock → was_member s.history t g x ≡ true → g ≤ (facts s.history s.clock).made.groups
made_told history clock s h is t g x w was = subst (λ (y : State). t ≤ y.clock → was_member y.history t g x ≡ true → g ≤ (facts y.history y.clock).made.groups) is (λ v there. group_made history clock h t g x v there) w was
