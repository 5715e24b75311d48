-- From one mark to the next: between marks the assignments stay as they are.
use Rattle.std.proofs.Common.{◌≡◌, ◌+◌, ◌<◌, ◌≤◌, ℕ, List, [], ◌∷◌, Some, min, length, arith, refl, sym, ◌∙◌, ap, subst}
use Rattle.std.specs.List.{AllByRecursion, slice_get}
use Rattle.std.specs.List.Sorted.{IsStrictlySortedBy}
use Rattle.std.specs.Ordering.{nat_cmp}
use Rattle.std.specs.declared.cmp.Ordering.TheVariants.{Less}
use Rattle.std.proofs.lemmas.Bool.Decides.{nat_tests}
use Rattle.reg_terms.specs.declared.rows.AssignRow.{AssignRow}
use Rattle.reg_access.specs.declared.state.StateKind.{StateKind}
use Rattle.reg_access.specs.Assigned.{state_said}
use Rattle.reg_access.specs.Attested.{state_by}
use Rattle.reg_access.specs.Stretches.{Held, held_by}
use Rattle.reg_access.specs.States.{AreBefore, AreStates, Neighbours, next_of}
use Rattle.reg_access.proofs.OneList.{up_to_now}

abbrev pub Rise : List ℕ → Type 0
Rise marks = Neighbours (λ (a : ℕ) (b : ℕ). a < b) marks

-- no mark lies after a moment and up to another
abbrev pub NoneIn : ℕ → ℕ → List ℕ → Type 0
NoneIn u t marks = AllByRecursion (λ m. u < m → m ≤ t → ⊥) marks

-- from the first of these marks on the assignments change at marks alone
pub record Stays (at : ℕ → List AssignRow) (end : ℕ) (marks : List ℕ) : Type 0 where
  pub up : Rise marks
  pub before : AllByRecursion (λ m. m < end) marks
  pub same : (u t : ℕ) → next_of end marks ≤ u → u ≤ t → t < end → NoneIn u t marks → at t ≡ at u

none_above : (x u t : ℕ) (later : List ℕ) → Rise (x ∷ later) → t < x → NoneIn u t later
none_above x u t [] up w = tt
none_above x u t (y ∷ later) up w = (λ a b. omega (arith, up.0, w, b), none_above y u t later up.1 (omega (arith, up.0, w)))

none_until : (end m u t : ℕ) (later : List ℕ) → Rise (m ∷ later) → t < next_of end later → NoneIn u t later
none_until end m u t [] up w = tt
none_until end m u t (x ∷ later) up w = (λ a b. omega (arith, w, b), none_above x u t later up.1 (omega (arith, w)))

next_by_end : (end : ℕ) (marks : List ℕ) → next_of end marks ≤ end
next_by_end end [] = omega arith
next_by_end end (m ∷ later) = omega arith

rise_later : (m : ℕ) (later : List ℕ) → Rise (m ∷ later) → Rise later
rise_later m [] up = tt
rise_later m (x ∷ later) up = up.1

-- until the next mark it is as at this one
still : (at : ℕ → List AssignRow) (end m : ℕ) (later : List ℕ) → Stays at end (m ∷ later) → (t : ℕ) → m ≤ t → t < next_of end later → at t ≡ at m
still at end m later h t w v = h.same m t (omega arith) w (omega (arith, v, next_by_end end later)) (λ a b. omega (arith, a), none_until end m m t later h.up v)

same_later : (at : ℕ → List AssignRow) (end m : ℕ) (later : List ℕ) → Stays at end (m ∷ later) → (u t : ℕ) → next_of end later ≤ u → u ≤ t → t < end → NoneIn u t later → at t ≡ at u
same_later at end m [] h u t w v k none = absurd (omega (arith, w, v, k))
same_later at end m (x ∷ later) h u t w v k none =
    let up : m < x = h.up.0 in
    h.same u t (omega (arith, up, w)) v k (λ a b. omega (arith, up, w, v, k, a), none)

stays_later : (at : ℕ → List AssignRow) (end m : ℕ) (later : List ℕ) → Stays at end (m ∷ later) → Stays at end later
stays_later at end m later h = record {
  up = rise_later m later h.up;
  before = h.before.1;
  same = same_later at end m later h;
}

-- the states until the first of these marks are listed, or until the end where none is left
pub record Listed (at : ℕ → List AssignRow) (kind_at : ℕ → StateKind) (end : ℕ) (rest : List ℕ) (states : List (ℕ × StateKind)) : Type 0 where
  pub stays : Stays at end rest
  pub are : AreBefore kind_at (next_of end rest) states

-- the first mark that is left lies before the end
pub within : (at : ℕ → List AssignRow) (kind_at : ℕ → StateKind) (end m : ℕ) (later : List ℕ) (states : List (ℕ × StateKind)) → Listed at kind_at end (m ∷ later) states → m < end
within at kind_at end m later states h = h.stays.before.0

-- ---- at first

is_later : (a b : ℕ) → nat_cmp a b ≡ Less → a < b
is_later a b e = grind (arith, nat_tests)

rises : (marks : List ℕ) → IsStrictlySortedBy nat_cmp marks → Rise marks
unfolding IsStrictlySortedBy
rises [] h = tt
rises (x ∷ []) h = tt
rises (x ∷ y ∷ rest) h = (is_later x y h.0.0, rises (y ∷ rest) h.1)

all_before : (now end : ℕ) (marks : List ℕ) → end ≡ now + 1 → AllByRecursion (λ m. m ≤ now) marks → AllByRecursion (λ m. m < end) marks
all_before now end [] e h = tt
all_before now end (m ∷ marks) e h = (omega (arith, e, h.0), all_before now end marks e h.1)

nothing_yet : (kind_at : ℕ → StateKind) → AreBefore kind_at 0 []
nothing_yet kind_at = record { ascend = tt; apart = tt; before = tt; gives = λ t w. absurd (omega (arith, w)) }

begins : (end : ℕ) (marks : List ℕ) → slice_get marks 0 ≡ Some 0 → next_of end marks ≡ 0
begins end [] e = absurd (cc)
begins end (m ∷ marks) e = let zero : m ≡ 0 = cc in omega (arith, zero)

pub at_first : (at : ℕ → List AssignRow) (kind_at : ℕ → StateKind) (now end : ℕ) (marks : List ℕ) → end ≡ now + 1 → slice_get marks 0 ≡ Some 0 → IsStrictlySortedBy nat_cmp marks → AllByRecursion (λ m. m ≤ now) marks
    → ((u t : ℕ) → u ≤ t → t ≤ now → NoneIn u t marks → at t ≡ at u)
    → Listed at kind_at end marks []
at_first at kind_at now end marks e first sorted by same = record {
  stays = record {
    up = rises marks sorted;
    before = all_before now end marks e by;
    same = λ u t w v k none. same u t v (omega (arith, k, e)) none;
  };
  are = subst (λ (n : ℕ). AreBefore kind_at n []) (sym (begins end marks first)) (nothing_yet kind_at);
}

-- ---- from a mark to the next

next_end : (end m : ℕ) (later : List ℕ) → Rise (m ∷ later) → next_of end (m ∷ later) ≡ min m (next_of end later)
next_end end m [] up = refl
next_end end m (x ∷ later) up = omega (arith, up.0)

pub one_listed : (name_of : ℕ → List ℕ) (at : ℕ → List AssignRow) (end m : ℕ) (later : List ℕ) (s : Held) (old new : List (ℕ × StateKind))
    → Listed at (λ t. (state_said name_of (at t) t).kind) end (m ∷ later) old
    → s ≡ held_by m name_of (at m)
    → ((kind_at : ℕ → StateKind) → AreBefore kind_at (min s.from (next_of end later)) old → ((t : ℕ) → s.from ≤ t → t < next_of end later → kind_at t ≡ (state_by s.days s.certified t).kind) → AreBefore kind_at (next_of end later) new)
    → Listed at (λ t. (state_said name_of (at t) t).kind) end later new
one_listed name_of at end m later s old new h e added =
    let from_is : s.from ≡ m = ap (λ (x : Held). x.from) e in
    let until : next_of end (m ∷ later) ≡ min s.from (next_of end later) = next_end end m later h.stays.up ∙ ap (λ (n : ℕ). min n (next_of end later)) (sym from_is) in
    record {
      stays = stays_later at end m later h.stays;
      are = added (λ t. (state_said name_of (at t) t).kind)
          (subst (λ (n : ℕ). AreBefore (λ t. (state_said name_of (at t) t).kind) n old) until h.are)
          (λ t w v. ap (λ (rows : List AssignRow). (state_said name_of rows t).kind) (still at end m later h.stays t (omega (arith, from_is, w)) v) ∙ ap (λ (x : Held). (state_by x.days x.certified t).kind) (sym e));
    }

-- ---- where no mark is left, all are listed

pub all_listed : (at : ℕ → List AssignRow) (kind_at : ℕ → StateKind) (now end : ℕ) (rest : List ℕ) (states : List (ℕ × StateKind)) → end ≡ now + 1 → length rest ≡ 0 → Listed at kind_at end rest states → AreStates kind_at now states
all_listed at kind_at now end [] states e none h = up_to_now kind_at now states (subst (λ (n : ℕ). AreBefore kind_at n states) e h.are)
all_listed at kind_at now end (m ∷ rest) states e none h = absurd (omega arith)
