-- What each step of the listing adds, over plain lists.
use Rattle.std.proofs.Common.{◌≡◌, ◌-◌, ◌<◌, ◌≤◌, ℕ, suc, List, [], ◌∷◌, ◌++◌, Option, Some, None, min, max, length, arith, refl, sym, ◌∙◌, ap}
use Rattle.std.specs.Prelude.{OnOk, Result, Ok, Err}
use Rattle.std.specs.List.{last_or, slice_get}
use Rattle.reg_access.specs.declared.state.State.{State}
use Rattle.reg_access.specs.declared.state.StateKind.{StateKind}
use Rattle.reg_access.specs.declared.state.StateKind.TheVariants as kind
use Rattle.reg_access.specs.Attested.{ending, notice, state_of}
use Rattle.reg_access.specs.States.{AreBefore, last_kind}
use Rattle.reg_access.proofs.Gathering.{ends_alike, state_added, state_kept}
use Rattle.reg_access.proofs.Periods.{attested, due, overdue, endless_so, ends_so}

pub on_ok : {A E : Type 0} (r : Result A E) (P Q : Type 0) → (P → Q) → OnOk r P → OnOk r Q
on_ok (Ok x) P Q f h = f h
on_ok (Err e) P Q f h = tt

pub last_get : {A : Type 0} (xs : List A) → last_or None xs ≡ slice_get xs (length xs - 1)
last_get [] = refl
last_get (x ∷ []) = refl
last_get (x ∷ y ∷ xs) =
    let e : length (x ∷ y ∷ xs) - 1 ≡ suc (length (y ∷ xs) - 1) = omega arith in
    last_get (y ∷ xs) ∙ sym (ap (slice_get (x ∷ y ∷ xs)) e)

-- it is one state from a moment until an end
abbrev pub Noted : ℕ → ℕ → StateKind → List (ℕ × StateKind) → List (ℕ × StateKind) → Type 0
Noted from end kind old new = (kind_at : ℕ → StateKind) → AreBefore kind_at (min from end) old → ((t : ℕ) → from ≤ t → t < end → kind_at t ≡ kind) → AreBefore kind_at end new

pub noted_late : (from end : ℕ) (kind : StateKind) (states : List (ℕ × StateKind)) → end ≤ from → Noted from end kind states states
noted_late from end kind states w kind_at so_far is = ends_alike kind_at states (min from end) end (omega (arith, w)) so_far

pub noted_again : (from end : ℕ) (kind : StateKind) (states : List (ℕ × StateKind)) → from < end → last_kind states ≡ Some kind → Noted from end kind states states
noted_again from end kind states w last kind_at so_far is = state_kept kind_at from end kind states w last (ends_alike kind_at states (min from end) from (omega (arith, w)) so_far) is

pub noted_anew : (from end : ℕ) (kind : StateKind) (states : List (ℕ × StateKind)) → from < end → (last_kind states ≡ Some kind → ⊥) → Noted from end kind states (states ++ (from, kind) ∷ [])
noted_anew from end kind states w other kind_at so_far is = state_added kind_at from end kind states w other (ends_alike kind_at states (min from end) from (omega (arith, w)) so_far) is

-- the states of a certification that ends at a moment
abbrev pub NotedEnding : ℕ → ℕ → ℕ → List (ℕ × StateKind) → List (ℕ × StateKind) → Type 0
NotedEnding ends from end old new = (kind_at : ℕ → StateKind) → AreBefore kind_at from old → ((t : ℕ) → from ≤ t → t < end → kind_at t ≡ (ending ends t).kind) → AreBefore kind_at end new

pub three_noted : (ends from end d o first second : ℕ) (a b c e : List (ℕ × StateKind)) → from ≤ end → d ≡ max from (ends - notice) → o ≡ max from ends → first ≡ min d end → second ≡ min o end
    → Noted from first kind.Attested a b → Noted d second kind.Due b c → Noted o end kind.Overdue c e → NotedEnding ends from end a e
three_noted ends from end d o first second a b c e w d_is o_is first_is second_is h k l kind_at so_far is =
    let one : AreBefore kind_at first b = h kind_at (ends_alike kind_at a from (min from first) (omega (arith, w, d_is, first_is)) so_far)
    (λ t v u. is t v (omega (arith, u, first_is)) ∙ attested ends t (omega (arith, v, u, d_is, first_is))) in
    let two : AreBefore kind_at second c = k kind_at (ends_alike kind_at b first (min d second) (omega (arith, d_is, o_is, first_is, second_is)) one)
    (λ t v u. is t (omega (arith, v, d_is)) (omega (arith, u, second_is)) ∙ due ends t (omega (arith, v, d_is)) (omega (arith, u, v, d_is, o_is, second_is))) in
    l kind_at (ends_alike kind_at c second (min o end) (omega (arith, second_is)) two)
    (λ t v u. is t (omega (arith, v, o_is)) u ∙ overdue ends t (omega (arith, v, o_is)))

-- the states while this is the last certification
abbrev pub NotedLast : Option ℕ → Option ℕ → ℕ → ℕ → List (ℕ × StateKind) → List (ℕ × StateKind) → Type 0
NotedLast days last from end old new = (kind_at : ℕ → StateKind) → AreBefore kind_at from old → ((t : ℕ) → from ≤ t → t < end → kind_at t ≡ (state_of days last t).kind) → AreBefore kind_at end new

pub ends_noted : (days last : Option ℕ) (from end ends : ℕ) (state : State) (a b : List (ℕ × StateKind)) → state ≡ state_of days last from → state.until ≡ Some ends → NotedEnding ends from end a b → NotedLast days last from end a b
ends_noted days last from end ends state a b e until h kind_at so_far is =
    let known : (state_of days last from).until ≡ Some ends = ap (λ (s : State). s.until) (sym e) ∙ until in
    h kind_at so_far (λ t w v. is t w v ∙ ends_so days last from t ends known)

pub endless_noted : (days last : Option ℕ) (from end : ℕ) (state : State) (a b : List (ℕ × StateKind)) → from ≤ end → state ≡ state_of days last from → state.until ≡ None → Noted from end state.kind a b → NotedLast days last from end a b
endless_noted days last from end state a b w e until h kind_at so_far is =
    let known : (state_of days last from).until ≡ None = ap (λ (s : State). s.until) (sym e) ∙ until in
    h kind_at (ends_alike kind_at a from (min from end) (omega (arith, w)) so_far)
    (λ t v u. is t v u ∙ (endless_so days last from t known ∙ ap (λ (s : State). s.kind) (sym e)))
