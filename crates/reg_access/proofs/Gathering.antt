-- The list of the states before a moment, with one state more until an end.
use Rattle.std.proofs.Common.{◌≡◌, ◌<◌, ◌≤◌, ℕ, List, [], ◌∷◌, ◌++◌, Bool, true, false, Option, Some, None, nat_le, nat_lt, arith, refl, sym, ◌∙◌, ap, subst, inl, inr, append-nil}
use Rattle.std.specs.Prelude.{option_map, ◌≢◌}
use Rattle.std.specs.List.{AllByRecursion, filter, last_or}
use Rattle.std.proofs.lemmas.Bool.{cases_Bool}
use Rattle.std.proofs.lemmas.Bool.Decides.{nat_tests}
use Rattle.std.proofs.lemmas.List.Elements.{filter-append}
use Rattle.reg_access.specs.declared.state.StateKind.{StateKind}
use Rattle.reg_access.specs.States.{Neighbours}
use Rattle.reg_access.specs.States.{AreBefore, kind_in, last_kind}

-- ---- lists with one more at the end

neighbours_more : {A : Type 0} (R : A → A → Type 0) (xs : List A) (y : A) → Neighbours R xs → ((x : A) → last_or None xs ≡ Some x → R x y) → Neighbours R (xs ++ y ∷ [])
neighbours_more R [] y n h = tt
neighbours_more R (x ∷ []) y n h = (h x refl, tt)
neighbours_more R (x ∷ z ∷ rest) y n h = (n.0, neighbours_more R (z ∷ rest) y n.1 (λ w e. h w e))

last_more : {A : Type 0} (o : Option A) (xs : List A) (y : A) → last_or o (xs ++ y ∷ []) ≡ Some y
last_more o [] y = refl
last_more o (x ∷ xs) y = last_more (Some x) xs y

all_more : {A : Type 0} (P : A → Type 0) (xs : List A) (y : A) → AllByRecursion P xs → P y → AllByRecursion P (xs ++ y ∷ [])
all_more P [] y h p = (p, tt)
all_more P (x ∷ xs) y h p = (h.0, all_more P xs y h.1 p)

all_weaker : {A : Type 0} (P Q : A → Type 0) → ((x : A) → P x → Q x) → (xs : List A) → AllByRecursion P xs → AllByRecursion Q xs
all_weaker P Q f [] h = tt
all_weaker P Q f (x ∷ xs) h = (f x h.0, all_weaker P Q f xs h.1)

last_after : {A : Type 0} (P : A → Type 0) (y : A) (xs : List A) (x : A) → P y → AllByRecursion P xs → last_or (Some y) xs ≡ Some x → P x
last_after P y [] x p h e = let same : y ≡ x = cc in subst P same p
last_after P y (z ∷ xs) x p h e = last_after P z xs x h.0 h.1 e

last_in : {A : Type 0} (P : A → Type 0) (xs : List A) (x : A) → AllByRecursion P xs → last_or None xs ≡ Some x → P x
last_in P [] x h e = absurd (cc)
last_in P (y ∷ xs) x h e = last_after P y xs x h.0 h.1 e

all_pass : {A : Type 0} (test : A → Bool) (xs : List A) → AllByRecursion (λ x. test x ≡ true) xs → filter test xs ≡ xs
all_pass test [] h = refl
all_pass test (x ∷ xs) h = rw h.0 (ap (λ rest. x ∷ rest) (all_pass test xs h.1))

-- ---- what a list gives for a moment

module _ (states : List (ℕ × StateKind)) (from : ℕ) (kind : StateKind) where
  given_before : (t : ℕ) → t < from → kind_in (states ++ (from, kind) ∷ []) t ≡ kind_in states t
  given_before t w =
      let f : nat_le from t ≡ false = grind (arith, nat_tests, w) in
      rw (filter-append (λ (x : ℕ × StateKind). nat_le x.0 t) states ((from, kind) ∷ []), f, append-nil) refl

  given_from : (t : ℕ) → from ≤ t → kind_in (states ++ (from, kind) ∷ []) t ≡ Some kind
  given_from t w =
      let y : nat_le from t ≡ true = grind (arith, nat_tests, w) in
      rw (filter-append (λ (x : ℕ × StateKind). nat_le x.0 t) states ((from, kind) ∷ []), y)
      (ap (λ (o : Option (ℕ × StateKind)). option_map (λ (x : ℕ × StateKind). x.1) o) (last_more None (filter (λ (x : ℕ × StateKind). nat_le x.0 t) states) (from, kind)))

given_last : (states : List (ℕ × StateKind)) (from t : ℕ) → AllByRecursion (λ (x : ℕ × StateKind). x.0 < from) states → from ≤ t → kind_in states t ≡ last_kind states
given_last states from t h w = ap last_kind (all_pass (λ (x : ℕ × StateKind). nat_le x.0 t) states (all_weaker (λ (x : ℕ × StateKind). x.0 < from) (λ (x : ℕ × StateKind). nat_le x.0 t ≡ true) (λ x k. grind (arith, nat_tests, k, w)) states h))

-- ---- one state more, which is another than the last one, or is it

pub state_added : (kind_at : ℕ → StateKind) (from end : ℕ) (kind : StateKind) (states : List (ℕ × StateKind)) → from < end → (last_kind states ≡ Some kind → ⊥) → AreBefore kind_at from states → ((t : ℕ) → from ≤ t → t < end → kind_at t ≡ kind) → AreBefore kind_at end (states ++ (from, kind) ∷ [])
state_added kind_at from end kind states w other so_far is = record {
  ascend = neighbours_more (λ (a : ℕ × StateKind) (b : ℕ × StateKind). a.0 < b.0) states (from, kind) so_far.ascend (λ x e. last_in (λ (y : ℕ × StateKind). y.0 < from) states x so_far.before e);
  apart = neighbours_more (λ (a : ℕ × StateKind) (b : ℕ × StateKind). a.1 ≢ b.1) states (from, kind) so_far.apart (λ x e same. other (ap (λ (o : Option (ℕ × StateKind)). option_map (λ (y : ℕ × StateKind). y.1) o) e ∙ ap Some same));
  before = all_more (λ (x : ℕ × StateKind). x.0 < end) states (from, kind) (all_weaker (λ (x : ℕ × StateKind). x.0 < from) (λ (x : ℕ × StateKind). x.0 < end) (λ x k. omega (arith, k, w)) states so_far.before) w;
  gives = λ t v. elim (cases_Bool (nat_lt t from)) [
    | inl y ↦ let early : t < from = grind (arith, nat_tests, y) in given_before states from kind t early ∙ so_far.gives t early
    | inr n ↦ let late : from ≤ t = grind (arith, nat_tests, n) in given_from states from kind t late ∙ ap Some (sym (is t late v))
  ];
}

pub state_kept : (kind_at : ℕ → StateKind) (from end : ℕ) (kind : StateKind) (states : List (ℕ × StateKind)) → from < end → last_kind states ≡ Some kind → AreBefore kind_at from states → ((t : ℕ) → from ≤ t → t < end → kind_at t ≡ kind) → AreBefore kind_at end states
state_kept kind_at from end kind states w last so_far is = record {
  ascend = so_far.ascend;
  apart = so_far.apart;
  before = all_weaker (λ (x : ℕ × StateKind). x.0 < from) (λ (x : ℕ × StateKind). x.0 < end) (λ x k. omega (arith, k, w)) states so_far.before;
  gives = λ t v. elim (cases_Bool (nat_lt t from)) [
    | inl y ↦ so_far.gives t (grind (arith, nat_tests, y))
    | inr n ↦ let late : from ≤ t = grind (arith, nat_tests, n) in given_last states from t so_far.before late ∙ (last ∙ ap Some (sym (is t late v)))
  ];
}

-- ---- the end is another number for the same moment

pub ends_alike : (kind_at : ℕ → StateKind) (states : List (ℕ × StateKind)) (a b : ℕ) → a ≡ b → AreBefore kind_at a states → AreBefore kind_at b states
ends_alike kind_at states a b e h = subst (λ (n : ℕ). AreBefore kind_at n states) e h
