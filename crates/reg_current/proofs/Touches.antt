-- The objects whose grants events may change, gathered one event after another.
use Rattle.std.proofs.Common.{◌≡◌, ◌+◌, ◌<◌, ◌++◌, ◌||◌, ℕ, zero, suc, List, [], ◌∷◌, true, false, Some, length, get_or, take, refl, sym, ◌∙◌, inl, inr}
use Rattle.std.specs.List.{slice_get}
use Rattle.std.proofs.lemmas.Bool.{cases_Bool, or_cases, or_left, or_right}
use Rattle.std.proofs.lemmas.List.Folds.{list_any_more}
use Rattle.reg_terms.specs.Kinds.{same_object}
use Rattle.reg_terms.specs.declared.event.Event.{Event}
use Rattle.reg_terms.specs.declared.kinds.Object.{Object}
use Rattle.reg_facts.specs.Events.{happened}
use Rattle.reg_facts.specs.Lists.{Lists}
use Rattle.reg_facts.proofs.Places.{same_is, same_self}
use Rattle.reg_priv.specs.Grants.{grants}
use Rattle.reg_priv.specs.Touched.{is_listed, touched, KnowsTouched}

-- what stands at a place is listed
pub last_listed : (objects : List Object) (i : ℕ) (x o : Object) → Some x ≡ slice_get objects i → same_object x o ≡ true → is_listed o objects ≡ true
last_listed [] i x o e h = cc
last_listed (y ∷ ys) zero x o e h = let same : x ≡ y = cc in or_left (same_object y o) (is_listed o ys) (rw same at h)
last_listed (y ∷ ys) (suc i) x o e h = or_right (same_object y o) (is_listed o ys) (last_listed ys i x o e h)

-- one more
pub still_listed : (o x : Object) (objects : List Object) → is_listed o objects ≡ true → is_listed o (objects ++ x ∷ []) ≡ true
still_listed o x [] h = cc
still_listed o x (y ∷ ys) h = elim (or_cases (same_object y o) (is_listed o ys) h) [
  | inl one ↦ or_left (same_object y o) (is_listed o (ys ++ x ∷ [])) one
  | inr more ↦ or_right (same_object y o) (is_listed o (ys ++ x ∷ [])) (still_listed o x ys more)
]

pub one_listed : (x : Object) (objects : List Object) → is_listed x (objects ++ x ∷ []) ≡ true
one_listed x [] = rw (same_self x) refl
one_listed x (y ∷ ys) = or_right (same_object y x) (is_listed x (ys ++ x ∷ [])) (one_listed x ys)

-- the first ones are listed, and then so is one more
pub next_listed : (objects : List Object) (i : ℕ) (x : Object) (list : List Object) (o : Object) → i < length objects → x ≡ get_or objects i x → is_listed x list ≡ true → (is_listed o (take i objects) ≡ true → is_listed o list ≡ true) → is_listed o (take (i + 1) objects) ≡ true → is_listed o list ≡ true
next_listed objects i x list o w is here before h =
    let more : is_listed o (take (i + 1) objects) ≡ (is_listed o (take i objects) || same_object x o) = list_any_more (λ (y : Object). same_object y o) objects i x w ∙ rw (← is) refl in
    elim (or_cases (is_listed o (take i objects)) (same_object x o) (sym more ∙ h)) [
      | inl one ↦ before one
      | inr one ↦ rw (← same_is x o one) here
    ]

-- what an event doesn't touch has the grants from before it, and what no earlier one touched those from before them
pub touches_more : (e : Event) (f now : Lists) (old objects new : List Object) → ((o : Object) → touched e now o ≡ false → grants o (happened e now) ≡ grants o now)
    → ((o : Object) → touched e now o ≡ true → is_listed o objects ≡ true) → ((o : Object) → is_listed o old ≡ true → is_listed o new ≡ true) → ((o : Object) → is_listed o objects ≡ true → is_listed o new ≡ true)
    → KnowsTouched f now old → KnowsTouched f (happened e now) new
touches_more e f now old objects new law all kept put knows o none =
    law o (elim (cases_Bool (touched e now o)) [
      | inl y ↦ let no : true ≡ false = sym (put o (all o y)) ∙ none in cc
      | inr n ↦ n
    ]) ∙ knows o (elim (cases_Bool (is_listed o old)) [
      | inl y ↦ let no : true ≡ false = sym (kept o y) ∙ none in cc
      | inr n ↦ n
    ])
