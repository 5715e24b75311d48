-- The first refusal of some demands, and of more behind them.
use Rattle.std.proofs.Common.{◌≡◌, ◌++◌, ◌∷◌, [], List, None, Some, refl, inl, inr, map}
use Rattle.std.proofs.lemmas.Bool.{cases_Bool}
use Rattle.reg_terms.specs.declared.refusal.Refusal.{Refusal}
use Rattle.reg_demand.specs.Refusing.{Check, first_of}

-- where a demand isn't met, those behind it don't count
pub first_met : {A : Type 0} (check : A → Check) (xs ys : List A) (r : Refusal) → first_of (map check xs) ≡ Some r → first_of (map check (xs ++ ys)) ≡ Some r
first_met check [] ys r h = cc
first_met check (x ∷ xs) ys r h = elim (cases_Bool (check x).0) [
  | inl t ↦ rw t (rw t at h)
  | inr n ↦ rw n (first_met check xs ys r (rw n at h))
]

-- where each is met, those behind them decide
pub first_unmet : {A : Type 0} (check : A → Check) (xs ys : List A) → first_of (map check xs) ≡ None → first_of (map check (xs ++ ys)) ≡ first_of (map check ys)
first_unmet check [] ys h = refl
first_unmet check (x ∷ xs) ys h = elim (cases_Bool (check x).0) [
  | inl t ↦ cc
  | inr n ↦ rw n (first_unmet check xs ys (rw n at h))
]
