-- An index without objects at the end of the others changes nothing that is found.
use Rattle.std.proofs.Common.{◌≡◌, ℕ, zero, suc, List, [], ◌∷◌, ◌++◌, None, refl, slice_get, option_and_then}
use Rattle.reg_facts.specs.declared.by_extension.ByExtension.{ByExtension}
use Rattle.reg_facts.specs.Index.{found}

pub grown : (items : List ByExtension) (i : ByExtension) (d : ℕ) (e : List ℕ) → found i e ≡ None
    → option_and_then (λ (j : ByExtension). found j e) (slice_get (items ++ i ∷ []) d) ≡ option_and_then (λ (j : ByExtension). found j e) (slice_get items d)
grown [] i zero e none = none
grown [] i (suc d) e none = refl
grown (x ∷ xs) i zero e none = refl
grown (x ∷ xs) i (suc d) e none = grown xs i d e none
