-- Fields one by one.
use Rattle.std.proofs.Common.{◌≡◌, ℕ, zero, suc, ◌+◌, ◌<◌, Bool, true, false, cond, List, [], ◌∷◌, ◌++◌, length, map, get_or, take, ap, ◌∙◌, arith, append-nil}
use Rattle.std.specs.List.{list_any, filter}
use Rattle.std.proofs.lemmas.List.{take_more, map-append}
use Rattle.std.proofs.lemmas.List.Elements.{filter-append}
use Rattle.std.proofs.lemmas.Bool.{or_left, or_right}
use Rattle.reg_http.specs.Fields.{Field, is_named, values_named}

-- one that passes is enough
pub any_at : {A B : Type 0} (test : B → Bool) (f : A → B) (xs : List A) (i : ℕ) (d : A) → i < length xs → test (f (get_or xs i d)) ≡ true → list_any test (map f xs) ≡ true
any_at test f [] i d inside here = absurd (omega arith)
any_at test f (x ∷ xs) zero d inside here = or_left _ _ here
any_at test f (x ∷ xs) (suc i) d inside here = or_right _ _ (any_at test f xs i d (omega arith) here)

values-append : (name : List ℕ) (xs ys : List Field) → values_named name (xs ++ ys) ≡ values_named name xs ++ values_named name ys
values-append name xs ys = ap (map (λ field. field.1)) (filter-append (is_named name) xs ys) ∙ map-append (λ field. field.1) (filter (is_named name) xs) (filter (is_named name) ys)

values-more : {A : Type 0} (name : List ℕ) (f : A → Field) (xs : List A) (i : ℕ) (d : A) → i < length xs → values_named name (map f (take (i + 1) xs)) ≡ values_named name (map f (take i xs)) ++ values_named name (f (get_or xs i d) ∷ [])
values-more name f xs i d inside = ap (λ part. values_named name (map f part)) (take_more xs i d inside) ∙ ap (values_named name) (map-append f (take i xs) _) ∙ values-append name (map f (take i xs)) _

-- a field of the name has its value at the end
pub values_more_yes : {A : Type 0} (name : List ℕ) (f : A → Field) (xs : List A) (i : ℕ) (d : A) → i < length xs → is_named name (f (get_or xs i d)) ≡ true → values_named name (map f (take (i + 1) xs)) ≡ values_named name (map f (take i xs)) ++ (f (get_or xs i d)).1 ∷ []
values_more_yes name f xs i d inside named = values-more name f xs i d inside ∙ ap (λ t. values_named name (map f (take i xs)) ++ map (λ field. field.1) (cond t (f (get_or xs i d) ∷ []) [])) named

-- another field leaves the values
pub values_more_no : {A : Type 0} (name : List ℕ) (f : A → Field) (xs : List A) (i : ℕ) (d : A) → i < length xs → is_named name (f (get_or xs i d)) ≡ false → values_named name (map f (take (i + 1) xs)) ≡ values_named name (map f (take i xs))
values_more_no name f xs i d inside other = values-more name f xs i d inside ∙ ap (λ t. values_named name (map f (take i xs)) ++ map (λ field. field.1) (cond t (f (get_or xs i d) ∷ []) [])) other ∙ append-nil _
