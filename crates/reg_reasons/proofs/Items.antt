-- The items of a list, one by one.
use Rattle.std.proofs.Common.{◌≡◌, ◌<◌, ◌⊎◌, ℕ, zero, suc, List, [], ◌∷◌, ◌++◌, Bool, true, false, arith, refl, inl, inr, sym, ◌∙◌, ap, length, get_or, map, filter}
use Rattle.std.specs.List.{Contains, list_any}
use Rattle.std.proofs.lemmas.Bool.{cases_Bool, or_cases, or_left, or_right, both_ways}

abbrev pub IsItem : {X : Type 0} → List X → X → Type 0
IsItem [] x = ⊥
IsItem (y ∷ ys) x = (y ≡ x) ⊎ IsItem ys x

pub item_from : {X : Type 0} (xs : List X) (x : X) → Contains xs x → IsItem xs x
item_from {X = X} xs x c = at xs c.0 c.1 c.2
  where
    at : (ys : List X) (k : ℕ) → k < length ys → get_or ys k x ≡ x → IsItem ys x
    at [] k l e = absurd (omega (arith, l))
    at (y ∷ ys) zero l e = inl e
    at (y ∷ ys) (suc k) l e = inr (at ys k (omega (arith, l)) e)

pub item_to : {X : Type 0} (xs : List X) (x : X) → IsItem xs x → Contains xs x
item_to [] x i = absurd i
item_to (y ∷ ys) x (inl e) = (zero, omega arith, e)
item_to (y ∷ ys) x (inr i) = let c = item_to ys x i in (suc c.0, let l = c.1 in omega (arith, l), c.2)

pub item_left : {X : Type 0} (xs ys : List X) (x : X) → IsItem xs x → IsItem (xs ++ ys) x
item_left [] ys x i = absurd i
item_left (z ∷ zs) ys x (inl e) = inl e
item_left (z ∷ zs) ys x (inr i) = inr (item_left zs ys x i)

pub item_right : {X : Type 0} (xs ys : List X) (x : X) → IsItem ys x → IsItem (xs ++ ys) x
item_right [] ys x i = i
item_right (z ∷ zs) ys x i = inr (item_right zs ys x i)

pub item_cases : {X : Type 0} (xs ys : List X) (x : X) → IsItem (xs ++ ys) x → IsItem xs x ⊎ IsItem ys x
item_cases [] ys x i = inr i
item_cases (z ∷ zs) ys x (inl e) = inl (inl e)
item_cases (z ∷ zs) ys x (inr i) = elim (item_cases zs ys x i) [ inl a ↦ inl (inr a) | inr b ↦ inr b ]

pub item_mapped : {X Y : Type 0} (f : X → Y) (xs : List X) (x : X) → IsItem xs x → IsItem (map f xs) (f x)
item_mapped f [] x i = absurd i
item_mapped f (y ∷ ys) x (inl e) = inl (ap f e)
item_mapped f (y ∷ ys) x (inr i) = inr (item_mapped f ys x i)

pub item_behind : {X Y : Type 0} (f : X → Y) (xs : List X) (y : Y) → IsItem (map f xs) y → (x : X) × IsItem xs x × (f x ≡ y)
item_behind f [] y i = absurd i
item_behind f (z ∷ zs) y (inl e) = (z, inl refl, e)
item_behind f (z ∷ zs) y (inr i) = let b = item_behind f zs y i in (b.0, inr b.1, b.2)

pub item_kept : {X : Type 0} (p : X → Bool) (xs : List X) (x : X) → IsItem xs x → p x ≡ true → IsItem (filter p xs) x
item_kept p [] x i t = absurd i
item_kept p (y ∷ ys) x (inl e) t = let u : p y ≡ true = ap p e ∙ t in rw u (inl e)
item_kept p (y ∷ ys) x (inr i) t = elim (cases_Bool (p y)) [
  | inl a ↦ rw a (inr (item_kept p ys x i t))
  | inr b ↦ rw b (item_kept p ys x i t)
]

pub item_passed : {X : Type 0} (p : X → Bool) (xs : List X) (x : X) → IsItem (filter p xs) x → IsItem xs x × (p x ≡ true)
item_passed p [] x i = absurd i
item_passed p (y ∷ ys) x i = elim (cases_Bool (p y)) [
  | inl a ↦ first a (item_passed p ys x) (rw a at i)
  | inr b ↦ let r = item_passed p ys x (rw b at i) in (inr r.0, r.1)
]
  where
    first : p y ≡ true → (IsItem (filter p ys) x → IsItem ys x × (p x ≡ true)) → IsItem (y ∷ filter p ys) x → IsItem (y ∷ ys) x × (p x ≡ true)
    first a later (inl e) = (inl e, ap p (sym e) ∙ a)
    first a later (inr i) = let r = later i in (inr r.0, r.1)

pub item_found : {X : Type 0} (p : X → Bool) (xs : List X) → list_any p xs ≡ true → (x : X) × IsItem xs x × (p x ≡ true)
item_found p [] h = absurd (both_ways false refl h)
item_found p (y ∷ ys) h = elim (or_cases (p y) (list_any p ys) h) [
  | inl a ↦ (y, inl refl, a)
  | inr b ↦ let r = item_found p ys b in (r.0, inr r.1, r.2)
]

pub found_item : {X : Type 0} (p : X → Bool) (xs : List X) (x : X) → IsItem xs x → p x ≡ true → list_any p xs ≡ true
found_item p [] x i t = absurd i
found_item p (y ∷ ys) x (inl e) t = or_left _ _ (ap p e ∙ t)
found_item p (y ∷ ys) x (inr i) t = or_right (p y) _ (found_item p ys x i t)
