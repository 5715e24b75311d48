-- Lists in a total order, each item once: put in one by one, and one list where they have the same.
use Rattle.std.proofs.Common.{◌≡◌, ◌||◌, ◌∷◌, List, [], Bool, true, false, refl, sym, ap, ◌∙◌}
use Rattle.std.specs.BTreeSet.{BTreeSet, insert_key}
use Rattle.std.specs.Cmp.{IsTotalOrder}
use Rattle.std.specs.List.{list_any, AllByRecursion}
use Rattle.std.specs.List.Sorted.{IsStrictlySortedBy}
use Rattle.std.specs.Ordering.{eq_by_cmp, is_eq, match_ordering, ordering_reverse}
use Rattle.std.proofs.lemmas.Map.Lookups.{btree_set_from_contains}
use Rattle.std.specs.declared.cmp.Ordering as cmp
use Rattle.std.specs.declared.cmp.Ordering.TheVariants.{Less, Equal, Greater}

-- whether one of a list stands at the place of this one
abbrev pub is_in : {K : Type 0} → (K → K → cmp.Ordering) → K → List K → Bool
is_in R q xs = list_any (eq_by_cmp R q) xs

pub twice : (a b : Bool) → (a || b) ≡ (a || (a || b))
twice true b = refl
twice false b = refl

pub swapped : (a b c : Bool) → (a || (b || c)) ≡ (b || (a || c))
swapped true true c = refl
swapped true false c = refl
swapped false b c = refl

pub in_put : {K : Type 0} {R : K → K → cmp.Ordering} → IsTotalOrder R → (q k : K) (xs : List K) → is_in R q (insert_key R xs k) ≡ (eq_by_cmp R q k || is_in R q xs)
in_put o q k [] = refl
in_put {R = R} o q k (x ∷ xs) = go (R k x) refl (in_put o q k xs)
  where
    go : (w : cmp.Ordering) → R k x ≡ w → is_in R q (insert_key R xs k) ≡ (eq_by_cmp R q k || is_in R q xs) → is_in R q (match_ordering w (k ∷ x ∷ xs) (x ∷ xs) (x ∷ insert_key R xs k)) ≡ (eq_by_cmp R q k || is_in R q (x ∷ xs))
    go Less e rest = refl
    go Equal e rest = twice (eq_by_cmp R q x) (is_in R q xs) ∙ ap (λ b. b || (eq_by_cmp R q x || is_in R q xs)) (sym (same e))
      where
        same : R k x ≡ Equal → eq_by_cmp R q k ≡ eq_by_cmp R q x
        same e = ap is_eq (o.antisymm q k ∙ ap ordering_reverse (o.congr k x q e) ∙ sym (o.antisymm q x))
    go Greater e rest = ap (λ b. eq_by_cmp R q x || b) rest ∙ swapped (eq_by_cmp R q x) (eq_by_cmp R q k) (is_in R q xs)

above_all : {K : Type 0} {R : K → K → cmp.Ordering} → IsTotalOrder R → (k x : K) (xs : List K) → R k x ≡ Less → AllByRecursion (λ y. R x y ≡ Less) xs → AllByRecursion (λ y. R k y ≡ Less) xs
above_all o k x [] h all = tt
above_all o k x (y ∷ ys) h all = (o.trans k x y h all.0, above_all o k x ys h all.1)

all_put : {K : Type 0} (R : K → K → cmp.Ordering) (P : K → Type 0) (k : K) (xs : List K) → P k → AllByRecursion P xs → AllByRecursion P (insert_key R xs k)
all_put R P k [] p all = (p, tt)
all_put R P k (x ∷ xs) p all = go (R k x) (all_put R P k xs p all.1)
  where
    go : (w : cmp.Ordering) → AllByRecursion P (insert_key R xs k) → AllByRecursion P (match_ordering w (k ∷ x ∷ xs) (x ∷ xs) (x ∷ insert_key R xs k))
    go Less rest = (p, all)
    go Equal rest = all
    go Greater rest = (all.0, rest)

-- a list in order stays so
pub put_sorted : {K : Type 0} {R : K → K → cmp.Ordering} → IsTotalOrder R → (k : K) (xs : List K) → IsStrictlySortedBy R xs → IsStrictlySortedBy R (insert_key R xs k)
unfolding IsStrictlySortedBy
put_sorted o k [] h = (tt, tt)
put_sorted {R = R} o k (x ∷ xs) h = go (R k x) refl (put_sorted o k xs h.1)
  where
    go : (w : cmp.Ordering) → R k x ≡ w → IsStrictlySortedBy R (insert_key R xs k) → IsStrictlySortedBy R (match_ordering w (k ∷ x ∷ xs) (x ∷ xs) (x ∷ insert_key R xs k))
    go Less e rest = ((e, above_all o k x xs e h.0), h)
    go Equal e rest = h
    go Greater e rest = (all_put R (λ y. R x y ≡ Less) k xs (o.antisymm x k ∙ ap ordering_reverse e) h.0, rest)

-- two lists in order that have the same are one
pub one_list : {K : Type 0} {R : K → K → cmp.Ordering} → IsTotalOrder R → ((x y : K) → R x y ≡ Equal → x ≡ y) → (xs ys : List K) → IsStrictlySortedBy R xs → IsStrictlySortedBy R ys → ((q : K) → is_in R q xs ≡ is_in R q ys) → xs ≡ ys
one_list {K = K} o exact xs ys a b same =
    let s : BTreeSet K = record { keys = xs } in
    let t : BTreeSet K = record { keys = ys } in
    btree_set_from_contains o s t a b same exact
