-- What a change begins and ends, as lists in order.
use Rattle.std.proofs.Common.{◌≡◌, ◌≤◌, ◌<◌, ◌==◌, ◌&&◌, ◌||◌, ℕ, List, [], ◌∷◌, ◌++◌, Bool, true, false, not, cond, filter, max, map, arith, refl, sym, ◌∙◌, inl, inr, ap, zero, suc}
use Rattle.std.proofs.lemmas.Grind.{common_steps}
use Rattle.std.proofs.lemmas.Bool.Decides.{nat_tests}
use Rattle.std.proofs.lemmas.Bool.{eqb-true, eq-eqb, cases_Bool, and_parts, or_cases, or_left, or_right, and_from, cases_lt}
use Rattle.std.specs.List.{list_any, AllByRecursion}
use Rattle.std.specs.List.Sorted.{IsStrictlySortedBy}
use Rattle.std.specs.Ordering.{nat_cmp}
use Rattle.std.specs.declared.cmp.Ordering.{Ordering}
use Rattle.std.specs.declared.cmp.Ordering.TheVariants.{Less}
use Rattle.std.specs.BTreeMap.{is_at}
use Rattle.std.specs.BTreeSet.{BTreeSet}
use Rattle.std.specs.Cmp.{nat_cmp_total, then_total, on_total}
use Rattle.std.proofs.lemmas.Map.Lookups.{btree_set_from_contains, exact_pairs, exact_unsigned}
use Rattle.std.proofs.lemmas.List.Kept.{IsStrictlySortedBy-filter}
use Rattle.std.proofs.lemmas.List.{map-append}
use Rattle.std.proofs.lemmas.List.Folds.{list_any-append}
use Rattle.reg_graph.specs.Sets.{holds, pair_cmp}
use Rattle.reg_effect.specs.declared.live.Live.{Live}
use Rattle.reg_effect.specs.Member.{member}
use Rattle.reg_effect.specs.Deltas.{top, below, pairs_below, members_of, gained, is_gained, began, ended}
use Rattle.reg_graph.specs.Edges.{among}
use Rattle.reg_effect.specs.Walk.{begins, ends}
use Rattle.reg_graph.proofs.Kept.{holds_is}
use Rattle.reg_graph.proofs.Orders.{less_first}
use Rattle.reg_effect.proofs.Places.{at_number}
use Rattle.reg_effect.proofs.Tops.{member_below, among_below, among_members}

-- two lists in order with the same pairs are one
pub one_list : (xs ys : List (ℕ × ℕ)) → IsStrictlySortedBy pair_cmp xs → IsStrictlySortedBy pair_cmp ys → ((g s : ℕ) → holds g s xs ≡ holds g s ys) → xs ≡ ys
one_list xs ys a b h =
    let s : BTreeSet (ℕ × ℕ) = record { keys = xs } in
    let t : BTreeSet (ℕ × ℕ) = record { keys = ys } in
    btree_set_from_contains (then_total (on_total (λ (p : ℕ × ℕ). p.0) nat_cmp_total) (on_total (λ (p : ℕ × ℕ). p.1) nat_cmp_total)) s t a b
    (λ q. holds_is q.0 q.1 xs ∙ (h q.0 q.1 ∙ sym (holds_is q.0 q.1 ys))) (exact_pairs nat_cmp nat_cmp exact_unsigned exact_unsigned)

pub all_append : {X : Type 0} (P : X → Type 0) (xs ys : List X) → AllByRecursion P xs → AllByRecursion P ys → AllByRecursion P (xs ++ ys)
all_append P [] ys a b = b
all_append P (x ∷ xs) ys a b = (a.0, all_append P xs ys a.1 b)

pub sorted_append : {X : Type 0} (cmp : X → X → Ordering) (xs ys : List X) → IsStrictlySortedBy cmp xs → IsStrictlySortedBy cmp ys → AllByRecursion (λ x. AllByRecursion (λ y. cmp x y ≡ Less) ys) xs → IsStrictlySortedBy cmp (xs ++ ys)
unfolding IsStrictlySortedBy
sorted_append cmp [] ys a b c = b
sorted_append cmp (x ∷ xs) ys a b c = (all_append (λ y. cmp x y ≡ Less) xs ys a.0 c.0, sorted_append cmp xs ys a.1 b c.1)

pub all_map : {X Y : Type 0} (P : Y → Type 0) (f : X → Y) → ((x : X) → P (f x)) → (xs : List X) → AllByRecursion P (map f xs)
all_map P f h [] = tt
all_map P f h (x ∷ xs) = (h x, all_map P f h xs)

pub less_second : (a s t : ℕ) → s < t → pair_cmp (a, s) (a, t) ≡ Less
less_second a s t h = grind (arith, nat_tests, common_steps)

pub numbers_below : (n k : ℕ) → n ≤ k → AllByRecursion (λ s. s < k) (below n)
numbers_below zero k h = tt
numbers_below (suc n) k h = all_append (λ s. s < k) (below n) (n ∷ []) (numbers_below n k (omega (arith, h))) (omega (arith, h), tt)

pub rows_less : (a m : ℕ) (xs : List ℕ) → AllByRecursion (λ s. s < m) xs → AllByRecursion (λ (x : ℕ × ℕ). AllByRecursion (λ (y : ℕ × ℕ). pair_cmp x y ≡ Less) ((a, m) ∷ [])) (map {B = ℕ × ℕ} (λ s. (a, s)) xs)
rows_less a m [] h = tt
rows_less a m (x ∷ xs) h = ((less_second a x m h.0, tt), rows_less a m xs h.1)

-- the pairs of one group, in order
pub row_sorted : (a m : ℕ) → IsStrictlySortedBy pair_cmp (map {B = ℕ × ℕ} (λ s. (a, s)) (below m))
unfolding IsStrictlySortedBy
row_sorted a zero = tt
row_sorted a (suc m) =
    rw (map-append {B = ℕ × ℕ} (λ (s : ℕ). (a, s)) (below m) (m ∷ [])) (sorted_append pair_cmp (map {B = ℕ × ℕ} (λ s. (a, s)) (below m)) ((a, m) ∷ []) (row_sorted a m) (tt, tt)
    (rows_less a m (below m) (numbers_below m m (omega arith))))

-- each first part is below n
pub firsts_below : (n m k : ℕ) → n ≤ k → AllByRecursion (λ (p : ℕ × ℕ). p.0 < k) (pairs_below n m)
firsts_below zero m k h = tt
firsts_below (suc n) m k h = all_append (λ (p : ℕ × ℕ). p.0 < k) (pairs_below n m) (map {B = ℕ × ℕ} (λ s. (n, s)) (below m)) (firsts_below n m k (omega (arith, h))) (all_map (λ (p : ℕ × ℕ). p.0 < k) (λ s. (n, s)) (λ s. omega (arith, h)) (below m))

pub before_row : (n m : ℕ) (ps : List (ℕ × ℕ)) → AllByRecursion (λ (p : ℕ × ℕ). p.0 < n) ps → AllByRecursion (λ (x : ℕ × ℕ). AllByRecursion (λ (y : ℕ × ℕ). pair_cmp x y ≡ Less) (map {B = ℕ × ℕ} (λ s. (n, s)) (below m))) ps
before_row n m [] h = tt
before_row n m (p ∷ ps) h = (all_map (λ (y : ℕ × ℕ). pair_cmp p y ≡ Less) (λ s. (n, s)) (λ s. less_first p.0 p.1 n s h.0) (below m), before_row n m ps h.1)

pub pairs_sorted : (n m : ℕ) → IsStrictlySortedBy pair_cmp (pairs_below n m)
unfolding IsStrictlySortedBy
pairs_sorted zero m = tt
pairs_sorted (suc n) m = sorted_append pair_cmp (pairs_below n m) (map {B = ℕ × ℕ} (λ s. (n, s)) (below m)) (pairs_sorted n m) (row_sorted n m) (before_row n m (pairs_below n m) (firsts_below n m n (omega arith)))

pub gained_sorted : (L N : Live) → IsStrictlySortedBy pair_cmp (gained L N)
gained_sorted L N = IsStrictlySortedBy-filter pair_cmp (is_gained L N) (pairs_below (max (top L) (top N)) (max (top L) (top N))) (pairs_sorted (max (top L) (top N)) (max (top L) (top N)))

pub holds_row : (y q n : ℕ) (xs : List ℕ) → among q xs ≡ true → (n == y) ≡ true → holds y q (map {B = ℕ × ℕ} (λ s. (n, s)) xs) ≡ true
holds_row y q n [] h e = cc
holds_row y q n (x ∷ xs) h e = elim (or_cases _ _ h) [
  | inl here ↦ or_left _ _ (and_from _ _ e here)
  | inr later ↦ or_right ((n == y) && (x == q)) _ (holds_row y q n xs later e)
]

pub holds_below : (y q n m : ℕ) → y < n → q < m → holds y q (pairs_below n m) ≡ true
holds_below y q zero m a b = absurd (omega (arith, a))
holds_below y q (suc n) m a b =
    list_any-append (λ (p : ℕ × ℕ). (p.0 == y) && (p.1 == q)) (pairs_below n m) (map {B = ℕ × ℕ} (λ s. (n, s)) (below m)) ∙ elim (cases_lt y n) [
      | inl lt ↦ or_left _ _ (holds_below y q n m lt b)
      | inr ge ↦ or_right (holds y q (pairs_below n m)) _ (holds_row y q n (below m) (among_below q m b) (eq-eqb n y (let e : n ≡ y = omega (arith, a, ge) in e)))
    ]

pub holds_filter : (p : ℕ × ℕ → Bool) (y q : ℕ) (xs : List (ℕ × ℕ)) → holds y q (filter p xs) ≡ (p (y, q) && holds y q xs)
holds_filter p y q [] = elim (p (y, q)) as (λ b. false ≡ (b && false)) [ true ↦ refl | false ↦ refl ]
holds_filter p y q ((a, s) ∷ xs) = elim (cases_Bool ((a == y) && (s == q))) [
  | inl t ↦ let w = and_parts (a == y) (s == q) t in rw (eqb-true a y w.0, eqb-true s q w.1, eq-eqb y y refl, eq-eqb q q refl) (go (p (y, q)) (holds_filter p y q xs))
  | inr f ↦ rw f (elim (p (a, s)) as (λ b. holds y q (cond b ((a, s) ∷ filter p xs) (filter p xs)) ≡ (p (y, q) && holds y q xs)) [ true ↦ rw f (holds_filter p y q xs) | false ↦ holds_filter p y q xs ])
]
  where
    go : (b : Bool) → holds y q (filter p xs) ≡ (b && holds y q xs) → holds y q (cond b ((y, q) ∷ filter p xs) (filter p xs)) ≡ (b && true)
    go true h = or_left _ _ (and_from _ _ (eq-eqb y y refl) (eq-eqb q q refl))
    go false h = h

pub holds_gained : (L N : Live) (y q : ℕ) → holds y q (gained L N) ≡ begins (member L y q) (member N y q)
holds_gained L N y q = holds_filter (is_gained L N) y q (pairs_below (max (top L) (top N)) (max (top L) (top N))) ∙ elim (cases_Bool (is_gained L N (y, q))) [
  | inl t ↦ let m = member_below N y q (and_parts (member N y q) (not (member L y q)) t).0 in
      rw (t, holds_below y q (max (top L) (top N)) (max (top L) (top N)) (omega (arith, m.0)) (omega (arith, m.1))) refl
  | inr f ↦ rw f refl
]

-- marks in order that say who begins are the list of who begins
pub began_is : (L N : Live) (marks : List (ℕ × ℕ)) → IsStrictlySortedBy pair_cmp marks → ((y q : ℕ) → holds y q marks ≡ begins (member L y q) (member N y q)) → marks ≡ began L N
unfolding began
began_is L N marks s h = one_list marks (gained L N) s (gained_sorted L N) (λ y q. h y q ∙ sym (holds_gained L N y q))

pub ended_is : (L N : Live) (marks : List (ℕ × ℕ)) → IsStrictlySortedBy pair_cmp marks → ((y q : ℕ) → holds y q marks ≡ ends (member L y q) (member N y q)) → marks ≡ ended L N
unfolding ended
ended_is L N marks s h = one_list marks (gained N L) s (gained_sorted N L) (λ y q. h y q ∙ sym (holds_gained N L y q))

-- the members of a group are those that a list in order has
pub numbers_sorted : (n : ℕ) → IsStrictlySortedBy nat_cmp (below n)
unfolding IsStrictlySortedBy
numbers_sorted zero = tt
numbers_sorted (suc n) = sorted_append nat_cmp (below n) (n ∷ []) (numbers_sorted n) (tt, tt) (less_than n (below n) (numbers_below n n (omega arith)))
  where
    less_than : (n : ℕ) (xs : List ℕ) → AllByRecursion (λ s. s < n) xs → AllByRecursion (λ x. AllByRecursion (λ y. nat_cmp x y ≡ Less) (n ∷ [])) xs
    less_than n [] h = tt
    less_than n (x ∷ xs) h = ((one x n h.0, tt), less_than n xs h.1)
      where
        one : (x n : ℕ) → x < n → nat_cmp x n ≡ Less
        one x n h = grind (arith, nat_tests, common_steps)

pub among_at : (q : ℕ) (xs : List ℕ) → list_any (is_at (nat_cmp q)) xs ≡ among q xs
among_at q [] = refl
among_at q (x ∷ xs) = rw (among_at q xs) (ap (λ b. b || among q xs) (at_number q x))

pub one_list_of_numbers : (xs ys : List ℕ) → IsStrictlySortedBy nat_cmp xs → IsStrictlySortedBy nat_cmp ys → ((q : ℕ) → among q xs ≡ among q ys) → xs ≡ ys
one_list_of_numbers xs ys a b h =
    let s : BTreeSet ℕ = record { keys = xs } in
    let t : BTreeSet ℕ = record { keys = ys } in
    btree_set_from_contains nat_cmp_total s t a b (λ q. among_at q xs ∙ (h q ∙ sym (among_at q ys))) exact_unsigned

pub members_sorted : (L : Live) (g : ℕ) → IsStrictlySortedBy nat_cmp (members_of L g)
unfolding members_of
members_sorted L g = IsStrictlySortedBy-filter nat_cmp (member L g) (below (top L)) (numbers_sorted (top L))

pub members_is : (L : Live) (g : ℕ) (xs : List ℕ) → IsStrictlySortedBy nat_cmp xs → ((q : ℕ) → among q xs ≡ member L g q) → xs ≡ members_of L g
members_is L g xs s h = one_list_of_numbers xs (members_of L g) s (members_sorted L g) (λ q. h q ∙ sym (among_members L g q))
