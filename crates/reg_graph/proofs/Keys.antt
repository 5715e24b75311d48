-- Keys (to, from, number) of edges.
use Rattle.std.proofs.Common.{Option, Some, None, Bor, ◌≡◌, ◌<◌, ◌+◌, ◌&&◌, ◌||◌, ◌==◌, ◌^◌, ℕ, List, [], ◌∷◌, Bool, true, false, cond, arith, refl, sym, ◌∙◌, ap, inl, inr, map, filter}
use Rattle.std.proofs.lemmas.Grind.{common_steps}
use Rattle.std.proofs.lemmas.Bool.Decides.{nat_tests}
use Rattle.std.proofs.lemmas.Bool.{cases_Bool, and_parts, and_from, eqb-true, eq-eqb, ne_eqb, or_cases, or_parts, or_from, or_left, or_right, both_ways, and_right}
use Rattle.std.specs.List.{list_any, AllByRecursion}
use Rattle.std.specs.List.Sorted.{IsPermutation}
use Rattle.std.specs.BTreeSet.{insert_key}
use Rattle.std.specs.Set.{remove_key}
use Rattle.std.specs.BTreeMap.{is_at}
use Rattle.std.specs.BTreeMap.Range.{range_contains}
use Rattle.std.specs.Ordering.{nat_cmp, ordering_then, match_ordering, is_eq}
use Rattle.std.specs.declared.cmp.Ordering.{Ordering}
use Rattle.std.specs.declared.cmp.Ordering.TheVariants.{Less, Equal, Greater}
use Rattle.std.specs.declared.ops.Bound.TheVariants.{Included}
use Rattle.std.proofs.lemmas.List.Sorted.{IsPermutation-refl, IsPermutation-sym, IsPermutation-trans, IsPermutation-cons, IsPermutation-middle, IsPermutation-map}
use Rattle.std.proofs.lemmas.List.Elements.{recursion_from_All, All-weaker}
use Rattle.std.proofs.lemmas.Map.Views.{All-insert_key, All-remove_key}
use Rattle.std.specs.Prelude.{not, is_some}
use Rattle.std.specs.Option.{option_copied}
use Rattle.std.specs.Map.Iter.{TakesFirst, deref}
use Rattle.reg_graph.specs.Edges.{has_edge, is_needed, among}
use Rattle.reg_graph.specs.Levels.{edge_of, IsNumbered}

abbrev pub key_cmp : ℕ × ℕ × ℕ → ℕ × ℕ × ℕ → Ordering
key_cmp a b = ordering_then (ordering_then (nat_cmp a.0 b.0) (nat_cmp a.1 b.1)) (nat_cmp a.2 b.2)

pub at_key : (a b c x y z : ℕ) → is_at (key_cmp (a, b, c)) (x, y, z) ≡ (((x == a) && (y == b)) && (z == c))
at_key a b c x y z = grind (arith, nat_tests, common_steps)

pub same_key : (x k : ℕ × ℕ × ℕ) → x.0 ≡ k.0 → x.1 ≡ k.1 → x.2 ≡ k.2 → x ≡ k
same_key (a, b, d) k e0 e1 e2 = rw (e0, e1, e2) refl

-- no key has the next number
pub fresh : (a b next : ℕ) (keys : List (ℕ × ℕ × ℕ)) → AllByRecursion (λ (k : ℕ × ℕ × ℕ). (k.1 < 2 ^ 32) × (k.2 < next)) keys → list_any (is_at (key_cmp (a, b, next))) keys ≡ false
fresh a b next [] h = refl
fresh a b next (k ∷ ks) h = or_from _ _ (at_key a b next k.0 k.1 k.2 ∙ and_right ((k.0 == a) && (k.1 == b)) _ (ne_eqb k.2 next (λ e. absurd (omega (arith, e, h.0.1))))) (fresh a b next ks h.1)

-- a new key is one more
pub insert_permutes : (k : ℕ × ℕ × ℕ) (ks : List (ℕ × ℕ × ℕ)) → list_any (is_at (key_cmp k)) ks ≡ false → IsPermutation (k ∷ ks) (insert_key key_cmp ks k)
insert_permutes k [] h = IsPermutation-refl (k ∷ [])
insert_permutes k (x ∷ xs) h =
    let parts = or_parts (is_at (key_cmp k) x) (list_any (is_at (key_cmp k)) xs) h in
    go (key_cmp k x) parts.0 (insert_permutes k xs parts.1)
  where
    go : (o : Ordering) → is_eq o ≡ false → IsPermutation (k ∷ xs) (insert_key key_cmp xs k) → IsPermutation (k ∷ x ∷ xs) (match_ordering o (k ∷ x ∷ xs) (x ∷ xs) (x ∷ insert_key key_cmp xs k))
    go Less h p = IsPermutation-refl (k ∷ x ∷ xs)
    go Equal h p = cc
    go Greater h p = IsPermutation-trans (k ∷ x ∷ xs) (x ∷ k ∷ xs) (x ∷ insert_key key_cmp xs k) (IsPermutation-sym (x ∷ k ∷ xs) (k ∷ x ∷ xs) (IsPermutation-middle (x ∷ []) k xs)) (IsPermutation-cons x (k ∷ xs) (insert_key key_cmp xs k) p)

-- a key that is found is one less
pub remove_permutes : (k : ℕ × ℕ × ℕ) (ks : List (ℕ × ℕ × ℕ)) → list_any (is_at (key_cmp k)) ks ≡ true → IsPermutation ks (k ∷ remove_key (is_at (key_cmp k)) ks)
remove_permutes k [] h = cc
remove_permutes k (x ∷ xs) h =
    elim (cases_Bool (is_at (key_cmp k) x)) [
      | inl t ↦
          let w = and_parts ((x.0 == k.0) && (x.1 == k.1)) (x.2 == k.2) (sym (at_key k.0 k.1 k.2 x.0 x.1 x.2) ∙ t) in
          let v = and_parts (x.0 == k.0) (x.1 == k.1) w.0 in
          let e0 : x.0 ≡ k.0 = eqb-true x.0 k.0 v.0 in
          let e1 : x.1 ≡ k.1 = eqb-true x.1 k.1 v.1 in
          let e2 : x.2 ≡ k.2 = eqb-true x.2 k.2 w.1 in
          let e : x ≡ k = same_key x k e0 e1 e2 in
          rw t (rw e (IsPermutation-refl (k ∷ xs)))
      | inr f ↦ rw f (IsPermutation-trans (x ∷ xs) (x ∷ k ∷ remove_key (is_at (key_cmp k)) xs) (k ∷ x ∷ remove_key (is_at (key_cmp k)) xs)
          (IsPermutation-cons x xs (k ∷ remove_key (is_at (key_cmp k)) xs) (remove_permutes k xs (rest (is_at (key_cmp k) x) f h)))
          (IsPermutation-middle (x ∷ []) k (remove_key (is_at (key_cmp k)) xs)))
    ]
  where
    rest : (b : Bool) {d : Bool} → b ≡ false → (b || d) ≡ true → d ≡ true
    rest true f h = cc
    rest false f h = h

-- all keys of a group
pub between_group : (g x y z : ℕ) → y < 2 ^ 32 → z < 2 ^ 64 → range_contains key_cmp (Included (g, 0, 0)) (Included (g, 4294967295, 18446744073709551615)) (x, y, z) ≡ (x == g)
between_group g x y z h i = grind (arith, nat_tests, common_steps)

pub group_range : (g : ℕ) (keys : List (ℕ × ℕ × ℕ)) (next : ℕ) → next < 2 ^ 64 → AllByRecursion (λ (k : ℕ × ℕ × ℕ). (k.1 < 2 ^ 32) × (k.2 < next)) keys → filter (range_contains key_cmp (Included (g, 0, 0)) (Included (g, 4294967295, 18446744073709551615))) keys ≡ filter (λ (k : ℕ × ℕ × ℕ). k.0 == g) keys
group_range g [] next l h = refl
group_range g (k ∷ ks) next l h = rw (between_group g k.0 k.1 k.2 h.0.0 (omega (arith, l, h.0.1)), group_range g ks next l h.1) refl

pub among_group : (g z : ℕ) (keys : List (ℕ × ℕ × ℕ)) → among z (map (λ (k : ℕ × ℕ × ℕ). k.1) (filter (λ (k : ℕ × ℕ × ℕ). k.0 == g) keys)) ≡ has_edge (map edge_of keys) z g
among_group g z [] = refl
among_group g z (k ∷ ks) = elim (k.0 == g) as (λ b. among z (map (λ (k : ℕ × ℕ × ℕ). k.1) (cond b (k ∷ filter (λ (k : ℕ × ℕ × ℕ). k.0 == g) ks) (filter (λ (k : ℕ × ℕ × ℕ). k.0 == g) ks))) ≡ (((k.1 == z) && b) || has_edge (map edge_of ks) z g))
    [ true ↦ rw (among_group g z ks) (yes (k.1 == z) (has_edge (map edge_of ks) z g)) | false ↦ rw (among_group g z ks) (no (k.1 == z) (has_edge (map edge_of ks) z g)) ]
  where
    yes : (a b : Bool) → (a || b) ≡ ((a && true) || b)
    yes true b = refl
    yes false b = refl

    no : (a b : Bool) → b ≡ ((a && false) || b)
    no true b = refl
    no false b = refl

-- the groups listed from the range
pub above_is : (g : ℕ) (items : List ℕ) (xs keys : List (ℕ × ℕ × ℕ)) (view : List (ℕ × ℕ)) (next : ℕ) → items ≡ map (λ (k : ℕ × ℕ × ℕ). k.1) xs
    → xs ≡ filter (range_contains key_cmp (Included (g, 0, 0)) (Included (g, 4294967295, 18446744073709551615))) keys → IsNumbered keys next → map edge_of keys ≡ view → (z : ℕ) → among z items ≡ has_edge view z g
above_is g items xs keys view next a b i e z = rw (a, b, ← e, group_range g keys next i.small (recursion_from_All (λ (k : ℕ × ℕ × ℕ). (k.1 < 2 ^ 32) × (k.2 < next)) keys i.each)) (among_group g z keys)

abbrev is_none_left : List (ℕ × ℕ × ℕ) → Bool
is_none_left [] = true
is_none_left (k ∷ ks) = false

-- some key is a group's exactly where an edge goes to it
needed_group : (g : ℕ) (keys : List (ℕ × ℕ × ℕ)) → is_needed (map edge_of keys) g ≡ not (is_none_left (filter (λ (k : ℕ × ℕ × ℕ). k.0 == g) keys))
needed_group g [] = refl
needed_group g (k ∷ ks) = elim (k.0 == g) as (λ b. (b || is_needed (map edge_of ks) g) ≡ not (is_none_left (cond b (k ∷ filter (λ (k : ℕ × ℕ × ℕ). k.0 == g) ks) (filter (λ (k : ℕ × ℕ × ℕ). k.0 == g) ks)))) [
  | true ↦ refl
  | false ↦ needed_group g ks
]

first_of_range : (r : Option (Bor (ℕ × ℕ × ℕ))) (s t : List (ℕ × ℕ × ℕ)) → TakesFirst deref s r t → is_some r ≡ not (is_none_left s)
first_of_range None s t h = rw h.0 refl
first_of_range (Some x) s t h = rw h refl

pub needed_is : (g next : ℕ) (r : Option (Bor (ℕ × ℕ × ℕ))) (s t keys : List (ℕ × ℕ × ℕ)) (view : List (ℕ × ℕ)) → TakesFirst deref s r t
    → s ≡ filter (range_contains key_cmp (Included (g, 0, 0)) (Included (g, 4294967295, 18446744073709551615))) keys → IsNumbered keys next → map edge_of keys ≡ view → is_some r ≡ is_needed view g
needed_is g next r s t keys view h e i v = first_of_range r s t h ∙ (rw (e, ← v, group_range g keys next i.small (recursion_from_All (λ (k : ℕ × ℕ × ℕ). (k.1 < 2 ^ 32) × (k.2 < next)) keys i.each)) (sym (needed_group g keys)))

-- ---- one more edge
pub numbered_more : (to from number next more : ℕ) (old new : List (ℕ × ℕ × ℕ)) → IsNumbered old next → number ≡ next → new ≡ insert_key key_cmp old (to, from, number) → from < 2 ^ 32 → more ≡ next + 1 → more < 2 ^ 64 → IsNumbered new more
numbered_more to from number next more old new i n e l m b = record {
  each = rw (e, n) (All-insert_key key_cmp (to, from, next) (λ (k : ℕ × ℕ × ℕ). (k.1 < 2 ^ 32) × (k.2 < more)) old (All-weaker (λ (k : ℕ × ℕ × ℕ). (k.1 < 2 ^ 32) × (k.2 < next)) (λ (k : ℕ × ℕ × ℕ). (k.1 < 2 ^ 32) × (k.2 < more)) (λ k h. (h.0, omega (arith, m, h.1))) old i.each) (l, omega (arith, m)));
  small = b;
}

pub pushed : (to from number next : ℕ) (old new : List (ℕ × ℕ × ℕ)) (view : List (ℕ × ℕ)) → IsNumbered old next → number ≡ next → new ≡ insert_key key_cmp old (to, from, number) → map edge_of old ≡ view → IsPermutation ((from, to) ∷ view) (map edge_of new)
pushed to from number next old new view i n e v = rw (e, n, ← v) (IsPermutation-map edge_of ((to, from, next) ∷ old) (insert_key key_cmp old (to, from, next))
    (insert_permutes (to, from, next) old (fresh to from next old (recursion_from_All (λ (k : ℕ × ℕ × ℕ). (k.1 < 2 ^ 32) × (k.2 < next)) old i.each))))

-- ---- one edge less
pub between_edge : (a b x y z : ℕ) → range_contains key_cmp (Included (a, b, 0)) (Included (a, b, 18446744073709551615)) (x, y, z) ≡ true → (x ≡ a) × (y ≡ b)
between_edge a b x y z h = (grind (arith, nat_tests, common_steps, h), grind (arith, nat_tests, common_steps, h))

pub edge_between : (a b z : ℕ) → z < 2 ^ 64 → range_contains key_cmp (Included (a, b, 0)) (Included (a, b, 18446744073709551615)) (a, b, z) ≡ true
edge_between a b z h = grind (arith, nat_tests, common_steps)

pub at_self : (k : ℕ × ℕ × ℕ) → is_at (key_cmp k) k ≡ true
at_self k = at_key k.0 k.1 k.2 k.0 k.1 k.2 ∙ and_from _ _ (and_from _ _ (eq-eqb k.0 k.0 refl) (eq-eqb k.1 k.1 refl)) (eq-eqb k.2 k.2 refl)

-- the first key of the range of an edge is a key of that edge
pub first_key : (a b : ℕ) (keys : List (ℕ × ℕ × ℕ)) (k : ℕ × ℕ × ℕ) (rest : List (ℕ × ℕ × ℕ)) → filter (range_contains key_cmp (Included (a, b, 0)) (Included (a, b, 18446744073709551615))) keys ≡ k ∷ rest
    → (k.0 ≡ a) × (k.1 ≡ b) × (list_any (is_at (key_cmp k)) keys ≡ true)
first_key a b [] k rest h = cc
first_key a b (x ∷ xs) k rest h = elim (cases_Bool (range_contains key_cmp (Included (a, b, 0)) (Included (a, b, 18446744073709551615)) x)) [
  | inl t ↦
      let same : x ∷ filter (range_contains key_cmp (Included (a, b, 0)) (Included (a, b, 18446744073709551615))) xs ≡ k ∷ rest = rw t at h in
      let e : x ≡ k = cc in
      let w = between_edge a b x.0 x.1 x.2 t in
      rw (← e) (w.0, w.1, or_left _ _ (at_self x))
  | inr f ↦ let r = first_key a b xs k rest (rw f at h) in (r.0, r.1, or_right (is_at (key_cmp k) x) _ r.2)
]

-- an edge that stands has a key in its range
pub some_key : (a b next : ℕ) (keys : List (ℕ × ℕ × ℕ)) → next < 2 ^ 64 → AllByRecursion (λ (k : ℕ × ℕ × ℕ). (k.1 < 2 ^ 32) × (k.2 < next)) keys → has_edge (map edge_of keys) b a ≡ true
    → filter (range_contains key_cmp (Included (a, b, 0)) (Included (a, b, 18446744073709551615))) keys ≡ [] → ⊥
some_key a b next [] l h e n = cc
some_key a b next (x ∷ xs) l h e n = elim (cases_Bool (range_contains key_cmp (Included (a, b, 0)) (Included (a, b, 18446744073709551615)) x)) [
  | inl t ↦ let same : x ∷ filter (range_contains key_cmp (Included (a, b, 0)) (Included (a, b, 18446744073709551615))) xs ≡ [] = rw t at n in cc
  | inr f ↦ elim (or_cases _ _ e) [
    | inl here ↦
        let w = and_parts (x.1 == b) (x.0 == a) here in
        let c0 : x.0 ≡ a = eqb-true x.0 a w.1 in
        let c1 : x.1 ≡ b = eqb-true x.1 b w.0 in
        let inside = edge_between a b x.2 (omega (arith, l, h.0.1)) in
        let same : x ≡ (a, b, x.2) = same_key x (a, b, x.2) c0 c1 refl in
        both_ways (range_contains key_cmp (Included (a, b, 0)) (Included (a, b, 18446744073709551615)) x) f (rw same inside)
    | inr later ↦ some_key a b next xs l h.1 later (rw f at n)
  ]
]

-- what the first item of a range is
pub next_is : {X : Type 0} (r : Option (Bor X)) (s t : List X) (k : X) → TakesFirst deref s r t → Some k ≡ option_copied r → s ≡ k ∷ t
next_is None s t k h e = cc
next_is (Some x) s t k h e = h ∙ ap (λ y. y ∷ t) (let f : x.now ≡ k = cc in f)

pub next_none : {X : Type 0} (r : Option (Bor X)) (s t : List X) → TakesFirst deref s r t → None ≡ option_copied r → s ≡ []
next_none None s t h e = h.0
next_none (Some x) s t h e = cc

pub taken : (a b next : ℕ) (old new : List (ℕ × ℕ × ℕ)) (view : List (ℕ × ℕ)) (k : ℕ × ℕ × ℕ) (rest : List (ℕ × ℕ × ℕ)) → filter (range_contains key_cmp (Included (a, b, 0)) (Included (a, b, 18446744073709551615))) old ≡ k ∷ rest
    → new ≡ remove_key (is_at (key_cmp k)) old → map edge_of old ≡ view → IsPermutation view ((b, a) ∷ map edge_of new)
taken a b next old new view k rest f e v =
    let w = first_key a b old k rest f in
    rw (e, ← v, ← w.0, ← w.1) (IsPermutation-map edge_of old (k ∷ remove_key (is_at (key_cmp k)) old) (remove_permutes k old w.2))

pub numbered_less : (test : ℕ × ℕ × ℕ → Bool) (next : ℕ) (old new : List (ℕ × ℕ × ℕ)) → IsNumbered old next → new ≡ remove_key test old → IsNumbered new next
numbered_less test next old new i e = record { each = rw e (All-remove_key test (λ (k : ℕ × ℕ × ℕ). (k.1 < 2 ^ 32) × (k.2 < next)) old i.each); small = i.small }
