-- Pairs in order.
use Rattle.std.proofs.Common.{◌≡◌, ◌<◌, ◌&&◌, ◌||◌, ◌==◌, ◌^◌, ℕ, List, [], ◌∷◌, Bool, true, false, not, cond, arith, refl, sym, ◌∙◌, ap}
use Rattle.std.proofs.lemmas.Grind.{common_steps}
use Rattle.std.proofs.lemmas.Bool.Decides.{nat_tests}
use Rattle.std.proofs.lemmas.Bool.{cases_Bool, or_cases, and_parts, eqb-true, both_ways}
use Rattle.std.proofs.Common.{inl, inr}
use Rattle.std.proofs.Common.{map, filter, length}
use Rattle.std.proofs.Common.{Option, Some, None, IsSome, is_some, ◌↔◌}
use Rattle.std.specs.Iterator.{Yields}
use Rattle.std.specs.Map.Iter.{TakesFirst}
use Rattle.std.proofs.lemmas.Map.Iter.{iter_turn}
use Rattle.std.proofs.lemmas.List.{length-map}
use Rattle.std.specs.List.{list_any, AllByRecursion}
use Rattle.std.specs.List.Sorted.{IsStrictlySortedBy}
use Rattle.std.specs.BTreeSet.{insert_key}
use Rattle.std.specs.Set.{remove_key}
use Rattle.std.proofs.lemmas.Map.Views.{All-insert_key, All-remove_key}
use Rattle.std.proofs.lemmas.List.Elements.{recursion_from_All}
use Rattle.std.specs.BTreeMap.Range.{range_contains}
use Rattle.std.specs.declared.ops.Bound.TheVariants.{Included}
use Rattle.std.specs.declared.cmp.Ordering.TheVariants.{Less}
use Rattle.std.specs.BTreeMap.{is_at}
use Rattle.std.specs.Ordering.{nat_cmp}
use Rattle.reg_graph.specs.Sets.{holds, subjects_of, pair_cmp, IsKept}

pub at_pair : (g s x y : ℕ) → is_at (pair_cmp (g, s)) (x, y) ≡ ((x == g) && (y == s))
at_pair g s x y = grind (arith, nat_tests, common_steps)

pub holds_is : (g s : ℕ) (keys : List (ℕ × ℕ)) → list_any (is_at (pair_cmp (g, s))) keys ≡ holds g s keys
holds_is g s [] = refl
holds_is g s (k ∷ ks) = rw (at_pair g s k.0 k.1, holds_is g s ks) refl

pub updates_add : (g s : ℕ) (old new : List (ℕ × ℕ)) → ((q : ℕ × ℕ) → list_any (is_at (pair_cmp q)) new ≡ cond (is_at (pair_cmp (g, s)) q) true (list_any (is_at (pair_cmp q)) old)) → (x y : ℕ) → holds x y new ≡ (((x == g) && (y == s)) || holds x y old)
updates_add g s old new h x y = sym (holds_is x y new) ∙ (h (x, y) ∙ rw (at_pair g s x y, holds_is x y old) (elim ((x == g) && (y == s)) as (λ b. cond b true (holds x y old) ≡ (b || holds x y old)) [ true ↦ refl | false ↦ refl ]))

pub updates_remove : (g s : ℕ) (old new : List (ℕ × ℕ)) → ((q : ℕ × ℕ) → list_any (is_at (pair_cmp q)) new ≡ cond (is_at (pair_cmp (g, s)) q) false (list_any (is_at (pair_cmp q)) old)) → (x y : ℕ) → holds x y new ≡ (not ((x == g) && (y == s)) && holds x y old)
updates_remove g s old new h x y = sym (holds_is x y new) ∙ (h (x, y) ∙ rw (at_pair g s x y, holds_is x y old) (elim ((x == g) && (y == s)) as (λ b. cond b false (holds x y old) ≡ (not b && holds x y old)) [ true ↦ refl | false ↦ refl ]))

pub kept_add : (g s : ℕ) (old new : List (ℕ × ℕ)) → IsKept old → new ≡ insert_key pair_cmp old (g, s) → IsStrictlySortedBy pair_cmp new → s < 2 ^ 32 → IsKept new
kept_add g s old new k e o h = record { ordered = o; small = rw e (All-insert_key pair_cmp (g, s) (λ (p : ℕ × ℕ). p.1 < 2 ^ 32) old k.small h) }

pub kept_remove : (test : ℕ × ℕ → Bool) (old new : List (ℕ × ℕ)) → IsKept old → new ≡ remove_key test old → IsStrictlySortedBy pair_cmp new → IsKept new
kept_remove test old new k e o = record { ordered = o; small = rw e (All-remove_key test (λ (p : ℕ × ℕ). p.1 < 2 ^ 32) old k.small) }

-- between the least and the greatest pair of a group
pub between_one : (g x y : ℕ) → y < 2 ^ 32 → range_contains pair_cmp (Included (g, 0)) (Included (g, 4294967295)) (x, y) ≡ (x == g)
between_one g x y h = grind (arith, nat_tests, common_steps)

pub between_by : (g : ℕ) (keys : List (ℕ × ℕ)) → AllByRecursion (λ (p : ℕ × ℕ). p.1 < 2 ^ 32) keys → filter (range_contains pair_cmp (Included (g, 0)) (Included (g, 4294967295))) keys ≡ filter (λ (p : ℕ × ℕ). p.0 == g) keys
between_by g [] h = refl
between_by g (k ∷ ks) h = rw (between_one g k.0 k.1 h.0, between_by g ks h.1) refl

pub between_is : (g : ℕ) (keys : List (ℕ × ℕ)) → IsKept keys → filter (range_contains pair_cmp (Included (g, 0)) (Included (g, 4294967295))) keys ≡ filter (λ (p : ℕ × ℕ). p.0 == g) keys
between_is g keys k = between_by g keys (recursion_from_All (λ (p : ℕ × ℕ). p.1 < 2 ^ 32) keys k.small)

pub each_listed : (g s : ℕ) (keys : List (ℕ × ℕ)) → list_any (λ x. x == s) (subjects_of g keys) ≡ holds g s keys
each_listed g s [] = refl
each_listed g s (k ∷ ks) = elim (k.0 == g) as (λ b. list_any (λ x. x == s) (map (λ (p : ℕ × ℕ). p.1) (cond b (k ∷ filter (λ (p : ℕ × ℕ). p.0 == g) ks) (filter (λ (p : ℕ × ℕ). p.0 == g) ks))) ≡ ((b && (k.1 == s)) || holds g s ks))
    [ true ↦ ap (λ b. (k.1 == s) || b) (each_listed g s ks) | false ↦ each_listed g s ks ]

pub later_subjects : (g : ℕ) (k : ℕ × ℕ) (ks : List (ℕ × ℕ)) → (k.0 == g) ≡ true → AllByRecursion (λ (q : ℕ × ℕ). pair_cmp k q ≡ Less) ks → AllByRecursion (λ y. nat_cmp k.1 y ≡ Less) (subjects_of g ks)
later_subjects g k [] e h = tt
later_subjects g k (q ∷ qs) e h =
    let rest = later_subjects g k qs e h.1 in
    elim (cases_Bool (q.0 == g))
    [ inl t ↦ rw t (grind (arith, nat_tests, common_steps, h.0), rest) | inr f ↦ rw f rest ]

pub ascending_by : (g : ℕ) (keys : List (ℕ × ℕ)) → IsStrictlySortedBy pair_cmp keys → IsStrictlySortedBy nat_cmp (subjects_of g keys)
unfolding IsStrictlySortedBy
ascending_by g [] h = tt
ascending_by g (k ∷ ks) h =
    let rest = ascending_by g ks h.1 in
    elim (cases_Bool (k.0 == g))
    [ inl t ↦ rw t (later_subjects g k ks t h.0, rest) | inr f ↦ rw f rest ]

pub listed_is : (g low high : ℕ) (items : List ℕ) (xs keys view : List (ℕ × ℕ)) → items ≡ map (λ (p : ℕ × ℕ). p.1) xs → xs ≡ filter (range_contains pair_cmp (Included (g, low)) (Included (g, high))) view → low ≡ 0 → high ≡ 4294967295 → IsKept keys → keys ≡ view → items ≡ subjects_of g view
listed_is g low high items xs keys view a b c d k e = a ∙ ap (λ ys. map (λ (p : ℕ × ℕ). p.1) ys) (b ∙ rw (c, d, ← e) (between_is g keys k))

pub length-listed : (g low high : ℕ) (keys view : List (ℕ × ℕ)) → low ≡ 0 → high ≡ 4294967295 → IsKept keys → keys ≡ view
    → length (subjects_of g view) ≡ length (filter (range_contains pair_cmp (Included (g, low)) (Included (g, high))) view)
length-listed g low high keys view c d k e = rw (c, d, ← e, between_is g keys k) (length-map (filter (λ (p : ℕ × ℕ). p.0 == g) keys) (λ (p : ℕ × ℕ). p.1))

-- before the end fewer were yielded than there are
pub iter_short : {A X : Type 0} (shows : A → X) → (all : List X) (xs : List A) (s t u : List X) (r : Option A) (start : s ≡ all) (y : Yields (TakesFirst shows) s xs t) → (x : A) → r ≡ Some x → TakesFirst shows t r u → length xs < length all
iter_short shows all xs s t u r start y x e h = (iter_turn shows all xs s t u r start y x e h).0

-- what is said of all keys holds of each that is there
pub all_held : (P : ℕ × ℕ → Type 0) (keys : List (ℕ × ℕ)) → AllByRecursion P keys → (a b : ℕ) → holds a b keys ≡ true → P (a, b)
all_held P [] h a b m = cc
all_held P ((x, y) ∷ ks) h a b m = elim (or_cases ((x == a) && (y == b)) (holds a b ks) m) [
  | inl here ↦ let w = and_parts (x == a) (y == b) here in rw (← (eqb-true x a w.0), ← (eqb-true y b w.1)) h.0
  | inr later ↦ all_held P ks h.1 a b later
]

-- where nothing came there is nothing
pub empty_from : {K X : Type 0} (r : Option X) (keys : List K) → r ≡ None → (IsSome r ↔ (0 < length keys)) → keys ≡ []
empty_from r [] e i = refl
empty_from r (k ∷ ks) e i = absurd (both_ways (is_some r) (rw e refl) (i.1 (omega arith)))
