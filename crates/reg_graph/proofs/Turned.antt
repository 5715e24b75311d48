-- Pairs and the same pairs turned.
use Rattle.std.proofs.Common.{◌≡◌, ◌<◌, ◌&&◌, ◌||◌, ◌==◌, ◌^◌, ℕ, List, [], ◌∷◌, Bool, true, false, not, cond, map, filter, length, arith, refl, sym, ◌∙◌, ap, inl, inr}
use Rattle.std.proofs.lemmas.Grind.{common_steps}
use Rattle.std.proofs.lemmas.Bool.Decides.{nat_tests}
use Rattle.std.proofs.lemmas.Bool.{cases_Bool, and_parts, eqb-true}
use Rattle.std.proofs.lemmas.Map.Lookups.{btree_set_from_contains, exact_unsigned}
use Rattle.std.specs.List.{list_any, AllByRecursion}
use Rattle.std.specs.List.Sorted.{IsStrictlySortedBy}
use Rattle.std.specs.BTreeSet.{BTreeSet, insert_key}
use Rattle.std.specs.Set.{remove_key}
use Rattle.std.specs.BTreeMap.{is_at}
use Rattle.std.specs.BTreeMap.Range.{range_contains}
use Rattle.std.specs.Cmp.{nat_cmp_total}
use Rattle.std.specs.Ordering.{nat_cmp}
use Rattle.std.specs.declared.ops.Bound.TheVariants.{Included}
use Rattle.std.specs.declared.cmp.Ordering.TheVariants.{Less}
use Rattle.reg_graph.specs.Sets.{holds, subjects_of, groups_of, pair_cmp, AreTurned}
use Rattle.reg_graph.proofs.Kept.{holds_is, updates_add, updates_remove, kept_add, kept_remove, each_listed, ascending_by, listed_is, length-listed}

-- ---- the groups of a subject
pub each_group : (g s : ℕ) (pairs : List (ℕ × ℕ)) → list_any (λ x. x == g) (groups_of s pairs) ≡ holds g s pairs
each_group g s [] = refl
each_group g s (k ∷ ks) = elim (k.1 == s) as (λ b. list_any (λ x. x == g) (map (λ (p : ℕ × ℕ). p.0) (cond b (k ∷ filter (λ (p : ℕ × ℕ). p.1 == s) ks) (filter (λ (p : ℕ × ℕ). p.1 == s) ks))) ≡ (((k.0 == g) && b) || holds g s ks))
    [ true ↦ rw (each_group g s ks) (with (k.0 == g) (holds g s ks)) | false ↦ rw (each_group g s ks) (without (k.0 == g) (holds g s ks)) ]
  where
    with : (a b : Bool) → (a || b) ≡ ((a && true) || b)
    with true b = refl
    with false b = refl

    without : (a b : Bool) → b ≡ ((a && false) || b)
    without true b = refl
    without false b = refl

pub later_groups : (s : ℕ) (k : ℕ × ℕ) (ks : List (ℕ × ℕ)) → (k.1 == s) ≡ true → AllByRecursion (λ (q : ℕ × ℕ). pair_cmp k q ≡ Less) ks → AllByRecursion (λ y. nat_cmp k.0 y ≡ Less) (groups_of s ks)
later_groups s k [] e h = tt
later_groups s k (q ∷ qs) e h =
    let rest = later_groups s k qs e h.1 in
    elim (cases_Bool (q.1 == s))
    [ inl t ↦ rw t (grind (arith, nat_tests, common_steps, h.0), rest) | inr f ↦ rw f rest ]

pub groups_ascending : (s : ℕ) (pairs : List (ℕ × ℕ)) → IsStrictlySortedBy pair_cmp pairs → IsStrictlySortedBy nat_cmp (groups_of s pairs)
unfolding IsStrictlySortedBy
groups_ascending s [] h = tt
groups_ascending s (k ∷ ks) h =
    let rest = groups_ascending s ks h.1 in
    elim (cases_Bool (k.1 == s))
    [ inl t ↦ rw t (later_groups s k ks t h.0, rest) | inr f ↦ rw f rest ]

at_id : (q x : ℕ) → is_at (nat_cmp q) x ≡ (x == q)
at_id q x = grind (arith, nat_tests, common_steps)

at_ids : (q : ℕ) (xs : List ℕ) → list_any (is_at (nat_cmp q)) xs ≡ list_any (λ x. x == q) xs
at_ids q [] = refl
at_ids q (x ∷ xs) = rw (at_ids q xs) (ap (λ b. b || list_any (λ x. x == q) xs) (at_id q x))

-- two lists of ids in order with the same ids are one
pub one_list : (xs ys : List ℕ) → IsStrictlySortedBy nat_cmp xs → IsStrictlySortedBy nat_cmp ys → ((q : ℕ) → list_any (λ x. x == q) xs ≡ list_any (λ x. x == q) ys) → xs ≡ ys
one_list xs ys a b h =
    let s : BTreeSet ℕ = record { keys = xs } in
    let t : BTreeSet ℕ = record { keys = ys } in
    btree_set_from_contains nat_cmp_total s t a b (λ q. at_ids q xs ∙ (h q ∙ sym (at_ids q ys))) exact_unsigned

-- a subject's groups are what the turned pairs have of it
pub groups_turned : (s : ℕ) (pairs turned : List (ℕ × ℕ)) → AreTurned pairs turned → subjects_of s turned ≡ groups_of s pairs
groups_turned s pairs turned k = one_list (subjects_of s turned) (groups_of s pairs) (ascending_by s turned k.by_subject.ordered) (groups_ascending s pairs k.by_group.ordered)
    (λ g. each_listed s g turned ∙ (k.same g s ∙ sym (each_group g s pairs)))

pub groups_listed : (s low high : ℕ) (items : List ℕ) (xs turned pairs view : List (ℕ × ℕ)) → items ≡ map (λ (p : ℕ × ℕ). p.1) xs → xs ≡ filter (range_contains pair_cmp (Included (s, low)) (Included (s, high))) turned
    → low ≡ 0 → high ≡ 4294967295 → AreTurned pairs turned → pairs ≡ view → items ≡ groups_of s view
groups_listed s low high items xs turned pairs view a b c d k e = listed_is s low high items xs turned turned a b c d k.by_subject refl ∙ (groups_turned s pairs turned k ∙ ap (groups_of s) e)

pub length-groups : (s low high : ℕ) (turned pairs view : List (ℕ × ℕ)) → low ≡ 0 → high ≡ 4294967295 → AreTurned pairs turned → pairs ≡ view
    → length (groups_of s view) ≡ length (filter (range_contains pair_cmp (Included (s, low)) (Included (s, high))) turned)
length-groups s low high turned pairs view c d k e = ap length (ap (groups_of s) (sym e) ∙ sym (groups_turned s pairs turned k)) ∙ length-listed s low high turned turned c d k.by_subject refl

pub groups_sorted : (s : ℕ) (pairs turned view : List (ℕ × ℕ)) → AreTurned pairs turned → pairs ≡ view → IsStrictlySortedBy nat_cmp (groups_of s view)
groups_sorted s pairs turned view k e = rw (← e) (groups_ascending s pairs k.by_group.ordered)

-- ---- one pair more, one pair less
turned_tests : (g s x y : ℕ) (a b : Bool) → a ≡ b → (((y == s) && (x == g)) || a) ≡ (((x == g) && (y == s)) || b)
turned_tests g s x y a b e = rw e (swap (y == s) (x == g) b)
  where
    swap : (p q r : Bool) → ((p && q) || r) ≡ ((q && p) || r)
    swap true true r = refl
    swap true false r = refl
    swap false true r = refl
    swap false false r = refl

turned_others : (g s x y : ℕ) (a b : Bool) → a ≡ b → (not ((y == s) && (x == g)) && a) ≡ (not ((x == g) && (y == s)) && b)
turned_others g s x y a b e = rw e (swap (y == s) (x == g) b)
  where
    swap : (p q r : Bool) → (not (p && q) && r) ≡ (not (q && p) && r)
    swap true true r = refl
    swap true false r = refl
    swap false true r = refl
    swap false false r = refl

abbrev pub Adds : ℕ × ℕ → List (ℕ × ℕ) → List (ℕ × ℕ) → Type 0
Adds k old new = (q : ℕ × ℕ) → list_any (is_at (pair_cmp q)) new ≡ cond (is_at (pair_cmp k) q) true (list_any (is_at (pair_cmp q)) old)

abbrev pub Takes : ℕ × ℕ → List (ℕ × ℕ) → List (ℕ × ℕ) → Type 0
Takes k old new = (q : ℕ × ℕ) → list_any (is_at (pair_cmp q)) new ≡ cond (is_at (pair_cmp k) q) false (list_any (is_at (pair_cmp q)) old)

pub turned_add : (g s : ℕ) (pairs turned more more_turned : List (ℕ × ℕ)) → AreTurned pairs turned → g < 2 ^ 32 → s < 2 ^ 32
    → more ≡ insert_key pair_cmp pairs (g, s) → IsStrictlySortedBy pair_cmp more → Adds (g, s) pairs more
    → more_turned ≡ insert_key pair_cmp turned (s, g) → IsStrictlySortedBy pair_cmp more_turned → Adds (s, g) turned more_turned
    → AreTurned more more_turned
turned_add g s pairs turned more more_turned k small_g small_s a b c d e f = record {
  by_group = kept_add g s pairs more k.by_group a b small_s;
  by_subject = kept_add s g turned more_turned k.by_subject d e small_g;
  same = λ x y. updates_add s g turned more_turned f y x ∙ (turned_tests g s x y _ _ (k.same x y) ∙ sym (updates_add g s pairs more c x y));
}

pub turned_remove : (g s : ℕ) (test test_turned : ℕ × ℕ → Bool) (pairs turned less less_turned : List (ℕ × ℕ)) → AreTurned pairs turned
    → less ≡ remove_key test pairs → IsStrictlySortedBy pair_cmp less → Takes (g, s) pairs less
    → less_turned ≡ remove_key test_turned turned → IsStrictlySortedBy pair_cmp less_turned → Takes (s, g) turned less_turned
    → AreTurned less less_turned
turned_remove g s test test_turned pairs turned less less_turned k a b c d e f = record {
  by_group = kept_remove test pairs less k.by_group a b;
  by_subject = kept_remove test_turned turned less_turned k.by_subject d e;
  same = λ x y. updates_remove s g turned less_turned f y x ∙ (turned_others g s x y _ _ (k.same x y) ∙ sym (updates_remove g s pairs less c x y));
}

-- a turned pair that was added and taken back leaves what there was, where the pair was in neither
pub turned_back : (g s : ℕ) (test : ℕ × ℕ → Bool) (pairs same turned more back : List (ℕ × ℕ)) → AreTurned pairs turned → g < 2 ^ 32 → same ≡ pairs
    → list_any (is_at (pair_cmp (g, s))) pairs ≡ false
    → more ≡ insert_key pair_cmp turned (s, g) → IsStrictlySortedBy pair_cmp more → Adds (s, g) turned more
    → back ≡ remove_key test more → IsStrictlySortedBy pair_cmp back → Takes (s, g) more back
    → AreTurned same back
turned_back g s test pairs same turned more back k small_g e absent a b c d f h = record {
  by_group = rw e k.by_group;
  by_subject = kept_remove test more back (kept_add s g turned more k.by_subject a b small_g) d f;
  same = λ x y. updates_remove s g more back h y x ∙ (rw (updates_add s g turned more c y x, e) (undone x y));
}
  where
    gone : holds g s pairs ≡ false
    gone = sym (holds_is g s pairs) ∙ absent

    undone : (x y : ℕ) → (not ((y == s) && (x == g)) && (((y == s) && (x == g)) || holds y x turned)) ≡ holds x y pairs
    undone x y = elim (cases_Bool ((y == s) && (x == g))) [
      | inl t ↦ let w = and_parts (y == s) (x == g) t in rw (t, eqb-true y s w.0, eqb-true x g w.1, gone) refl
      | inr f ↦ rw f (k.same x y)
    ]
