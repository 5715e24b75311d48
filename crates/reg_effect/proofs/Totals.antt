-- The whole walk takes no more than the bound.
use Rattle.std.proofs.Common.{◌≡◌, ◌≤◌, ◌<◌, ◌+◌, ◌*◌, ◌==◌, ◌||◌, ℕ, List, [], ◌∷◌, ◌++◌, Bool, true, false, cond, filter, length, max, arith, refl, sym, ◌∙◌, inl, inr, ap, nat_eq}
use Rattle.std.proofs.lemmas.Grind.{common_steps}
use Rattle.std.proofs.Math.Nat.{mul-le-mul}
use Rattle.std.proofs.lemmas.Bool.Decides.{nat_tests}
use Rattle.std.proofs.lemmas.Bool.{eqb-true, cases_Bool, and_parts, both_ways, or_cases, or_left, and_from}
use Rattle.std.proofs.lemmas.List.{length-append}
use Rattle.std.proofs.lemmas.List.Folds.{list_any-append}
use Rattle.std.specs.List.{AllByRecursion, IsDistinct}
use Rattle.std.specs.List.Sorted.{IsStrictlySortedBy}
use Rattle.std.specs.Ordering.{nat_cmp}
use Rattle.std.specs.declared.cmp.Ordering.TheVariants.{Less}
use Rattle.reg_terms.specs.declared.kinds.Member.{Member}
use Rattle.reg_terms.specs.declared.kinds.Member.TheVariants.{Person, Group}
use Rattle.reg_terms.specs.declared.kinds.SetOp.{SetOp}
use Rattle.reg_terms.specs.declared.kinds.SetOp.TheVariants.{Intersection, Complement, Union}
use Rattle.reg_terms.specs.declared.rows.CompositeRow.{CompositeRow}
use Rattle.reg_effect.specs.declared.live.Live.{Live}
use Rattle.reg_effect.specs.declared.live.Change.{Change}
use Rattle.reg_effect.specs.declared.live.Change.TheVariants.{RowOn, RowOff, FactorsOn, FactorsOff}
use Rattle.reg_terms.specs.Rows.{is_composite}
use Rattle.reg_effect.specs.Member.{in_factors, combine, level, member}
use Rattle.reg_graph.specs.Edges.{IsAcyclic}
use Rattle.reg_effect.specs.Edges.{edges}
use Rattle.reg_effect.specs.Changes.{changed, group_of, Fits}
use Rattle.reg_effect.specs.Deltas.{members_of, top, below}
use Rattle.reg_effect.specs.Bound.{leaving, most_climb, differing, asked, asked_by_row, asked_by_factors, most_steps}
use Rattle.reg_graph.specs.Edges.{among}
use Rattle.reg_graph.specs.Sets.{holds}
use Rattle.reg_effect.specs.Walk.{differ}
use Rattle.reg_effect.specs.Asked.{asks, asks_of, asks_row, IsWell, Once}
use Rattle.reg_effect.specs.Invariant.{IsTable}
use Rattle.reg_effect.proofs.Deep.{member_level}
use Rattle.reg_effect.proofs.Tops.{member_below, among_members, among_below, combine_some}
use Rattle.reg_effect.proofs.Counting.{no_more, among_filter}
use Rattle.reg_effect.proofs.Asking.{no_factors, asks_same}
use Rattle.reg_effect.proofs.Costs.{filter_same_tests}
use Rattle.reg_effect.proofs.Lists.{members_sorted}

pub less_apart : (x y : ℕ) → nat_cmp x y ≡ Less → nat_eq x y ≡ false
less_apart x y h = grind (arith, nat_tests, common_steps)

pub later_apart : (x : ℕ) (ys : List ℕ) → AllByRecursion (λ y. nat_cmp x y ≡ Less) ys → AllByRecursion (λ y. nat_eq x y ≡ false) ys
later_apart x [] h = tt
later_apart x (y ∷ ys) h = (less_apart x y h.0, later_apart x ys h.1)

pub distinct_sorted : (xs : List ℕ) → IsStrictlySortedBy nat_cmp xs → IsDistinct nat_eq xs
unfolding IsDistinct IsStrictlySortedBy
distinct_sorted [] h = tt
distinct_sorted (x ∷ xs) h = (later_apart x xs h.0, distinct_sorted xs h.1)

pub later_filter : (P : ℕ → Type 0) (p : ℕ → Bool) (ys : List ℕ) → AllByRecursion P ys → AllByRecursion P (filter p ys)
later_filter P p [] h = tt
later_filter P p (y ∷ ys) h = elim (cases_Bool (p y)) [ inl t ↦ rw t (h.0, later_filter P p ys h.1) | inr f ↦ rw f (later_filter P p ys h.1) ]

pub distinct_filter : (p : ℕ → Bool) (xs : List ℕ) → IsDistinct nat_eq xs → IsDistinct nat_eq (filter p xs)
unfolding IsDistinct
distinct_filter p [] h = tt
distinct_filter p (x ∷ xs) h = elim (cases_Bool (p x)) [ inl t ↦ rw t (later_filter (λ y. nat_eq x y ≡ false) p xs h.0, distinct_filter p xs h.1) | inr f ↦ rw f (distinct_filter p xs h.1) ]

-- the members of both factors of a group that is a composite
abbrev pub both : Live → ℕ → List CompositeRow → List ℕ
both L g [] = []
both L g (c ∷ cs) = cond (c.group == g) (members_of L c.left ++ members_of L c.right) (both L g cs)

pub among_both : (L : Live) (g h q : ℕ) → among q (members_of L g ++ members_of L h) ≡ (member L g q || member L h q)
among_both L g h q = list_any-append (λ x. x == q) (members_of L g) (members_of L h) ∙ rw (among_members L g q, among_members L h q) refl

pub both_have : (L : Live) (g q : ℕ) (cs : List CompositeRow) → Once cs → in_factors (λ x. member L x q) cs g ≡ true → among q (both L g cs) ≡ true
both_have L g q [] o h = cc
both_have L g q (c ∷ cs) o h = elim (cases_Bool (c.group == g)) [
  | inl t ↦ rw t (elim (or_cases _ _ h) [
    | inl here ↦ among_both L c.left c.right q ∙ combine_some c.op (member L c.left q) (member L c.right q) (and_parts (c.group == g) (combine c.op (member L c.left q) (member L c.right q)) here).1
    | inr later ↦ absurd (both_ways (in_factors (λ x. member L x q) cs g) (no_factors (λ x. member L x q) cs g (rw (eqb-true c.group g t) at o.0)) later)
  ])
  | inr f ↦ rw f (both_have L g q cs o.1 (rw f at h))
]

pub both_asked : (L : Live) (g : ℕ) (cs : List CompositeRow) → length (both L g cs) ≡ asked_by_factors L g cs
both_asked L g [] = refl
both_asked L g (c ∷ cs) = elim (cases_Bool (c.group == g)) [
  | inl t ↦ rw t (length-append (members_of L c.left) (members_of L c.right))
  | inr f ↦ rw f (both_asked L g cs)
]

-- no more are asked for than the bound counts
pub asked_row : (L : Live) (m : Member) (xs : List ℕ) → IsDistinct nat_eq xs → ((q : ℕ) → among q xs ≡ asks_row (member L) m q) → length xs ≤ asked_by_row L m
asked_row L (Person p) xs d h = no_more xs (p ∷ []) d (λ q a. or_left _ _ (sym (h q) ∙ a))
asked_row L (Group g) xs d h = no_more xs (members_of L g) d (λ q a. among_members L g q ∙ (sym (h q) ∙ a))

-- who may be in a composite is in one of its factors
pub asks_some : (op : SetOp) (a b : Bool) → asks_of op a b ≡ true → (a || b) ≡ true
asks_some Intersection a b h = or_left _ _ h
asks_some Complement a b h = or_left _ _ h
asks_some Union a b h = h

pub asked_composite : (L : Live) (g : ℕ) → IsWell L → is_composite g L.composites ≡ true → IsAcyclic (edges L) → (xs : List ℕ) → IsDistinct nat_eq xs → ((q : ℕ) → among q xs ≡ member L g q) → length xs ≤ asked_by_factors L g L.composites
asked_composite L g w f n xs d h =
    let le = no_more xs (both L g L.composites) d (λ q a. both_have L g q L.composites w.once (factors q (sym (h q) ∙ a))) in
    let all = both_asked L g L.composites in
    omega (arith, le, all)
  where
    factors : (q : ℕ) → member L g q ≡ true → in_factors (λ x. member L x q) L.composites g ≡ true
    factors q a = let l : level (λ x. member L x q) L g q ≡ true = sym (member_level L n g q) ∙ a in rw f at l

pub asked_le : (c : Change) (L : Live) → IsWell L → Fits c L → IsAcyclic (edges L) → (xs : List ℕ) → IsDistinct nat_eq xs → ((q : ℕ) → among q xs ≡ asks c (member L) q) → length xs ≤ asked c L
asked_le (RowOn g m) L w f n xs d h = asked_row L m xs d h
asked_le (RowOff g m) L w f n xs d h = asked_row L m xs d h
asked_le (FactorsOn g op left right) L w f n xs d h =
    let le = no_more xs (members_of L left ++ members_of L right) d (λ q a. among_both L left right q ∙ asks_some op (member L left q) (member L right q) (sym (h q) ∙ a)) in
    let all = length-append (members_of L left) (members_of L right) in
    omega (arith, le, all)
asked_le (FactorsOff g) L w f n xs d h = asked_composite L g w f n xs d h

-- ---- what listing takes
pub listed_cost : (L : Live) (table : List (ℕ × ℕ)) → IsTable L table → (g : ℕ) (xs : List ℕ) → IsStrictlySortedBy nat_cmp xs → ((q : ℕ) → among q xs ≡ holds g q table) → (s t : ℕ) → t ≡ s + length xs → t ≤ s + length (members_of L g)
listed_cost L table k g xs d h s t e =
    let le = no_more xs (members_of L g) (distinct_sorted xs d) (λ q a. among_members L g q ∙ (sym (k.sets g q) ∙ (sym (h q) ∙ a))) in
    omega (arith, e, le)

pub both_cost : (a b s t u : ℕ) → t ≤ s + a → u ≤ t + b → u ≤ s + (a + b)
both_cost a b s t u p q = omega (arith, p, q)

pub left_cost : (a b s t : ℕ) → t ≤ s + a → t ≤ s + (a + b)
left_cost a b s t p = omega (arith, p)

pub composite_cost : (table : List (ℕ × ℕ)) (g s t : ℕ) → ((M : Live) → IsTable M table → t ≤ s + length (members_of M g)) → (M : Live) → IsTable M table → is_composite g M.composites ≡ true → t ≤ s + asked_by_factors M g M.composites
composite_cost table g s t p M k f =
    let le = asked_composite M g k.well f k.no_circle (members_of M g) (distinct_sorted (members_of M g) (members_sorted M g)) (λ q. among_members M g q) in
    let one = p M k in
    omega (arith, le, one)

-- nor do more differ
pub differs_below : (L N : Live) (g q : ℕ) → differ (member L g q) (member N g q) ≡ true → q < max (top L) (top N)
differs_below L N g q d = elim (cases_Bool (member L g q)) [
  | inl t ↦ let b = (member_below L g q t).1 in omega (arith, b)
  | inr f ↦ let m : member N g q ≡ true = rw f at d in let b = (member_below N g q m).1 in omega (arith, b)
]

pub differing_le : (L N : Live) (g : ℕ) (xs : List ℕ) → IsDistinct nat_eq xs → length (filter (λ q. differ (member L g q) (member N g q)) xs) ≤ length (differing L N g)
differing_le L N g xs d = no_more (filter (λ q. differ (member L g q) (member N g q)) xs) (differing L N g) (distinct_filter (λ q. differ (member L g q) (member N g q)) xs d) in_it
  where
    in_it : (q : ℕ) → among q (filter (λ q. differ (member L g q) (member N g q)) xs) ≡ true → among q (differing L N g) ≡ true
    in_it q a =
        let t = (and_parts (differ (member L g q) (member N g q)) (among q xs) (sym (among_filter (λ q. differ (member L g q) (member N g q)) q xs) ∙ a)).0 in
        among_filter (λ q. differ (member L g q) (member N g q)) q (below (max (top L) (top N))) ∙ and_from _ _ t (among_below q (max (top L) (top N)) (differs_below L N g q t))

pub products : (s t u a c l k d e m n : ℕ) → t ≤ s + c → u ≤ t + a * (l + 2) + d * m → a ≤ c → l ≤ k → d ≤ e → m ≤ n → u ≤ s + (c * (k + 3) + e * n)
products s t u a c l k d e m n p q x y z w =
    let more : l + 2 ≤ k + 2 = omega (arith, y) in
    let one : a * (l + 2) ≤ c * (k + 2) = mul-le-mul x more in
    let two : d * m ≤ e * n = mul-le-mul z w in
    let parts : c * (k + 3) ≡ c + c * (k + 2) = step c k in
    omega (arith, p, q, one, two, parts)
  where
    step : (a l : ℕ) → a * (l + 3) ≡ a + a * (l + 2)
    step a l = grind (arith, common_steps)

pub total : (c : Change) (L N : Live) → N ≡ changed c L → IsWell L → Fits c L → IsAcyclic (edges L) → (xs : List ℕ) → IsDistinct nat_eq xs → ((q : ℕ) → among q xs ≡ asks c (member L) q)
    → (s t u : ℕ) → t ≤ s + asked c L
    → u ≤ t + length xs * (leaving (edges N) (group_of c) + 2) + length (filter (λ q. differ (member L (group_of c) q) (member N (group_of c) q)) xs) * most_climb (edges N) (group_of c)
    → u ≤ s + most_steps c L
unfolding most_steps
total c L N is w f n xs d h s t u first rest =
    rw (← is) (products s t u (length xs) (asked c L) (leaving (edges N) (group_of c)) (max (leaving (edges L) (group_of c)) (leaving (edges N) (group_of c)))
    (length (filter (λ q. differ (member L (group_of c) q) (member N (group_of c) q)) xs)) (length (differing L N (group_of c)))
    (most_climb (edges N) (group_of c)) (most_climb (edges N) (group_of c))
    first rest (asked_le c L w f n xs d h) (omega arith) (differing_le L N (group_of c) xs d) (omega arith))

-- the same by memberships that are known to be those before
pub total_at : (c : Change) (L N : Live) → N ≡ changed c L → IsWell L → Fits c L → IsAcyclic (edges L) → (xs : List ℕ) → IsDistinct nat_eq xs
    → (was : ℕ → ℕ → Bool) → ((y q : ℕ) → was y q ≡ member L y q) → ((q : ℕ) → among q xs ≡ asks c was q)
    → (s t u : ℕ) → t ≤ s + asked c L
    → u ≤ t + length xs * (leaving (edges N) (group_of c) + 2) + length (filter (λ q. differ (was (group_of c) q) (member N (group_of c) q)) xs) * most_climb (edges N) (group_of c)
    → u ≤ s + most_steps c L
total_at c L N is w f n xs d was k h s t u first rest =
    let tests : (q : ℕ) → differ (was (group_of c) q) (member N (group_of c) q) ≡ differ (member L (group_of c) q) (member N (group_of c) q) = λ q. ap (λ b. differ b (member N (group_of c) q)) (k (group_of c) q) in
    total c L N is w f n xs d (λ q. h q ∙ asks_same c was (member L) k q) s t u first (rw (filter_same_tests _ _ tests xs) at rest)

pub distinct_one : (x : ℕ) → IsDistinct nat_eq (x ∷ [])
unfolding IsDistinct
distinct_one x = (tt, tt)
