-- Lists of groups, the order of pairs, and levels along paths.
use Rattle.std.proofs.Common.{◌≡◌, ◌≤◌, ◌<◌, ◌==◌, ◌||◌, ℕ, List, [], ◌∷◌, ◌++◌, true, false, map, arith, refl, ◌∙◌, inl, inr}
use Rattle.std.proofs.lemmas.Grind.{common_steps}
use Rattle.std.proofs.lemmas.Bool.Decides.{nat_tests}
use Rattle.std.proofs.lemmas.Bool.{eq-eqb, cases_Bool, and_parts, or_cases, or_left, or_right, or_parts, false_from_ne_true, leb-true, le-leb}
use Rattle.std.specs.List.{AllByRecursion}
use Rattle.std.specs.Prelude.{nat_le}
use Rattle.std.specs.declared.cmp.Ordering.TheVariants.{Less}
use Rattle.reg_graph.specs.Sets.{pair_cmp}
use Rattle.reg_graph.specs.Edges.{reaches, has_edge, among, InputsFirst, IsAcyclic}
use Rattle.reg_graph.proofs.Reaching.{eq_turned, kept_along, first_step}

-- the level falls along each edge
abbrev pub Falls : List (ℕ × ℕ) → (ℕ → ℕ) → Type 0
Falls es lv = (x y : ℕ) → has_edge es x y ≡ true → lv y < lv x

pub less_trans : (a s b t c u : ℕ) → pair_cmp (a, s) (b, t) ≡ Less → pair_cmp (b, t) (c, u) ≡ Less → pair_cmp (a, s) (c, u) ≡ Less
less_trans a s b t c u h k = grind (arith, nat_tests, common_steps, h, k)

pub less_le : (a s b t : ℕ) → pair_cmp (a, s) (b, t) ≡ Less → a ≤ b
less_le a s b t h = grind (arith, nat_tests, common_steps, h)

pub less_self : (a s : ℕ) → pair_cmp (a, s) (a, s) ≡ Less → ⊥
less_self a s h = grind (arith, nat_tests, common_steps, h)

pub less_first : (a s b t : ℕ) → a < b → pair_cmp (a, s) (b, t) ≡ Less
less_first a s b t h = grind (arith, nat_tests, common_steps)

-- one more
pub among_more : (q p : ℕ) (ps : List ℕ) → among q (ps ++ p ∷ []) ≡ (among q ps || (q == p))
among_more q p [] = rw (eq_turned p q) (elim (q == p) as (λ b. (b || false) ≡ (false || b)) [ true ↦ refl | false ↦ refl ])
among_more q p (x ∷ xs) = rw (among_more q p xs) (elim (x == q) as (λ b. (b || (among q xs || (q == p))) ≡ ((b || among q xs) || (q == p))) [ true ↦ refl | false ↦ refl ])

pub inputs_push : (es : List (ℕ × ℕ)) (x : ℕ) (ys : List ℕ) → InputsFirst es ys → among x ys ≡ false → ((y : ℕ) → among y ys ≡ true → has_edge es y x ≡ false) → InputsFirst es (ys ++ x ∷ [])
inputs_push es x [] h n e = (refl, tt, tt)
inputs_push es x (y ∷ ys) h n e =
    let parts = or_parts (y == x) (among x ys) n in (
      among_more y x ys ∙ rw (h.0, eq_turned y x ∙ (eq_turned x y ∙ parts.0)) refl,
      one ys h.1,
      inputs_push es x ys h.2 parts.1 (λ z a. e z (or_right (y == z) _ a)),
    )
  where
    one : (zs : List ℕ) → AllByRecursion (λ z. has_edge es y z ≡ false) zs → AllByRecursion (λ z. has_edge es y z ≡ false) (zs ++ x ∷ [])
    one [] a = (e y (or_left _ _ (eq-eqb y y refl)), tt)
    one (z ∷ zs) a = (a.0, one zs a.1)

-- the groups from which edges go
abbrev pub sources : List (ℕ × ℕ) → List ℕ
sources es = map (λ (e : ℕ × ℕ). e.0) es

pub source_among : (es : List (ℕ × ℕ)) (x y : ℕ) → has_edge es x y ≡ true → among x (sources es) ≡ true
source_among [] x y h = cc
source_among (e ∷ es) x y h = elim (or_cases _ _ h) [
  | inl here ↦ or_left _ _ (and_parts (e.0 == x) (e.1 == y) here).0
  | inr later ↦ or_right (e.0 == x) _ (source_among es x y later)
]

-- what depends on a group is the group, or an edge goes from it
pub in_universe : (es : List (ℕ × ℕ)) (g x : ℕ) → reaches es x g ≡ true → among x (g ∷ sources es) ≡ true
in_universe es g x r = elim (cases_Bool (x == g)) [
  | inl t ↦ or_left _ _ (eq_turned g x ∙ t)
  | inr f ↦ let s = first_step es x g r f in or_right (g == x) _ (source_among es x s.0 s.1)
]

-- the level doesn't rise along a path
pub falls_along : (es : List (ℕ × ℕ)) (lv : ℕ → ℕ) → Falls es lv → (a b : ℕ) → reaches es a b ≡ true → lv b ≤ lv a
falls_along es lv falls a b r = leb-true (lv b) (lv a) (kept_along (λ y. nat_le (lv y) (lv a)) es step a b r (le-leb (lv a) (lv a) (omega arith)))
  where
    step : (x y : ℕ) → has_edge es x y ≡ true → nat_le (lv x) (lv a) ≡ true → nat_le (lv y) (lv a) ≡ true
    step x y e h = let l : lv x ≤ lv a = leb-true (lv x) (lv a) h in let f : lv y < lv x = falls x y e in le-leb (lv y) (lv a) (omega (arith, l, f))

pub not_back : (es : List (ℕ × ℕ)) (lv : ℕ → ℕ) → Falls es lv → (a b : ℕ) → lv a < lv b → reaches es a b ≡ false
not_back es lv falls a b l = false_from_ne_true (reaches es a b) (λ r. absurd (omega (arith, l, falls_along es lv falls a b r)))

pub acyclic : (es : List (ℕ × ℕ)) (lv : ℕ → ℕ) → Falls es lv → IsAcyclic es
acyclic es lv falls a b e = not_back es lv falls b a (falls a b e)
