-- What depends on what.
use Rattle.std.proofs.Common.{◌≡◌, ◌&&◌, ◌==◌, ℕ, List, [], ◌∷◌, ◌++◌, Bool, true, false, arith, refl, inl, inr, sym, ◌∙◌}
use Rattle.std.proofs.lemmas.Grind.{common_steps}
use Rattle.std.proofs.lemmas.Bool.{or_cases, and_parts, and_from, or_left, or_right, eqb-true, eqb-false, ne_eqb, eq-eqb, cases_Bool, both_ways}
use Rattle.reg_graph.specs.Edges.{reaches, has_edge, IsWay, HasPath}

-- each group reaches itself
pub reaches_self : (es : List (ℕ × ℕ)) (a : ℕ) → reaches es a a ≡ true
unfolding reaches
reaches_self [] a = eq-eqb a a refl
reaches_self (e ∷ es) a = or_left _ _ (reaches_self es a)

pub reaches_trans : (es : List (ℕ × ℕ)) (a b c : ℕ) → reaches es a b ≡ true → reaches es b c ≡ true → reaches es a c ≡ true
unfolding reaches
reaches_trans [] a b c p q = grind (arith, common_steps, eqb-true a b p)
reaches_trans (e ∷ es) a b c p q =
    elim (or_cases _ _ p) [
      | inl p1 ↦ elim (or_cases _ _ q) [
        | inl q1 ↦ or_left _ _ (reaches_trans es a b c p1 q1)
        | inr q2 ↦ let r = and_parts (reaches es b e.0) (reaches es e.1 c) q2 in or_right (reaches es a c) _ (and_from _ _ (reaches_trans es a b e.0 p1 r.0) r.1)
      ]
      | inr p2 ↦ let w = and_parts (reaches es a e.0) (reaches es e.1 b) p2 in elim (or_cases _ _ q) [
        | inl q1 ↦ or_right (reaches es a c) _ (and_from _ _ w.0 (reaches_trans es e.1 b c w.1 q1))
        | inr q2 ↦ let r = and_parts (reaches es b e.0) (reaches es e.1 c) q2 in or_right (reaches es a c) _ (and_from _ _ w.0 r.1)
      ]
    ]

pub reaches_edge : (es : List (ℕ × ℕ)) (a b : ℕ) → has_edge es a b ≡ true → reaches es a b ≡ true
unfolding reaches
reaches_edge [] a b h = cc
reaches_edge (e ∷ es) a b h =
    elim (or_cases _ _ h) [
      | inl here ↦ let w = and_parts (e.0 == a) (e.1 == b) here in
          or_right (reaches es a b) _ (and_from (reaches es a e.0) (reaches es e.1 b)
          (rw (eqb-true e.0 a w.0) (reaches_self es a))
          (rw (eqb-true e.1 b w.1) (reaches_self es b)))
      | inr later ↦ or_left _ _ (reaches_edge es a b later)
    ]

-- what is kept along each edge is kept along the way
pub kept_along : (P : ℕ → Bool) (es : List (ℕ × ℕ)) → ((a b : ℕ) → has_edge es a b ≡ true → P a ≡ true → P b ≡ true) → (a b : ℕ) → reaches es a b ≡ true → P a ≡ true → P b ≡ true
unfolding reaches
kept_along P [] step a b r p = grind (arith, common_steps, eqb-true a b r)
kept_along P (e ∷ es) step a b r p =
    let later : (a b : ℕ) → has_edge es a b ≡ true → P a ≡ true → P b ≡ true = λ x y h. step x y (or_right ((e.0 == x) && (e.1 == y)) _ h) in
    elim (or_cases _ _ r) [
      | inl r1 ↦ kept_along P es later a b r1 p
      | inr r2 ↦ let w = and_parts (reaches es a e.0) (reaches es e.1 b) r2 in
          kept_along P es later e.1 b w.1
          (step e.0 e.1 (or_left _ _ (and_from _ _ (eq-eqb e.0 e.0 refl) (eq-eqb e.1 e.1 refl))) (kept_along P es later a e.0 w.0 p))
    ]

-- equality of numbers is symmetric
pub eq_turned : (a b : ℕ) → (a == b) ≡ (b == a)
eq_turned a b = elim (cases_Bool (a == b)) [
  | inl t ↦ rw (t, eqb-true a b t, eq-eqb b b refl) refl
  | inr f ↦ rw (f, ne_eqb b a (λ e. eqb-false a b f (sym e))) refl
]

-- the first edge of a way
pub first_step : (es : List (ℕ × ℕ)) (a b : ℕ) → reaches es a b ≡ true → (a == b) ≡ false → (y : ℕ) × (has_edge es a y ≡ true) × (reaches es y b ≡ true)
unfolding reaches
first_step [] a b r n = absurd (both_ways (a == b) n r)
first_step (e ∷ es) a b r n = elim (or_cases _ _ r) [
  | inl r1 ↦ let f = first_step es a b r1 n in (f.0, or_right ((e.0 == a) && (e.1 == f.0)) _ f.1, or_left _ _ f.2)
  | inr r2 ↦ let w = and_parts (reaches es a e.0) (reaches es e.1 b) r2 in elim (cases_Bool (a == e.0)) [
    | inl t ↦ (e.1, or_left _ _ (and_from _ _ (eq_turned e.0 a ∙ t) (eq-eqb e.1 e.1 refl)), or_left _ _ w.1)
    | inr f ↦ let s = first_step es a e.0 w.0 f in (s.0, or_right ((e.0 == a) && (e.1 == s.0)) _ s.1, or_right (reaches es s.0 b) _ (and_from _ _ s.2 w.1))
  ]
]

-- ---- paths
pub way_append : (es : List (ℕ × ℕ)) (xs ys : List ℕ) (a b c : ℕ) → IsWay es a xs b → IsWay es b ys c → IsWay es a (xs ++ ys) c
way_append es [] ys a b c p q = rw (← p) at q
way_append es (x ∷ xs) ys a b c p q = (p.0, way_append es xs ys x b c p.1 q)

pub way_more : (e : ℕ × ℕ) (es : List (ℕ × ℕ)) (xs : List ℕ) (a b : ℕ) → IsWay es a xs b → IsWay (e ∷ es) a xs b
way_more e es [] a b p = p
way_more e es (x ∷ xs) a b p = (or_right ((e.0 == a) && (e.1 == x)) _ p.0, way_more e es xs x b p.1)

pub path_from : (es : List (ℕ × ℕ)) (a b : ℕ) → reaches es a b ≡ true → HasPath es a b
unfolding reaches
path_from [] a b r = ([], eqb-true a b r)
path_from (e ∷ es) a b r = elim (or_cases (reaches es a b) (reaches es a e.0 && reaches es e.1 b) r) [
  | inl before ↦ let p = path_from es a b before in (p.0, way_more e es p.0 a b p.1)
  | inr by_way ↦
      let w = and_parts (reaches es a e.0) (reaches es e.1 b) by_way in
      let p = path_from es a e.0 w.0 in
      let q = path_from es e.1 b w.1 in
      let here : has_edge (e ∷ es) e.0 e.1 ≡ true = or_left _ _ (and_from _ _ (eq-eqb e.0 e.0 refl) (eq-eqb e.1 e.1 refl)) in
      (p.0 ++ e.1 ∷ q.0, way_append (e ∷ es) p.0 (e.1 ∷ q.0) a e.0 b (way_more e es p.0 a e.0 p.1) (here, way_more e es q.0 e.1 b q.1))
]

pub path_to : (es : List (ℕ × ℕ)) (xs : List ℕ) (a b : ℕ) → IsWay es a xs b → reaches es a b ≡ true
path_to es [] a b p = rw p (reaches_self es b)
path_to es (x ∷ xs) a b p = reaches_trans es a x b (reaches_edge es a x p.0) (path_to es xs x b p.1)
