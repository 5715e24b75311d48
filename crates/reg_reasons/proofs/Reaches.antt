-- What depends on what, and how many groups of a list a group depends on.
use Rattle.std.proofs.Common.{◌≡◌, ◌<◌, ◌≤◌, ◌+◌, ◌==◌, ℕ, List, [], ◌∷◌, length, Bool, true, false, cond, arith, refl, inl, inr}
use Rattle.std.proofs.lemmas.Grind.{common_steps}
use Rattle.std.proofs.lemmas.Bool.{or_cases, and_parts, and_from, or_left, or_right, eqb-true, eq-eqb, cases_Bool}
use Rattle.std.specs.List.{list_any}
use Rattle.reg_graph.specs.Edges.{reaches, has_edge, IsAcyclic}

pub reaches_self : (es : List (ℕ × ℕ)) (a : ℕ) → reaches es a a ≡ true
unfolding reaches
reaches_self [] a = eq-eqb a a refl
reaches_self (e ∷ es) a = or_left _ _ (reaches_self es a)

reaches_trans : (es : List (ℕ × ℕ)) (a b c : ℕ) → reaches es a b ≡ true → reaches es b c ≡ true → reaches es a c ≡ true
unfolding reaches
reaches_trans [] a b c p q = grind (arith, common_steps, eqb-true a b p)
reaches_trans (e ∷ es) a b c p q =
    elim (or_cases _ _ p) [
      | inl p1 ↦ elim (or_cases _ _ q) [
        | inl q1 ↦ or_left _ _ (reaches_trans es a b c p1 q1)
        | inr q2 ↦ let r = and_parts (reaches es b e.0) (reaches es e.1 c) q2 in or_right (reaches es a c) _ (and_from _ _ (reaches_trans es a b e.0 p1 r.0) r.1)
      ]
      | inr p2 ↦ let w = and_parts (reaches es a e.0) (reaches es e.1 b) p2 in elim (or_cases _ _ q) [
        | inl q1 ↦ or_right (reaches es a c) _ (and_from _ _ w.0 (reaches_trans es e.1 b c w.1 q1))
        | inr q2 ↦ let r = and_parts (reaches es b e.0) (reaches es e.1 c) q2 in or_right (reaches es a c) _ (and_from _ _ w.0 r.1)
      ]
    ]

reaches_edge : (es : List (ℕ × ℕ)) (a b : ℕ) → has_edge es a b ≡ true → reaches es a b ≡ true
unfolding reaches
reaches_edge [] a b h = cc
reaches_edge (e ∷ es) a b h =
    elim (or_cases _ _ h) [
      | inl here ↦ let w = and_parts (e.0 == a) (e.1 == b) here in
          or_right (reaches es a b) _ (and_from (reaches es a e.0) (reaches es e.1 b)
          (rw (eqb-true e.0 a w.0) (reaches_self es a))
          (rw (eqb-true e.1 b w.1) (reaches_self es b)))
      | inr later ↦ or_left _ _ (reaches_edge es a b later)
    ]

-- how many groups pass a test
abbrev pub passing : (ℕ → Bool) → List ℕ → ℕ
passing p [] = 0
passing p (x ∷ xs) = cond (p x) (1 + passing p xs) (passing p xs)

pub passing_le : (p : ℕ → Bool) (xs : List ℕ) → passing p xs ≤ length xs
passing_le p [] = omega arith
passing_le p (x ∷ xs) = elim (p x) as (λ b. cond b (1 + passing p xs) (passing p xs) ≤ length (x ∷ xs)) [ true ↦ omega (arith, passing_le p xs) | false ↦ omega (arith, passing_le p xs) ]

-- what one test takes the other takes
passing_more : (p q : ℕ → Bool) → ((x : ℕ) → p x ≡ true → q x ≡ true) → (xs : List ℕ) → passing p xs ≤ passing q xs
passing_more p q h [] = omega arith
passing_more p q h (x ∷ xs) =
    let le : passing p xs ≤ passing q xs = passing_more p q h xs in
    elim (cases_Bool (p x)) [
      | inl t ↦ rw (t, h x t) (omega (arith, le))
      | inr f ↦ rw f (elim (q x) as (λ b. passing p xs ≤ cond b (1 + passing q xs) (passing q xs)) [ true ↦ omega (arith, le) | false ↦ le ])
    ]

-- and one more
pub passing_less : (p q : ℕ → Bool) → ((x : ℕ) → p x ≡ true → q x ≡ true) → (y : ℕ) → p y ≡ false → q y ≡ true → (xs : List ℕ) → list_any (λ x. x == y) xs ≡ true → passing p xs < passing q xs
passing_less p q h y py qy [] c = cc
passing_less p q h y py qy (x ∷ xs) c =
    elim (or_cases _ _ c) [
      | inl here ↦ let e : x ≡ y = eqb-true x y here in let le : passing p xs ≤ passing q xs = passing_more p q h xs in
          rw (e, py, qy) (omega (arith, le))
      | inr later ↦ let lt : passing p xs < passing q xs = passing_less p q h y py qy xs later in
          elim (cases_Bool (p x)) [
            | inl t ↦ rw (t, h x t) (omega (arith, lt))
            | inr f ↦ rw f (elim (q x) as (λ b. passing p xs < cond b (1 + passing q xs) (passing q xs)) [ true ↦ omega (arith, lt) | false ↦ lt ])
          ]
    ]

-- along an edge there are fewer of those on which a group depends
pub falls : (es : List (ℕ × ℕ)) → IsAcyclic es → (xs : List ℕ) (g h : ℕ) → has_edge es g h ≡ true → list_any (λ x. x == g) xs ≡ true → passing (reaches es h) xs < passing (reaches es g) xs
falls es n xs g h e c =
    passing_less (reaches es h) (reaches es g) (λ x r. reaches_trans es g h x (reaches_edge es g h e) r) g (n g h e) (reaches_self es g) xs c
