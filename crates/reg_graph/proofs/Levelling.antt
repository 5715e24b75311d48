-- Levels under changes of one level, and of one edge.
use Rattle.std.proofs.Common.{◌≡◌, ◌≤◌, ◌<◌, ◌==◌, ◌&&◌, ◌||◌, ℕ, List, [], ◌∷◌, ◌++◌, true, false, cond, max, arith, refl, sym, ◌∙◌, inl, inr, ap}
use Rattle.std.proofs.lemmas.Bool.{eqb-true, ne_eqb, false_from_ne_true, eq-eqb, cases_Bool, and_parts, both_ways, or_cases, or_right}
use Rattle.std.specs.List.Sorted.{IsPermutation}
use Rattle.std.proofs.lemmas.List.Sorted.{list_any-IsPermutation}
use Rattle.reg_graph.specs.Edges.{has_edge, reaches}
use Rattle.reg_graph.proofs.Reaching.{reaches_self, first_step}
use Rattle.reg_graph.specs.Levels.{level_of, has_level, IsLevelled, planned, IsRising}
use Rattle.reg_graph.proofs.Orders.{Falls}
use Rattle.reg_graph.proofs.Rising.{rising_last, planned_none, planned_more}

-- the level of x becomes n, which those right above it stand above and those below it stand below
pub set_level : (es old new : List (ℕ × ℕ)) (x n : ℕ) → IsLevelled es old → ((q : ℕ) → level_of new q ≡ cond (q == x) n (level_of old q)) → ((q : ℕ) → has_level new q ≡ ((q == x) || has_level old q))
    → ((z : ℕ) → has_edge es z x ≡ true → n < level_of old z) → ((y : ℕ) → has_edge es x y ≡ true → level_of old y < n) → IsLevelled es new
set_level es old new x n w level written over under = record {
  falls = λ a b e. elim (cases_Bool (a == x)) [
    | inl t ↦
        let i : level_of new a ≡ n = level a ∙ rw t refl in
        let same : a ≡ x = eqb-true a x t in
        let u : level_of old b < n = under b (rw same at e) in
        elim (cases_Bool (b == x)) [
          | inl s ↦ let o : n < level_of old a = over a (rw (eqb-true b x s) at e) in let j : level_of old b ≡ level_of old a = ap (level_of old) (eqb-true b x s ∙ sym same) in absurd (omega (arith, o, j, u))
          | inr f ↦ let j : level_of new b ≡ level_of old b = level b ∙ rw f refl in omega (arith, i, j, u)
        ]
    | inr f ↦
        let i : level_of new a ≡ level_of old a = level a ∙ rw f refl in
        elim (cases_Bool (b == x)) [
          | inl s ↦ let o : n < level_of old a = over a (rw (eqb-true b x s) at e) in let j : level_of new b ≡ n = level b ∙ rw s refl in omega (arith, i, j, o)
          | inr g ↦ let j : level_of new b ≡ level_of old b = level b ∙ rw g refl in let d : level_of old b < level_of old a = w.falls a b e in omega (arith, i, j, d)
        ]
  ];
  written = λ a b e. written a ∙ or_right (a == x) _ (w.written a b e);
}

-- a level that is written down again
pub same_level : (es old new : List (ℕ × ℕ)) (x : ℕ) → IsLevelled es old → ((q : ℕ) → level_of new q ≡ cond (q == x) (level_of old x) (level_of old q)) → ((q : ℕ) → has_level new q ≡ ((q == x) || has_level old q)) → IsLevelled es new
same_level es old new x w level written = set_level es old new x (level_of old x) w level written (λ z e. w.falls z x e) (λ y e. w.falls x y e)

-- a group on which nothing stands sinks
pub sink : (es old new : List (ℕ × ℕ)) (x n : ℕ) → IsLevelled es old → ((q : ℕ) → level_of new q ≡ cond (q == x) n (level_of old q)) → ((q : ℕ) → has_level new q ≡ ((q == x) || has_level old q))
    → has_level old x ≡ false → n ≤ level_of old x → IsLevelled es new
sink es old new x n w level written none l = set_level es old new x n w level written
    (λ z e. let d : level_of old x < level_of old z = w.falls z x e in omega (arith, d, l))
    (λ y e. absurd (both_ways (has_level old x) none (w.written x y e)))

-- the last of a plan is raised: those right above it stand high enough
pub raise_last : (es old new : List (ℕ × ℕ)) (lv aim : ℕ → ℕ) (rest : List (ℕ × ℕ)) (x v n : ℕ) → IsLevelled es old → Falls es lv → Falls es aim → IsRising lv (rest ++ (x, v) ∷ [])
    → ((q : ℕ) → max (level_of old q) (planned (rest ++ (x, v) ∷ []) q) ≡ aim q) → n ≡ max (level_of old x) v
    → ((q : ℕ) → level_of new q ≡ cond (q == x) n (level_of old q)) → ((q : ℕ) → has_level new q ≡ ((q == x) || has_level old q)) → IsLevelled es new
raise_last es old new lv aim rest x v n w down falls rising total is level written = set_level es old new x n w level written over under
  where
    self : planned (rest ++ (x, v) ∷ []) x ≡ max (planned rest x) v
    self = planned_more rest x v x ∙ rw (eq-eqb x x refl) refl

    over : (z : ℕ) → has_edge es z x ≡ true → n < level_of old z
    over z e =
        let d : lv x < lv z = down z x e in
        let f : aim x < aim z = falls z x e in
        let tx : max (level_of old x) (planned (rest ++ (x, v) ∷ []) x) ≡ aim x = total x in
        let tz : max (level_of old z) (planned (rest ++ (x, v) ∷ []) z) ≡ aim z = total z in
        let other : (x == z) ≡ false = ne_eqb x z (λ same. let s : lv x ≡ lv z = ap lv same in absurd (omega (arith, d, s))) in
        let none : planned rest z ≡ 0 = planned_none lv rest (lv x) x z (rising_last lv rest x v rising).1 d in
        let p : planned (rest ++ (x, v) ∷ []) z ≡ 0 = planned_more rest x v z ∙ rw (other, none) refl in
        let s : planned (rest ++ (x, v) ∷ []) x ≡ max (planned rest x) v = self in
        omega (arith, f, tx, tz, p, s, is)

    under : (y : ℕ) → has_edge es x y ≡ true → level_of old y < n
    under y e = let d : level_of old y < level_of old x = w.falls x y e in omega (arith, d, is)

pub raise_total : (old new : List (ℕ × ℕ)) (aim : ℕ → ℕ) (rest : List (ℕ × ℕ)) (x v n : ℕ) → ((q : ℕ) → max (level_of old q) (planned (rest ++ (x, v) ∷ []) q) ≡ aim q) → n ≡ max (level_of old x) v
    → ((q : ℕ) → level_of new q ≡ cond (q == x) n (level_of old q)) → (q : ℕ) → max (level_of new q) (planned rest q) ≡ aim q
raise_total old new aim rest x v n total is level q =
    let t : max (level_of old q) (planned (rest ++ (x, v) ∷ []) q) ≡ aim q = total q in
    let p : planned (rest ++ (x, v) ∷ []) q ≡ max (planned rest q) (cond (x == q) v 0) = planned_more rest x v q in
    elim (cases_Bool (q == x)) [
      | inl s ↦
          let e : q ≡ x = eqb-true q x s in
          let l : level_of new q ≡ n = level q ∙ rw s refl in
          let o : level_of old q ≡ level_of old x = ap (level_of old) e in
          let c : cond (x == q) v 0 ≡ v = rw (eq-eqb x q (sym e)) refl in
          omega (arith, t, p, l, o, c, is)
      | inr f ↦
          let l : level_of new q ≡ level_of old q = level q ∙ rw f refl in
          let c : cond (x == q) v 0 ≡ 0 = rw (ne_eqb x q (λ e. both_ways (q == x) f (eq-eqb q x (sym e)))) refl in
          omega (arith, t, p, l, c)
    ]

-- one more edge, and one less
pub edge_more : (es fs : List (ℕ × ℕ)) (a b : ℕ) → IsPermutation ((a, b) ∷ es) fs → (x y : ℕ) → has_edge fs x y ≡ (((a == x) && (b == y)) || has_edge es x y)
edge_more es fs a b p x y = sym (list_any-IsPermutation (λ (e : ℕ × ℕ). (e.0 == x) && (e.1 == y)) ((a, b) ∷ es) fs p)

pub levelled_more : (es fs levels : List (ℕ × ℕ)) (a b : ℕ) → IsPermutation ((a, b) ∷ es) fs → IsLevelled es levels → level_of levels b < level_of levels a → has_level levels a ≡ true → IsLevelled fs levels
levelled_more es fs levels a b p w l k = record {
  falls = λ x y e. elim (or_cases ((a == x) && (b == y)) (has_edge es x y) (sym (edge_more es fs a b p x y) ∙ e)) [
    | inl here ↦ let v = and_parts (a == x) (b == y) here in rw (← (eqb-true a x v.0), ← (eqb-true b y v.1)) l
    | inr old ↦ w.falls x y old
  ];
  written = λ x y e. elim (or_cases ((a == x) && (b == y)) (has_edge es x y) (sym (edge_more es fs a b p x y) ∙ e)) [
    | inl here ↦ let v = and_parts (a == x) (b == y) here in rw (← (eqb-true a x v.0)) k
    | inr old ↦ w.written x y old
  ];
}

pub edge_less : (es fs : List (ℕ × ℕ)) (a b : ℕ) → IsPermutation es ((a, b) ∷ fs) → (x y : ℕ) → has_edge fs x y ≡ true → has_edge es x y ≡ true
edge_less es fs a b p x y e = list_any-IsPermutation (λ (d : ℕ × ℕ). (d.0 == x) && (d.1 == y)) es ((a, b) ∷ fs) p ∙ or_right ((a == x) && (b == y)) _ e

pub levelled_less : (es fs levels : List (ℕ × ℕ)) (a b : ℕ) → IsPermutation es ((a, b) ∷ fs) → IsLevelled es levels → IsLevelled fs levels
levelled_less es fs levels a b p w = record { falls = λ x y e. w.falls x y (edge_less es fs a b p x y e); written = λ x y e. w.written x y (edge_less es fs a b p x y e) }

-- a group of which no level is written down reaches itself alone
pub reach_alone : (es levels : List (ℕ × ℕ)) (a b : ℕ) → IsLevelled es levels → has_level levels a ≡ false → reaches es a b ≡ (a == b)
reach_alone es levels a b w none = elim (cases_Bool (a == b)) [
  | inl t ↦ rw (t, eqb-true a b t) (reaches_self es b)
  | inr f ↦ rw f (false_from_ne_true (reaches es a b) (λ r. let s = first_step es a b r f in both_ways (has_level levels a) none (w.written a s.0 s.1)))
]
