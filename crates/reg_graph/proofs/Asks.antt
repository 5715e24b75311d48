-- A level that is asked for.
use Rattle.std.specs.List.{AllByRecursion}
use Rattle.std.proofs.Common.{map, ◌≡◌, ◌≤◌, ◌<◌, ◌+◌, ◌==◌, ◌&&◌, ◌||◌, ◌⊎◌, ℕ, List, [], ◌∷◌, ◌++◌, Bool, true, false, cond, max, arith, refl, sym, ◌∙◌, inl, inr, ap, Some, None, length, get_or, zero, suc}
use Rattle.std.specs.Option.{is_some}
use Rattle.std.proofs.lemmas.Bool.{eqb-true, eq-eqb, cases_Bool, and_parts, or_cases, or_left, or_right}
use Rattle.std.specs.Map.{lookup}
use Rattle.std.specs.BTreeMap.{is_at}
use Rattle.reg_graph.specs.Sets.{pair_cmp}
use Rattle.reg_graph.specs.Edges.{among}
use Rattle.reg_graph.specs.Levels.{wanted, awaits}
use Rattle.reg_graph.proofs.Kept.{at_pair}
use Rattle.reg_graph.proofs.Orders.{among_more}

pub asked_level : (m n : List ((ℕ × ℕ) × ℕ)) (old group level v : ℕ) → ((q : ℕ × ℕ) → lookup (is_at (pair_cmp q)) n ≡ cond (is_at (pair_cmp (old, group)) q) (Some v) (lookup (is_at (pair_cmp q)) m))
    → v ≡ max (wanted m old group) level → (l q : ℕ) → wanted n l q ≡ cond ((l == old) && (q == group)) (max (wanted m l q) level) (wanted m l q)
asked_level m n old group level v h is l q = rw (h (l, q), at_pair old group l q) (elim (cases_Bool ((l == old) && (q == group))) [
  | inl t ↦ let w = and_parts (l == old) (q == group) t in rw t (is ∙ rw (eqb-true l old w.0, eqb-true q group w.1) refl)
  | inr f ↦ rw f refl
])

pub asked_known : (m n : List ((ℕ × ℕ) × ℕ)) (old group v : ℕ) → ((q : ℕ × ℕ) → lookup (is_at (pair_cmp q)) n ≡ cond (is_at (pair_cmp (old, group)) q) (Some v) (lookup (is_at (pair_cmp q)) m))
    → (l q : ℕ) → awaits n l q ≡ (((l == old) && (q == group)) || awaits m l q)
asked_known m n old group v h l q = rw (h (l, q), at_pair old group l q) (elim ((l == old) && (q == group)) as (λ b. is_some (cond b (Some v) (lookup (is_at (pair_cmp (l, q))) m)) ≡ (b || awaits m l q)) [ true ↦ refl | false ↦ refl ])

-- what is asked for of those right above a group, so far
pub record Asks (lv : ℕ → ℕ) (level : ℕ) (done all : List ℕ) (old now : List ((ℕ × ℕ) × ℕ)) : Type 0 where
  pub more : (l q : ℕ) → wanted old l q ≤ wanted now l q
  pub raised : (q : ℕ) → among q done ≡ true → level < max (lv q) (wanted now (lv q) q)
  pub only : (l q : ℕ) → awaits now l q ≡ true → (awaits old l q ≡ true) ⊎ ((l ≡ lv q) × (among q all ≡ true))

module _ (lv : ℕ → ℕ) (level : ℕ) (done all : List ℕ) (old now : List ((ℕ × ℕ) × ℕ)) (m : Asks lv level done all old now) where
  pub asks_one : (new : List ((ℕ × ℕ) × ℕ)) (x next : ℕ) → among x all ≡ true → next ≡ level + 1 → ((l q : ℕ) → wanted new l q ≡ cond ((l == lv x) && (q == x)) (max (wanted now l q) next) (wanted now l q))
      → ((l q : ℕ) → awaits new l q ≡ (((l == lv x) && (q == x)) || awaits now l q)) → Asks lv level (done ++ x ∷ []) all old new
  asks_one new x next here is level_is written = record {
    more = λ l q. let a : wanted old l q ≤ wanted now l q = m.more l q in let b : wanted now l q ≤ wanted new l q = grows l q in omega (arith, a, b);
    raised = λ q a. elim (or_cases (among q done) (q == x) (sym (among_more q x done) ∙ a)) [
      | inl o ↦ let r : level < max (lv q) (wanted now (lv q) q) = m.raised q o in let b : wanted now (lv q) q ≤ wanted new (lv q) q = grows (lv q) q in omega (arith, r, b)
      | inr t ↦ let e : q ≡ x = eqb-true q x t in
          let w : wanted new (lv q) q ≡ max (wanted now (lv q) q) next = level_is (lv q) q ∙ rw (eq-eqb (lv q) (lv x) (ap lv e), t) refl in omega (arith, w, is)
    ];
    only = λ l q a. elim (or_cases ((l == lv x) && (q == x)) (awaits now l q) (sym (written l q) ∙ a)) [
      | inl new ↦ let w = and_parts (l == lv x) (q == x) new in let e : q ≡ x = eqb-true q x w.1 in inr (eqb-true l (lv x) w.0 ∙ ap lv (sym e), rw e here)
      | inr o ↦ m.only l q o
    ];
  }
    where
      grows : (l q : ℕ) → wanted now l q ≤ wanted new l q
      grows l q = let i : wanted new l q ≡ cond ((l == lv x) && (q == x)) (max (wanted now l q) next) (wanted now l q) = level_is l q in
          elim (cases_Bool ((l == lv x) && (q == x))) [
            | inl t ↦ let j : wanted new l q ≡ max (wanted now l q) next = i ∙ rw t refl in omega (arith, j)
            | inr f ↦ let j : wanted new l q ≡ wanted now l q = i ∙ rw f refl in omega (arith, j)
          ]

  pub asks_none : (x : ℕ) → level < lv x → Asks lv level (done ++ x ∷ []) all old now
  asks_none x l = record {
    more = m.more;
    raised = λ q a. elim (or_cases (among q done) (q == x) (sym (among_more q x done) ∙ a)) [
      | inl o ↦ m.raised q o
      | inr t ↦ let e : lv q ≡ lv x = ap lv (eqb-true q x t) in omega (arith, e, l)
    ];
    only = m.only;
  }

pub among_at : (xs : List ℕ) (i : ℕ) → i < length xs → among (get_or xs i 0) xs ≡ true
among_at [] i h = absurd (omega (arith, h))
among_at (x ∷ xs) zero h = or_left _ _ (eq-eqb x x refl)
among_at (x ∷ xs) (suc i) h = or_right (x == get_or xs i 0) _ (among_at xs i (omega (arith, h)))

-- ---- the first of those that wait is taken
module _ (m n : List ((ℕ × ℕ) × ℕ)) (l0 x : ℕ) (h : (q : ℕ × ℕ) → lookup (is_at (pair_cmp q)) n ≡ cond (is_at (pair_cmp (l0, x)) q) None (lookup (is_at (pair_cmp q)) m)) where
  pub taken_left : (l q : ℕ) → ((l == l0) && (q == x)) ≡ false → wanted n l q ≡ wanted m l q
  taken_left l q f = rw (h (l, q), at_pair l0 x l q, f) refl

  pub taken_still : (l q : ℕ) → awaits n l q ≡ true → awaits m l q ≡ true
  taken_still l q a = go ((l == l0) && (q == x)) (rw (h (l, q), at_pair l0 x l q) at a)
    where
      go : (b : Bool) → is_some (cond b None (lookup (is_at (pair_cmp (l, q))) m)) ≡ true → awaits m l q ≡ true
      go true i = cc
      go false i = i

pub value_wanted : (m : List ((ℕ × ℕ) × ℕ)) (l q v : ℕ) → lookup (is_at (pair_cmp (l, q))) m ≡ Some v → wanted m l q ≡ v
value_wanted m l q v e = rw e refl

pub value_awaits : (m : List ((ℕ × ℕ) × ℕ)) (l q v : ℕ) → lookup (is_at (pair_cmp (l, q))) m ≡ Some v → awaits m l q ≡ true
value_awaits m l q v e = rw e refl

-- what is said of all keys holds of each that waits
pub all_awaiting : (P : ℕ × ℕ → Type 0) (m : List ((ℕ × ℕ) × ℕ)) → AllByRecursion P (map (λ (e : (ℕ × ℕ) × ℕ). e.0) m) → (a b : ℕ) → awaits m a b ≡ true → P (a, b)
all_awaiting P [] h a b w = cc
all_awaiting P (((x, y), v) ∷ es) h a b w = elim (cases_Bool ((x == a) && (y == b))) [
  | inl t ↦ let p = and_parts (x == a) (y == b) t in rw (← (eqb-true x a p.0), ← (eqb-true y b p.1)) h.0
  | inr f ↦ all_awaiting P es h.1 a b (rw (at_pair a b x y, f) at w)
]
