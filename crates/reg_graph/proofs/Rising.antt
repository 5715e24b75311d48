-- Plans that raise levels.
use Rattle.std.proofs.Common.{◌≡◌, ◌≤◌, ◌<◌, ◌+◌, ◌==◌, ◌&&◌, ◌||◌, ◌⊎◌, ℕ, List, [], ◌∷◌, ◌++◌, Bool, true, false, not, cond, max, map, arith, refl, sym, ◌∙◌, inl, inr, ap}
use Rattle.std.proofs.lemmas.Bool.{eqb-true, ne_eqb, eq-eqb, cases_Bool, and_parts, both_ways, or_cases, or_left, or_right, or_from, not_from_true, not_from_false}
use Rattle.std.specs.List.{AllByRecursion}
use Rattle.std.specs.declared.cmp.Ordering.TheVariants.{Less}
use Rattle.reg_graph.specs.Sets.{pair_cmp}
use Rattle.reg_graph.specs.Edges.{reaches, has_edge, among}
use Rattle.reg_graph.specs.Levels.{planned, IsRising}
use Rattle.reg_graph.proofs.Reaching.{reaches_self, reaches_trans, reaches_edge}
use Rattle.reg_graph.proofs.Counting.{passing, passing_less}
use Rattle.reg_graph.proofs.Orders.{Falls, less_trans, less_le, less_self, less_first, sources, in_universe}

pub planned_more : (out : List (ℕ × ℕ)) (x v q : ℕ) → planned (out ++ (x, v) ∷ []) q ≡ max (planned out q) (cond (x == q) v 0)
planned_more [] x v q = omega arith
planned_more (e ∷ es) x v q = let h : planned (es ++ (x, v) ∷ []) q ≡ max (planned es q) (cond (x == q) v 0) = planned_more es x v q in omega (arith, h)

-- all of a plan come before a pair
abbrev pub Before : (ℕ → ℕ) → List (ℕ × ℕ) → ℕ × ℕ → Type 0
Before lv out k = AllByRecursion (λ (e : ℕ × ℕ). pair_cmp (lv e.0, e.0) k ≡ Less) out

pub before_trans : (lv : ℕ → ℕ) (out : List (ℕ × ℕ)) (a s b t : ℕ) → Before lv out (a, s) → pair_cmp (a, s) (b, t) ≡ Less → Before lv out (b, t)
before_trans lv [] a s b t h l = tt
before_trans lv (e ∷ es) a s b t h l = (less_trans (lv e.0) e.0 a s b t h.0 l, before_trans lv es a s b t h.1 l)

pub before_push : (lv : ℕ → ℕ) (out : List (ℕ × ℕ)) (x v : ℕ) (k : ℕ × ℕ) → Before lv out k → pair_cmp (lv x, x) k ≡ Less → Before lv (out ++ (x, v) ∷ []) k
before_push lv [] x v k h l = (l, tt)
before_push lv (e ∷ es) x v k h l = (h.0, before_push lv es x v k h.1 l)

pub rising_push : (lv : ℕ → ℕ) (out : List (ℕ × ℕ)) (x v : ℕ) → IsRising lv out → Before lv out (lv x, x) → IsRising lv (out ++ (x, v) ∷ [])
rising_push lv [] x v h b = (tt, tt)
rising_push lv (e ∷ es) x v h b = (all es h.0, rising_push lv es x v h.1 b.1)
  where
    all : (fs : List (ℕ × ℕ)) → AllByRecursion (λ (f : ℕ × ℕ). pair_cmp (lv e.0, e.0) (lv f.0, f.0) ≡ Less) fs → AllByRecursion (λ (f : ℕ × ℕ). pair_cmp (lv e.0, e.0) (lv f.0, f.0) ≡ Less) (fs ++ (x, v) ∷ [])
    all [] a = (b.0, tt)
    all (f ∷ fs) a = (a.0, all fs a.1)

pub rising_last : (lv : ℕ → ℕ) (out : List (ℕ × ℕ)) (x v : ℕ) → IsRising lv (out ++ (x, v) ∷ []) → IsRising lv out × Before lv out (lv x, x)
rising_last lv [] x v h = (tt, tt)
rising_last lv (e ∷ es) x v h = let r = rising_last lv es x v h.1 in let w = all es h.0 in ((w.0, r.0), (w.1, r.1))
  where
    all : (fs : List (ℕ × ℕ)) → AllByRecursion (λ (f : ℕ × ℕ). pair_cmp (lv e.0, e.0) (lv f.0, f.0) ≡ Less) (fs ++ (x, v) ∷ []) → AllByRecursion (λ (f : ℕ × ℕ). pair_cmp (lv e.0, e.0) (lv f.0, f.0) ≡ Less) fs × (pair_cmp (lv e.0, e.0) (lv x, x) ≡ Less)
    all [] a = (tt, a.0)
    all (f ∷ fs) a = let r = all fs a.1 in ((a.0, r.0), r.1)

-- a group above all of a plan isn't in it
pub planned_none : (lv : ℕ → ℕ) (out : List (ℕ × ℕ)) (l x z : ℕ) → Before lv out (l, x) → l < lv z → planned out z ≡ 0
planned_none lv [] l x z b h = refl
planned_none lv (e ∷ es) l x z b h =
    let other : (e.0 == z) ≡ false = ne_eqb e.0 z (λ same. let w : lv e.0 ≤ l = less_le (lv e.0) e.0 l x b.0 in let u : lv e.0 ≡ lv z = ap lv same in absurd (omega (arith, w, u, h))) in
    let rest : planned es z ≡ 0 = planned_none lv es l x z b.1 h in
    rw other (omega (arith, rest))

-- the groups of a plan
abbrev pub groups : List (ℕ × ℕ) → List ℕ
groups out = map (λ (e : ℕ × ℕ). e.0) out

pub groups_more : (q x v : ℕ) (out : List (ℕ × ℕ)) → among q (groups (out ++ (x, v) ∷ [])) ≡ (among q (groups out) || (x == q))
groups_more q x v [] = elim (x == q) as (λ b. (b || false) ≡ (false || b)) [ true ↦ refl | false ↦ refl ]
groups_more q x v (e ∷ es) = rw (groups_more q x v es) (elim (e.0 == q) as (λ b. (b || (among q (groups es) || (x == q))) ≡ ((b || among q (groups es)) || (x == q))) [ true ↦ refl | false ↦ refl ])

pub not_in : (lv : ℕ → ℕ) (out : List (ℕ × ℕ)) (x : ℕ) → Before lv out (lv x, x) → among x (groups out) ≡ false
not_in lv [] x b = refl
not_in lv (e ∷ es) x b = or_from _ _ (ne_eqb e.0 x (λ same. less_self (lv x) x (rw same at b.0))) (not_in lv es x b.1)

-- what was planned, and what waits for a level
pub record Plans (es : List (ℕ × ℕ)) (lv : ℕ → ℕ) (high from to : ℕ) (out : List (ℕ × ℕ)) (want : ℕ → ℕ → ℕ) (wait : ℕ → ℕ → Bool) : Type 0 where
  pub falls : (z y : ℕ) → has_edge es z y ≡ true → max (lv y) (planned out y) < max (lv z) (max (planned out z) (want (lv z) z))
  pub raised : high < max (planned out from) (want (lv from) from)
  pub stays : planned out to ≡ 0
  pub awaited : (l q : ℕ) → wait l q ≡ true → (l ≡ lv q) × (reaches es q from ≡ true)
  pub later : (l q : ℕ) → wait l q ≡ true → Before lv out (l, q)
  pub rising : IsRising lv out

pub plan_start : (es : List (ℕ × ℕ)) (lv : ℕ → ℕ) (high next from to : ℕ) (want : ℕ → ℕ → ℕ) (wait : ℕ → ℕ → Bool) → Falls es lv → next ≡ high + 1 → ((l q : ℕ) → want l q ≡ cond ((l == lv from) && (q == from)) (max 0 next) 0)
    → ((l q : ℕ) → wait l q ≡ (((l == lv from) && (q == from)) || false)) → Plans es lv high from to [] want wait
plan_start es lv high next from to want wait falls is level written = record {
  falls = λ z y e. let f : lv y < lv z = falls z y e in omega (arith, f);
  raised = let w : want (lv from) from ≡ max 0 next = level (lv from) from ∙ rw (eq-eqb (lv from) (lv from) refl, eq-eqb from from refl) refl in omega (arith, w, is);
  stays = refl;
  awaited = λ l q a. elim (or_cases ((l == lv from) && (q == from)) false (sym (written l q) ∙ a)) [
    | inl w ↦ let v = and_parts (l == lv from) (q == from) w in let e : q ≡ from = eqb-true q from v.1 in (eqb-true l (lv from) v.0 ∙ ap lv (sym e), rw e (reaches_self es from))
    | inr f ↦ absurd (both_ways false refl f)
  ];
  later = λ l q a. tt;
  rising = tt;
}

module _ (es : List (ℕ × ℕ)) (lv : ℕ → ℕ) (down : Falls es lv) (high from to : ℕ) (out : List (ℕ × ℕ)) (want : ℕ → ℕ → ℕ) (wait : ℕ → ℕ → Bool) (m : Plans es lv high from to out want wait) where
  pub plan_less : (n x v : ℕ) → wait n x ≡ true → passing (λ q. not (among q (groups (out ++ (x, v) ∷ [])))) (from ∷ sources es) < passing (λ q. not (among q (groups out))) (from ∷ sources es)
  plan_less n x v was = passing_less (λ q. not (among q (groups (out ++ (x, v) ∷ [])))) (λ q. not (among q (groups out))) more x
      (not_from_true _ (groups_more x x v out ∙ or_right (among x (groups out)) _ (eq-eqb x x refl))) (not_from_false _ (not_in lv out x (rw ((m.awaited n x was).0) at (m.later n x was)))) (from ∷ sources es) (in_universe es from x (m.awaited n x was).1)
    where
      more : (q : ℕ) → not (among q (groups (out ++ (x, v) ∷ []))) ≡ true → not (among q (groups out)) ≡ true
      more q h = elim (cases_Bool (among q (groups out))) [
        | inl t ↦ absurd (both_ways (not (among q (groups (out ++ (x, v) ∷ [])))) (not_from_true _ (groups_more q x v out ∙ or_left _ _ t)) h)
        | inr f ↦ not_from_false _ f
      ]

  module _ (n x v : ℕ) (was : wait n x ≡ true) (value : want n x ≡ v) (apart : (x == to) ≡ false) (want1 want2 : ℕ → ℕ → ℕ) (wait1 wait2 : ℕ → ℕ → Bool)
      (left : (l q : ℕ) → ((l == n) && (q == x)) ≡ false → want1 l q ≡ want l q) (still : (l q : ℕ) → wait1 l q ≡ true → wait l q ≡ true) (least : (l q : ℕ) → wait1 l q ≡ true → pair_cmp (n, x) (l, q) ≡ Less)
      (more : (l q : ℕ) → want1 l q ≤ want2 l q) (raised : (q : ℕ) → has_edge es q x ≡ true → v < max (lv q) (want2 (lv q) q))
      (only : (l q : ℕ) → wait2 l q ≡ true → (wait1 l q ≡ true) ⊎ ((l ≡ lv q) × (has_edge es q x ≡ true))) where
    carried : (q : ℕ) → max (planned out q) (want (lv q) q) ≤ max (planned (out ++ (x, v) ∷ []) q) (want2 (lv q) q)
    carried q =
        let p : planned (out ++ (x, v) ∷ []) q ≡ max (planned out q) (cond (x == q) v 0) = planned_more out x v q in
        elim (cases_Bool ((lv q == n) && (q == x))) [
          | inl t ↦
              let w = and_parts (lv q == n) (q == x) t in
              let e : q ≡ x = eqb-true q x w.1 in
              let l : lv q ≡ n = eqb-true (lv q) n w.0 in
              let i : want (lv q) q ≡ v = rw (l, e) value in
              let c : cond (x == q) v 0 ≡ v = rw (eq-eqb x q (sym e)) refl in
              omega (arith, p, i, c)
          | inr f ↦
              let a : want1 (lv q) q ≡ want (lv q) q = left (lv q) q f in
              let b : want1 (lv q) q ≤ want2 (lv q) q = more (lv q) q in
              omega (arith, p, a, b)
        ]

    pub plan_step : Plans es lv high from to (out ++ (x, v) ∷ []) want2 wait2
    plan_step = record {
      falls = λ z y e.
          let old : max (lv y) (planned out y) < max (lv z) (max (planned out z) (want (lv z) z)) = m.falls z y e in
          let c : max (planned out z) (want (lv z) z) ≤ max (planned (out ++ (x, v) ∷ []) z) (want2 (lv z) z) = carried z in
          let p : planned (out ++ (x, v) ∷ []) y ≡ max (planned out y) (cond (x == y) v 0) = planned_more out x v y in
          elim (cases_Bool (x == y)) [
            | inl t ↦
                let r : v < max (lv z) (want2 (lv z) z) = raised z (rw (← (eqb-true x y t)) at e) in
                let d : cond (x == y) v 0 ≡ v = rw t refl in
                omega (arith, old, c, p, r, d)
            | inr f ↦ let d : cond (x == y) v 0 ≡ 0 = rw f refl in omega (arith, old, c, p, d)
          ];
      raised = let c : max (planned out from) (want (lv from) from) ≤ max (planned (out ++ (x, v) ∷ []) from) (want2 (lv from) from) = carried from in let r : high < max (planned out from) (want (lv from) from) = m.raised in omega (arith, c, r);
      stays = planned_more out x v to ∙ rw (apart, m.stays) refl;
      awaited = λ l q a. elim (only l q a) [
        | inl old ↦ m.awaited l q (still l q old)
        | inr new ↦ (new.0, reaches_trans es q x from (reaches_edge es q x new.1) (m.awaited n x was).1)
      ];
      later = λ l q a. elim (only l q a) [
        | inl old ↦ before_push lv out x v (l, q) (m.later l q (still l q old)) (rw level at (least l q old))
        | inr new ↦
            let f : lv x < l = (let g : lv x < lv q = down q x new.1 in let e : l ≡ lv q = new.0 in omega (arith, g, e)) in
            before_push lv out x v (l, q) (before_trans lv out (lv x) x l q (rw level at (m.later n x was)) (less_first (lv x) x l q f)) (less_first (lv x) x l q f)
      ];
      rising = rising_push lv out x v m.rising (rw level at (m.later n x was));
    }
      where
        level : n ≡ lv x
        level = (m.awaited n x was).0
