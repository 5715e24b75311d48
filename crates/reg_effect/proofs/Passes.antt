-- One group is brought up to date, one person after another.
use Rattle.std.proofs.Common.{◌≡◌, ◌≤◌, ◌+◌, ◌*◌, ◌==◌, ◌&&◌, ◌||◌, ℕ, List, [], ◌∷◌, ◌++◌, Bool, true, false, cond, arith, refl, ◌∙◌, inl, inr, ap}
use Rattle.std.proofs.lemmas.Grind.{common_steps}
use Rattle.std.proofs.lemmas.Bool.{eqb-true, eq-eqb, cases_Bool, both_ways}
use Rattle.std.proofs.Common.{filter, length}
use Rattle.std.proofs.lemmas.List.{length-append}
use Rattle.std.proofs.lemmas.List.Elements.{filter-append}
use Rattle.std.proofs.Math.Bool.{or-true}
use Rattle.reg_effect.specs.declared.live.Live.{Live}
use Rattle.reg_effect.specs.Member.{level}
use Rattle.reg_graph.specs.Edges.{has_edge}
use Rattle.reg_effect.specs.Edges.{edges}
use Rattle.reg_graph.specs.Edges.{among}
use Rattle.reg_effect.specs.Walk.{differ, begins, ends}
use Rattle.reg_graph.proofs.Orders.{among_more}
use Rattle.reg_effect.proofs.Deep.{level_same}

-- the sets as they are while a group is passed, and the group's new members by them
abbrev pub Passed : (ℕ → ℕ → Bool) → (ℕ → ℕ → Bool) → ℕ → (ℕ → Bool) → List ℕ → Type 0
Passed old now g lev ps = (y q : ℕ) → now y q ≡ cond ((y == g) && among q ps) (lev q) (old y q)

pub same_level : (L : Live) (g : ℕ) → has_edge (edges L) g g ≡ false → (old now : ℕ → ℕ → Bool) (lev : ℕ → Bool) (ps : List ℕ) → Passed old now g lev ps → (p : ℕ) → level (λ h. now h p) L g p ≡ level (λ h. old h p) L g p
same_level L g loop old now lev ps h p = level_same L (λ y. now y p) (λ y. old y p) p g below
  where
    below : (y : ℕ) → has_edge (edges L) g y ≡ true → now y p ≡ old y p
    below y e = elim (cases_Bool (y == g)) [
      | inl t ↦ absurd (both_ways (has_edge (edges L) g g) loop (rw (eqb-true y g t) at e))
      | inr f ↦ h y p ∙ rw f refl
    ]

pub passed_more : (old now next : ℕ → ℕ → Bool) (g p : ℕ) (lev : ℕ → Bool) (ps : List ℕ) → Passed old now g lev ps → ((y q : ℕ) → next y q ≡ cond ((y == g) && (q == p)) (lev p) (now y q)) → Passed old next g lev (ps ++ p ∷ [])
passed_more old now next g p lev ps inv upd y q =
    upd y q ∙ elim (cases_Bool (q == p)) [
      | inl t ↦ rw (inv y q, among_more q p ps, t, eqb-true q p t) (bools (y == g) (among p ps) (lev p) (old y p))
      | inr f ↦ rw (inv y q, among_more q p ps, f) (others (y == g) (among q ps) (lev p) (lev q) (old y q))
    ]
  where
    bools : (a b l o : Bool) → cond (a && true) l (cond (a && b) l o) ≡ cond (a && (b || true)) l o
    bools true true l o = refl
    bools true false l o = refl
    bools false b l o = refl

    others : (a b k l o : Bool) → cond (a && false) k (cond (a && b) l o) ≡ cond (a && (b || false)) l o
    others true true k l o = refl
    others true false k l o = refl
    others false b k l o = refl

-- what is marked where a test of the group's old and new membership passes
pub marked_more : (f : Bool → Bool → Bool) → ((b : Bool) → f b b ≡ false) → (old now marks more next : ℕ → ℕ → Bool) (g p : ℕ) (lev : ℕ → Bool) (ps : List ℕ) → Passed old now g lev ps
    → ((y q : ℕ) → more y q ≡ ((((y == g) && among q ps) && f (old g q) (lev q)) || marks y q))
    → ((y q : ℕ) → next y q ≡ ((((y == g) && (q == p)) && f (now g p) (lev p)) || more y q))
    → (y q : ℕ) → next y q ≡ ((((y == g) && among q (ps ++ p ∷ [])) && f (old g q) (lev q)) || marks y q)
marked_more f same old now marks more next g p lev ps inv so upd y q =
    upd y q ∙ elim (cases_Bool (q == p)) [
      | inl t ↦ let e = eqb-true q p t in rw (so y q, among_more q p ps, t, e, inv g p, eq-eqb g g refl) (bools (y == g) (among p ps) (lev p) (old g p) (marks y p))
      | inr x ↦ rw (so y q, among_more q p ps, x) (others (y == g) (among q ps) (f (old g q) (lev q)) (f (now g p) (lev p)) (marks y q))
    ]
  where
    bools : (a b l o m : Bool) → (((a && true) && f (cond (true && b) l o) l) || (((a && b) && f o l) || m)) ≡ (((a && (b || true)) && f o l) || m)
    bools true true l o m = rw (same l) refl
    bools true false l o m = refl
    bools false b l o m = refl

    others : (a b k l m : Bool) → (((a && false) && l) || (((a && b) && k) || m)) ≡ (((a && (b || false)) && k) || m)
    others true true k l m = refl
    others true false k l m = refl
    others false b k l m = refl

pub differ_same : (b : Bool) → differ b b ≡ false
differ_same true = refl
differ_same false = refl

-- the changed ones
pub changed_more : (old now : ℕ → ℕ → Bool) (g p : ℕ) (lev : ℕ → Bool) (ps vs ws : List ℕ) (b : Bool) → Passed old now g lev ps
    → ((q : ℕ) → among q vs ≡ (among q ps && differ (old g q) (lev q)))
    → b ≡ differ (now g p) (lev p) → ws ≡ cond b (vs ++ p ∷ []) vs
    → (q : ℕ) → among q ws ≡ (among q (ps ++ p ∷ []) && differ (old g q) (lev q))
changed_more old now g p lev ps vs ws b inv so e w q =
    ap (λ xs. among q xs) w ∙ (step b ∙ elim (cases_Bool (q == p)) [
      | inl t ↦ rw (among_more q p ps, t, eqb-true q p t, e, inv g p, eq-eqb g g refl) (bools (among p ps) (lev p) (old g p) (among p vs) (so p))
      | inr f ↦ rw (among_more q p ps, f) (others b (among q vs) (among q ps) (differ (old g q) (lev q)) (so q))
    ])
  where
    bools : (a l o v : Bool) → v ≡ (a && differ o l) → cond (differ (cond (true && a) l o) l) (v || true) v ≡ ((a || true) && differ o l)
    bools true true o v h = h
    bools true false o v h = h
    bools false true true v h = h
    bools false true false v h = or-true v
    bools false false true v h = or-true v
    bools false false false v h = h

    others : (c v a d : Bool) → v ≡ (a && d) → cond c (v || false) v ≡ ((a || false) && d)
    others true v true d h = rw h (or_none d)
      where
        or_none : (d : Bool) → (d || false) ≡ d
        or_none true = refl
        or_none false = refl
    others true v false d h = rw h refl
    others false v true d h = h
    others false v false d h = h

    step : (c : Bool) → among q (cond c (vs ++ p ∷ []) vs) ≡ cond c (among q vs || (q == p)) (among q vs)
    step true = among_more q p vs
    step false = refl

pub cost_more : (a b c i k : ℕ) → a ≤ b + i * k → c ≤ a + k → c ≤ b + (i + 1) * k
cost_more a b c i k p q = grind (arith, common_steps)

pub begins_same : (b : Bool) → begins b b ≡ false
begins_same true = refl
begins_same false = refl

pub ends_same : (b : Bool) → ends b b ≡ false
ends_same true = refl
ends_same false = refl

pub differs_before : (old now : ℕ → ℕ → Bool) (g p : ℕ) (lev : ℕ → Bool) (ps : List ℕ) → Passed old now g lev ps → differ (now g p) (lev p) ≡ true → differ (old g p) (lev p) ≡ true
differs_before old now g p lev ps inv d = go (among p ps) (now g p) (inv g p ∙ rw (eq-eqb g g refl) refl) d
  where
    go : (a n : Bool) → n ≡ cond a (lev p) (old g p) → differ n (lev p) ≡ true → differ (old g p) (lev p) ≡ true
    go true n e d = absurd (both_ways (differ (lev p) (lev p)) (differ_same (lev p)) (rw e at d))
    go false n e d = rw e at d

pub fewer_more : (test : ℕ → Bool) (ps : List ℕ) (p n m : ℕ) (b : Bool) → n ≤ length (filter test ps) → (b ≡ true → test p ≡ true) → m ≡ cond b (n + 1) n → m ≤ length (filter test (ps ++ p ∷ []))
fewer_more test ps p n m b h t e = rw e (rw (filter-append test ps (p ∷ [])) (simp length-append (cases b t)))
  where
    cases : (b : Bool) → (b ≡ true → test p ≡ true) → cond b (n + 1) n ≤ length (filter test ps) + length (filter test (p ∷ []))
    cases true t = rw (t refl) (omega (arith, h))
    cases false t = omega (arith, h)
