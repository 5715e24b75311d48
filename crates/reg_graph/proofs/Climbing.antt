-- A walk up from a group, in the order of levels.
use Rattle.std.proofs.Common.{◌≡◌, ◌≤◌, ◌<◌, ◌==◌, ◌&&◌, ◌||◌, ℕ, List, [], ◌∷◌, ◌++◌, Bool, true, false, not, arith, refl, sym, ◌∙◌, inl, inr, ap}
use Rattle.std.proofs.lemmas.Grind.{common_steps}
use Rattle.std.proofs.lemmas.Bool.Decides.{nat_tests}
use Rattle.std.proofs.lemmas.Bool.{eqb-true, eq-eqb, cases_Bool, and_parts, and_from, and_right, both_ways, or_cases, or_left, or_right, false_from_ne_true, not_from_true, not_from_false}
use Rattle.std.specs.declared.cmp.Ordering.TheVariants.{Less}
use Rattle.reg_graph.specs.Sets.{holds, pair_cmp}
use Rattle.reg_graph.specs.Edges.{reaches, has_edge, is_needed, among, InputsFirst, IsAbove}
use Rattle.reg_graph.proofs.Reaching.{reaches_self, reaches_trans, reaches_edge, kept_along}
use Rattle.reg_graph.proofs.Counting.{passing, passing_less}
use Rattle.reg_graph.proofs.Orders.{Falls, less_le, less_self, less_first, among_more, inputs_push, sources, in_universe}

-- what was passed, and what waits at its level
pub record Climbs (es : List (ℕ × ℕ)) (lv : ℕ → ℕ) (node : ℕ) (out : List ℕ) (pend : List (ℕ × ℕ)) : Type 0 where
  pub leads : (q : ℕ) → among q out ≡ true → reaches es q node ≡ true
  pub awaited : (n q : ℕ) → holds n q pend ≡ true → (n ≡ lv q) × (reaches es q node ≡ true)
  pub closed : (z y : ℕ) → has_edge es z y ≡ true → among y out ≡ true → (among z out || holds (lv z) z pend) ≡ true
  pub start : (among node out || holds (lv node) node pend) ≡ true
  pub later : (n q : ℕ) → holds n q pend ≡ true → (y : ℕ) → among y out ≡ true → pair_cmp (lv y, y) (n, q) ≡ Less
  pub first : InputsFirst es out

module _ (es : List (ℕ × ℕ)) (lv : ℕ → ℕ) (falls : Falls es lv) (node : ℕ) (out : List ℕ) (pend : List (ℕ × ℕ)) (m : Climbs es lv node out pend) where
  pub not_passed : (n x : ℕ) → holds n x pend ≡ true → among x out ≡ false
  not_passed n x was = false_from_ne_true (among x out) (λ a.
      let l : pair_cmp (lv x, x) (n, x) ≡ Less = m.later n x was x a in
      less_self (lv x) x (rw ((m.awaited n x was).0) at l))

  pub climb_less : (n x : ℕ) → holds n x pend ≡ true → passing (λ q. not (among q (out ++ x ∷ []))) (node ∷ sources es) < passing (λ q. not (among q out)) (node ∷ sources es)
  climb_less n x was = passing_less (λ q. not (among q (out ++ x ∷ []))) (λ q. not (among q out)) more x
      (not_from_true _ (among_more x x out ∙ or_right (among x out) _ (eq-eqb x x refl))) (not_from_false _ (not_passed n x was)) (node ∷ sources es) (in_universe es node x (m.awaited n x was).1)
    where
      more : (q : ℕ) → not (among q (out ++ x ∷ [])) ≡ true → not (among q out) ≡ true
      more q h = elim (cases_Bool (among q out)) [
        | inl t ↦ absurd (both_ways (not (among q (out ++ x ∷ []))) (not_from_true _ (among_more q x out ∙ or_left _ _ t)) h)
        | inr f ↦ not_from_false _ f
      ]

  pub climb_end : ((n q : ℕ) → holds n q pend ≡ false) → IsAbove es node out
  climb_end none = record { each = each; inputs_first = m.first }
    where
      done : (z : ℕ) → (among z out || holds (lv z) z pend) ≡ true → among z out ≡ true
      done z h = elim (or_cases _ _ h) [ inl a ↦ a | inr w ↦ absurd (both_ways (holds (lv z) z pend) (none (lv z) z) w) ]

      step : (a b : ℕ) → has_edge es a b ≡ true → not (among a out) ≡ true → not (among b out) ≡ true
      step a b e h = elim (cases_Bool (among b out)) [
        | inl t ↦ absurd (both_ways (not (among a out)) (not_from_true _ (done a (m.closed a b e t))) h)
        | inr f ↦ not_from_false _ f
      ]

      each : (x : ℕ) → among x out ≡ reaches es x node
      each x = elim (cases_Bool (among x out)) [
        | inl t ↦ t ∙ sym (m.leads x t)
        | inr f ↦ f ∙ sym (false_from_ne_true (reaches es x node) (λ r. both_ways (not (among node out)) (not_from_true _ (done node m.start)) (kept_along (λ y. not (among y out)) es step x node r (not_from_false _ f))))
      ]

  pub climb_step : (less more : List (ℕ × ℕ)) (n x : ℕ) → holds n x pend ≡ true → ((a b : ℕ) → holds a b less ≡ (not ((a == n) && (b == x)) && holds a b pend)) → ((a b : ℕ) → holds a b less ≡ true → pair_cmp (n, x) (a, b) ≡ Less)
      → ((a b : ℕ) → holds a b more ≡ (((a == lv b) && has_edge es b x) || holds a b less)) → Climbs es lv node (out ++ x ∷ []) more
  climb_step less more n x was popped least added = record {
    leads = λ q a. elim (or_cases (among q out) (q == x) (sym (among_more q x out) ∙ a)) [ inl o ↦ m.leads q o | inr t ↦ rw (eqb-true q x t) up ];
    awaited = λ a b h. elim (or_cases ((a == lv b) && has_edge es b x) (holds a b less) (sym (added a b) ∙ h)) [
      | inl new ↦ let w = and_parts (a == lv b) (has_edge es b x) new in (eqb-true a (lv b) w.0, reaches_trans es b x node (reaches_edge es b x w.1) up)
      | inr old ↦ m.awaited a b (still a b old)
    ];
    closed = λ z y e a. elim (or_cases (among y out) (y == x) (sym (among_more y x out) ∙ a)) [
      | inl o ↦ moved z (m.closed z y e o)
      | inr t ↦ or_right (among z (out ++ x ∷ [])) _ (added (lv z) z ∙ or_left _ _ (and_from _ _ (eq-eqb (lv z) (lv z) refl) (rw (eqb-true y x t) at e)))
    ];
    start = moved node m.start;
    later = λ a b h y o. elim (or_cases (among y out) (y == x) (sym (among_more y x out) ∙ o)) [
      | inl before ↦ elim (or_cases ((a == lv b) && has_edge es b x) (holds a b less) (sym (added a b) ∙ h)) [
        | inl new ↦ let f : lv x < a = above a b new in let l : lv y ≤ n = less_le (lv y) y n x (m.later n x was y before) in less_first (lv y) y a b (omega (arith, f, l, level))
        | inr old ↦ m.later a b (still a b old) y before
      ]
      | inr t ↦ rw (eqb-true y x t) (elim (or_cases ((a == lv b) && has_edge es b x) (holds a b less) (sym (added a b) ∙ h)) [
        | inl new ↦ less_first (lv x) x a b (above a b new)
        | inr old ↦ rw level at (least a b old)
      ])
    ];
    first = inputs_push es x out m.first (not_passed n x was) (λ y a. false_from_ne_true (has_edge es y x) (λ e.
        let f : lv x < lv y = falls y x e in let l : lv y ≤ n = less_le (lv y) y n x (m.later n x was y a) in absurd (omega (arith, f, l, level))));
  }
    where
      level : n ≡ lv x
      level = (m.awaited n x was).0

      up : reaches es x node ≡ true
      up = (m.awaited n x was).1

      still : (a b : ℕ) → holds a b less ≡ true → holds a b pend ≡ true
      still a b h = (and_parts (not ((a == n) && (b == x))) (holds a b pend) (sym (popped a b) ∙ h)).1

      above : (a b : ℕ) → ((a == lv b) && has_edge es b x) ≡ true → lv x < a
      above a b h = let w = and_parts (a == lv b) (has_edge es b x) h in let e : a ≡ lv b = eqb-true a (lv b) w.0 in let f : lv x < lv b = falls b x w.1 in omega (arith, e, f)

      moved : (z : ℕ) → (among z out || holds (lv z) z pend) ≡ true → (among z (out ++ x ∷ []) || holds (lv z) z more) ≡ true
      moved z h = elim (or_cases (among z out) (holds (lv z) z pend) h) [
        | inl o ↦ or_left (among z (out ++ x ∷ [])) (holds (lv z) z more) (among_more z x out ∙ or_left (among z out) (z == x) o)
        | inr p ↦ elim (cases_Bool (z == x)) [
          | inl t ↦ or_left (among z (out ++ x ∷ [])) (holds (lv z) z more) (among_more z x out ∙ or_right (among z out) (z == x) t)
          | inr f ↦ or_right (among z (out ++ x ∷ [])) (holds (lv z) z more) (added (lv z) z ∙ or_right ((lv z == lv z) && has_edge es z x) (holds (lv z) z less) (popped (lv z) z ∙ and_from (not ((lv z == n) && (z == x))) (holds (lv z) z pend) (not_from_false ((lv z == n) && (z == x)) (and_right (lv z == n) (z == x) f)) p))
        ]
      ]

-- at first the group alone waits
pub climb_start : (es : List (ℕ × ℕ)) (lv : ℕ → ℕ) (node : ℕ) (pend : List (ℕ × ℕ)) → ((a b : ℕ) → holds a b pend ≡ (((a == lv node) && (b == node)) || false)) → Climbs es lv node [] pend
climb_start es lv node pend h = record {
  leads = λ q a. absurd (both_ways false refl a);
  awaited = λ n q a. elim (or_cases ((n == lv node) && (q == node)) false (sym (h n q) ∙ a)) [
    | inl w ↦ let v = and_parts (n == lv node) (q == node) w in let e : q ≡ node = eqb-true q node v.1 in (eqb-true n (lv node) v.0 ∙ ap lv (sym e), rw e (reaches_self es node))
    | inr f ↦ absurd (both_ways false refl f)
  ];
  closed = λ z y e a. absurd (both_ways false refl a);
  start = h (lv node) node ∙ or_left _ _ (and_from _ _ (eq-eqb (lv node) (lv node) refl) (eq-eqb node node refl));
  later = λ n q a y o. absurd (both_ways false refl o);
  first = tt;
}

-- one more of those right above waits
pub await_more : (lv : ℕ → ℕ) (done : List ℕ) (old now new : List (ℕ × ℕ)) (h : ℕ) → ((x q : ℕ) → holds x q now ≡ (((x == lv q) && among q done) || holds x q old))
    → ((x q : ℕ) → holds x q new ≡ (((x == lv h) && (q == h)) || holds x q now)) → (x q : ℕ) → holds x q new ≡ (((x == lv q) && among q (done ++ h ∷ [])) || holds x q old)
await_more lv done old now new h so more x q = rw (more x q, so x q, among_more q h done) (elim (cases_Bool (q == h)) [
  | inl t ↦ rw (t, eqb-true q h t) (yes (x == lv h) (among h done) (holds x h old))
  | inr f ↦ rw f (no (x == lv h) (x == lv q) (among q done) (holds x q old))
])
  where
    yes : (a b d : Bool) → ((a && true) || ((a && b) || d)) ≡ ((a && (b || true)) || d)
    yes true true d = refl
    yes true false d = refl
    yes false b d = refl

    no : (a e b d : Bool) → ((a && false) || ((e && b) || d)) ≡ ((e && (b || false)) || d)
    no true true true d = refl
    no true true false d = refl
    no true false b d = refl
    no false true true d = refl
    no false true false d = refl
    no false false b d = refl

-- no edge goes to a group on which none depends
pub none_above : (es : List (ℕ × ℕ)) (a b : ℕ) → is_needed es b ≡ false → has_edge es a b ≡ false
none_above [] a b none = refl
none_above (e ∷ es) a b none = elim (cases_Bool (e.1 == b)) [
  | inl t ↦ absurd (both_ways (is_needed (e ∷ es) b) none (or_left (e.1 == b) (is_needed es b) t))
  | inr f ↦ rw (f) (last (e.0 == a) (has_edge es a b) (none_above es a b (rw f at none)))
]
  where
    last : (c d : Bool) → d ≡ false → ((c && false) || d) ≡ false
    last true d h = h
    last false d h = h

-- such a group is all that a walk up from it comes to
pub alone_above : (es : List (ℕ × ℕ)) (lv : ℕ → ℕ) → Falls es lv → (node : ℕ) → is_needed es node ≡ false → IsAbove es node (node ∷ [])
alone_above es lv falls node none = climb_end es lv falls node (node ∷ []) [] stepped (λ n q. refl)
  where
    first : List (ℕ × ℕ)
    first = (lv node, node) ∷ []

    waits : (a b : ℕ) → holds a b first ≡ (((a == lv node) && (b == node)) || false)
    waits a b = grind (arith, nat_tests, common_steps)

    popped : (a b : ℕ) → holds a b [] ≡ (not ((a == lv node) && (b == node)) && holds a b first)
    popped a b = grind (arith, nat_tests, common_steps)

    added : (a b : ℕ) → holds a b [] ≡ (((a == lv b) && has_edge es b node) || holds a b [])
    added a b = rw (none_above es b node none) (last (a == lv b))
      where
        last : (c : Bool) → false ≡ ((c && false) || false)
        last true = refl
        last false = refl

    stepped : Climbs es lv node (node ∷ []) []
    stepped = climb_step es lv falls node [] first (climb_start es lv node first waits) [] [] (lv node) node
        (waits (lv node) node ∙ or_left _ _ (and_from _ _ (eq-eqb (lv node) (lv node) refl) (eq-eqb node node refl))) popped (λ a b h. absurd (both_ways false refl h)) added
