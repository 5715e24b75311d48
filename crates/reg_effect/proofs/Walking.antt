-- The walk over the groups above a change.
use Rattle.std.proofs.Common.{◌≡◌, ◌==◌, ◌&&◌, ◌||◌, ℕ, List, [], ◌∷◌, Bool, true, false, not, cond, arith, refl, sym, ◌∙◌, inl, inr, ap, length}
use Rattle.std.proofs.lemmas.Bool.{eqb-true, eqb-false, ne_eqb, eq-eqb, cases_Bool, both_ways, false_from_ne_true, or_from}
use Rattle.std.specs.List.{AllByRecursion}
use Rattle.reg_effect.specs.declared.live.Live.{Live}
use Rattle.reg_effect.specs.Member.{level, member}
use Rattle.reg_graph.specs.Edges.{reaches, has_edge, IsAcyclic}
use Rattle.reg_effect.specs.Edges.{edges}
use Rattle.reg_graph.specs.Edges.{among, InputsFirst, IsAbove}
use Rattle.reg_effect.specs.Walk.{differ, Touches}
use Rattle.reg_graph.proofs.Reaching.{reaches_self}
use Rattle.reg_effect.proofs.Deep.{level_same, member_level}

-- no edge from a group to itself
pub no_loop : (es : List (ℕ × ℕ)) → IsAcyclic es → (x : ℕ) → has_edge es x x ≡ false
no_loop es c x = false_from_ne_true (has_edge es x x) (λ t. both_ways (reaches es x x) (c x x t) (reaches_self es x))

pub not_among : (es : List (ℕ × ℕ)) (x h : ℕ) (rest : List ℕ) → AllByRecursion (λ y. has_edge es x y ≡ false) rest → has_edge es x h ≡ true → among h rest ≡ false
not_among es x h [] a e = refl
not_among es x h (y ∷ ys) a e = or_from (y == h) (among h ys) (ne_eqb y h (λ same. both_ways (has_edge es x h) (rw same at a.0) e)) (not_among es x h ys a.1 e)

-- which groups are still to come: those in the list but the group of the change
abbrev pub left : ℕ → List ℕ → ℕ → Bool
left g rest y = among y rest && not (y == g)

-- the sets in mid-walk
abbrev pub Walked : (ℕ → ℕ → Bool) → Live → ℕ → List ℕ → (ℕ → ℕ → Bool) → Type 0
Walked was N g rest sets = (y q : ℕ) → sets y q ≡ cond (left g rest y) (was y q) (member N y q)

-- what is marked in mid-walk
abbrev pub Marked : (Bool → Bool → Bool) → (ℕ → ℕ → Bool) → Live → ℕ → List ℕ → (ℕ → ℕ → Bool) → Type 0
Marked f was N g rest marks = (y q : ℕ) → marks y q ≡ (not (left g rest y) && f (was y q) (member N y q))

-- below the next group all is done
pub walk_level : (was : ℕ → ℕ → Bool) (N : Live) → IsAcyclic (edges N) → (g x : ℕ) (rest : List ℕ) (sets : ℕ → ℕ → Bool) → InputsFirst (edges N) (x ∷ rest) → Walked was N g (x ∷ rest) sets → (q : ℕ) → level (λ h. sets h q) N x q ≡ member N x q
walk_level was N c g x rest sets first w q = level_same N (λ h. sets h q) (λ h. member N h q) q x below ∙ sym (member_level N c x q)
  where
    below : (h : ℕ) → has_edge (edges N) x h ≡ true → sets h q ≡ member N h q
    below h e =
        let here : (x == h) ≡ false = ne_eqb x h (λ same. both_ways (has_edge (edges N) x x) (no_loop (edges N) c x) (rw (← same) at e)) in
        let there : among h rest ≡ false = not_among (edges N) x h rest first.1 e in
        w h q ∙ rw (here, there) refl

module _ (was : ℕ → ℕ → Bool) (N : Live) (g : ℕ) (t : Touches was N g) where
  pub walk_start : (order asked : List ℕ) → IsAbove (edges N) g order
      → ((q : ℕ) → among q asked ≡ false → was g q ≡ member N g q)
      → (next : ℕ → ℕ → Bool)
      → ((y q : ℕ) → next y q ≡ cond ((y == g) && among q asked) (level (λ h. was h q) N g q) (was y q))
      → Walked was N g order next
  walk_start order asked above quiet_rest next upd y q =
      upd y q ∙ elim (cases_Bool (y == g)) [
        | inl e1 ↦ let e : y ≡ g = eqb-true y g e1 in elim (cases_Bool (among q asked)) [
          | inl u ↦ rw (e1, u, t.here q, e) (here (among g order) (was g q) (member N g q))
          | inr v ↦ rw (e1, v, e, quiet_rest q v) (here (among g order) (member N g q) (member N g q))
        ]
        | inr f ↦ elim (cases_Bool (among y order)) [
          | inl u ↦ rw (f, u) refl
          | inr v ↦ rw (f, v) (t.stays y q (sym (above.each y) ∙ v))
        ]
      ]
    where
      here : (r l n : Bool) → n ≡ cond (r && false) l n
      here true l n = refl
      here false l n = refl

  pub marks_start : (f : Bool → Bool → Bool) → ((x : Bool) → f x x ≡ false) → (order asked : List ℕ) → IsAbove (edges N) g order
      → ((q : ℕ) → among q asked ≡ false → was g q ≡ member N g q)
      → (none next : ℕ → ℕ → Bool) → ((y q : ℕ) → none y q ≡ false)
      → ((y q : ℕ) → next y q ≡ ((((y == g) && among q asked) && f (was g q) (level (λ h. was h q) N g q)) || none y q))
      → Marked f was N g order next
  marks_start f same order asked above quiet_rest none next nothing upd y q =
      upd y q ∙ elim (cases_Bool (y == g)) [
        | inl e1 ↦ let e : y ≡ g = eqb-true y g e1 in elim (cases_Bool (among q asked)) [
          | inl u ↦ rw (e1, u, t.here q, nothing y q, e) (here (among g order) (f (was g q) (member N g q)))
          | inr v ↦ rw (e1, v, nothing y q, e, quiet_rest q v, same (member N g q)) (none_here (among g order))
        ]
        | inr x ↦ elim (cases_Bool (among y order)) [
          | inl u ↦ rw (x, u, nothing y q) refl
          | inr v ↦ rw (x, v, nothing y q, t.stays y q (sym (above.each y) ∙ v), same (member N y q)) refl
        ]
      ]
    where
      here : (r m : Bool) → (m || false) ≡ (not (r && false) && m)
      here true true = refl
      here true false = refl
      here false true = refl
      here false false = refl

      none_here : (r : Bool) → false ≡ (not (r && false) && false)
      none_here true = refl
      none_here false = refl

  -- a group is passed
  pub walk_more : IsAcyclic (edges N) → (x : ℕ) (rest asked : List ℕ) → (x == g) ≡ false → InputsFirst (edges N) (x ∷ rest)
      → ((q : ℕ) → among q asked ≡ false → was g q ≡ member N g q)
      → (sets next : ℕ → ℕ → Bool) → Walked was N g (x ∷ rest) sets
      → ((y q : ℕ) → next y q ≡ cond ((y == x) && among q asked) (level (λ h. sets h q) N x q) (sets y q))
      → Walked was N g rest next
  walk_more b x rest asked other first quiet_rest sets next w upd y q =
      upd y q ∙ elim (cases_Bool (y == x)) [
        | inl e1 ↦ let e : y ≡ x = eqb-true y x e1 in elim (cases_Bool (among q asked)) [
          | inl u ↦ rw (e1, u, walk_level was N b g x rest sets first w q, e, first.0) refl
          | inr v ↦ rw (e1, v, w y q, t.quiet q (quiet_rest q v) y) (either (left g (x ∷ rest) y) (left g rest y) (member N y q))
        ]
        | inr f ↦ rw (f, w y q, ne_eqb x y (λ e. eqb-false y x f (sym e))) refl
      ]
    where
      either : (l r m : Bool) → cond l m m ≡ cond r m m
      either true true m = refl
      either true false m = refl
      either false true m = refl
      either false false m = refl

  pub marks_more : (f : Bool → Bool → Bool) → ((x : Bool) → f x x ≡ false) → IsAcyclic (edges N) → (x : ℕ) (rest asked : List ℕ) → (x == g) ≡ false → InputsFirst (edges N) (x ∷ rest)
      → ((q : ℕ) → among q asked ≡ false → was g q ≡ member N g q)
      → (sets marks next : ℕ → ℕ → Bool) → Walked was N g (x ∷ rest) sets → Marked f was N g (x ∷ rest) marks
      → ((y q : ℕ) → next y q ≡ ((((y == x) && among q asked) && f (sets x q) (level (λ h. sets h q) N x q)) || marks y q))
      → Marked f was N g rest next
  marks_more f same b x rest asked other first quiet_rest sets marks next w m upd y q =
      upd y q ∙ elim (cases_Bool (y == x)) [
        | inl e1 ↦ let e : y ≡ x = eqb-true y x e1 in elim (cases_Bool (among q asked)) [
          | inl u ↦ rw (e1, u, walk_level was N b g x rest sets first w q, m y q, e, w x q, first.0, eq-eqb x x refl, other) (marked (f (was x q) (member N x q)))
          | inr v ↦ rw (e1, v, m y q, t.quiet q (quiet_rest q v) y, same (member N y q)) (neither (left g (x ∷ rest) y) (left g rest y))
        ]
        | inr z ↦ rw (z, m y q, ne_eqb x y (λ e. eqb-false y x z (sym e))) refl
      ]
    where
      marked : (m : Bool) → (m || false) ≡ m
      marked true = refl
      marked false = refl

      neither : (l r : Bool) → (not l && false) ≡ (not r && false)
      neither true true = refl
      neither true false = refl
      neither false true = refl
      neither false false = refl

  -- only the changed persons are asked for above
  pub quiet_rest_at : (asked changes : List ℕ)
      → ((q : ℕ) → among q asked ≡ false → was g q ≡ member N g q)
      → ((q : ℕ) → among q changes ≡ (among q asked && differ (was g q) (level (λ h. was h q) N g q)))
      → (q : ℕ) → among q changes ≡ false → was g q ≡ member N g q
  quiet_rest_at asked changes quiet_rest ch q none =
      elim (cases_Bool (among q asked)) [
        | inl u ↦ alike (was g q) (member N g q) (sym (rw (u, t.here q) at (ch q)) ∙ none)
        | inr v ↦ quiet_rest q v
      ]
    where
      alike : (l n : Bool) → differ l n ≡ false → l ≡ n
      alike true true h = refl
      alike true false h = cc
      alike false true h = cc
      alike false false h = refl

pub no_length : (xs : List ℕ) → length xs ≡ 0 → xs ≡ []
no_length [] h = refl
no_length (x ∷ xs) h = absurd (omega (arith, h))

-- where nobody's membership of the group changed, all is done
module _ (was : ℕ → ℕ → Bool) (N : Live) (g : ℕ) (t : Touches was N g) (asked changes : List ℕ)
    (quiet_rest : (q : ℕ) → among q asked ≡ false → was g q ≡ member N g q)
    (ch : (q : ℕ) → among q changes ≡ (among q asked && differ (was g q) (level (λ h. was h q) N g q)))
    (none : changes ≡ []) where
  pub none_changed : (y q : ℕ) → was y q ≡ member N y q
  none_changed y q = t.quiet q (quiet_rest_at was N g t asked changes quiet_rest ch q (ap (λ xs. among q xs) none)) y

  pub sets_end : (next : ℕ → ℕ → Bool) → ((y q : ℕ) → next y q ≡ cond ((y == g) && among q asked) (level (λ h. was h q) N g q) (was y q)) → (y q : ℕ) → next y q ≡ member N y q
  sets_end next upd y q = upd y q ∙ elim (cases_Bool (y == g)) [
    | inl e1 ↦ let e : y ≡ g = eqb-true y g e1 in elim (cases_Bool (among q asked)) [
      | inl u ↦ rw (e1, u, t.here q, e) refl
      | inr v ↦ rw (e1, v) (none_changed y q)
    ]
    | inr f ↦ rw f (none_changed y q)
  ]

  pub marks_end : (f : Bool → Bool → Bool) → ((x : Bool) → f x x ≡ false) → (old next : ℕ → ℕ → Bool) → ((y q : ℕ) → old y q ≡ false)
      → ((y q : ℕ) → next y q ≡ ((((y == g) && among q asked) && f (was g q) (level (λ h. was h q) N g q)) || old y q)) → (y q : ℕ) → next y q ≡ f (was y q) (member N y q)
  marks_end f same old next nothing upd y q = upd y q ∙ rw (nothing y q, t.here q, none_changed g q, none_changed y q, same (member N g q), same (member N y q)) (never ((y == g) && among q asked))
    where
      never : (b : Bool) → ((b && false) || false) ≡ false
      never true = refl
      never false = refl

-- the group of the change is passed over
pub left_skip : (g x : ℕ) (rest : List ℕ) → (x == g) ≡ true → (y : ℕ) → left g (x ∷ rest) y ≡ left g rest y
left_skip g x rest t y = elim (cases_Bool (x == y)) [
  | inl u ↦ rw (u, ← (eqb-true x y u), t) (both (among x rest))
  | inr v ↦ rw v refl
]
  where
    both : (a : Bool) → false ≡ (a && false)
    both true = refl
    both false = refl
