-- How many groups and edges are above a group.
use Rattle.std.proofs.Common.{◌≡◌, ◌≤◌, ◌+◌, ◌*◌, ◌==◌, ◌&&◌, ℕ, List, [], ◌∷◌, Bool, true, false, not, cond, filter, length, arith, refl, sym, ◌∙◌, inl, inr, ap, nat_eq}
use Rattle.std.proofs.lemmas.Bool.{eqb-true, eq-eqb, cases_Bool, and_parts, both_ways, or_cases, or_left, or_right}
use Rattle.std.proofs.lemmas.Map.Made.{length-le_from_is_member}
use Rattle.std.specs.Cmp.{nat_eq_equiv}
use Rattle.std.specs.List.{list_any, AllByRecursion, IsDistinct}
use Rattle.reg_graph.specs.Edges.{reaches}
use Rattle.reg_effect.specs.Bound.{leaving, starts, dependants, most_climb}
use Rattle.reg_graph.specs.Edges.{among, InputsFirst, IsAbove}
use Rattle.reg_effect.specs.Walk.{climb}
use Rattle.reg_graph.proofs.Reaching.{eq_turned}

pub among_is : (q : ℕ) (xs : List ℕ) → list_any (nat_eq q) xs ≡ among q xs
among_is q [] = refl
among_is q (x ∷ xs) = rw (among_is q xs, eq_turned x q) refl

pub none_later : (x : ℕ) (xs : List ℕ) → among x xs ≡ false → AllByRecursion (λ y. nat_eq x y ≡ false) xs
none_later x [] h = tt
none_later x (y ∷ ys) h = elim (cases_Bool (y == x)) [
  | inl t ↦ absurd (both_ways (among x (y ∷ ys)) h (or_left _ _ t))
  | inr f ↦ (sym (eq_turned y x) ∙ f, none_later x ys (rw f at h))
]

pub distinct_order : (es : List (ℕ × ℕ)) (xs : List ℕ) → InputsFirst es xs → IsDistinct nat_eq xs
unfolding IsDistinct
distinct_order es [] h = tt
distinct_order es (x ∷ xs) h = (none_later x xs h.0, distinct_order es xs h.2)

-- numbers each once, all of them among others, are no more than those
pub no_more : (xs ys : List ℕ) → IsDistinct nat_eq xs → ((q : ℕ) → among q xs ≡ true → among q ys ≡ true) → length xs ≤ length ys
no_more xs ys d h = length-le_from_is_member nat_eq_equiv xs ys d (λ q m. among_is q ys ∙ h q (sym (among_is q xs) ∙ m))

abbrev pub all_leaving : List (ℕ × ℕ) → List ℕ → ℕ
all_leaving es [] = 0
all_leaving es (x ∷ xs) = leaving es x + all_leaving es xs

pub climb_le : (es : List (ℕ × ℕ)) (g : ℕ) (xs : List ℕ) → climb es g xs ≤ all_leaving es xs + 2 * length xs
climb_le es g [] = omega arith
climb_le es g (x ∷ xs) =
    let le = climb_le es g xs in
    elim (x == g) as (λ b. cond b 0 (leaving es x + 2) + climb es g xs ≤ (leaving es x + all_leaving es xs) + 2 * length (x ∷ xs)) [ true ↦ omega (arith, le) | false ↦ omega (arith, le) ]

abbrev pub times : ℕ → List ℕ → ℕ
times y [] = 0
times y (x ∷ xs) = cond (y == x) 1 0 + times y xs

pub times_none : (y : ℕ) (xs : List ℕ) → among y xs ≡ false → times y xs ≡ 0
times_none y [] h = refl
times_none y (x ∷ xs) h = elim (cases_Bool (x == y)) [
  | inl t ↦ absurd (both_ways (among y (x ∷ xs)) h (or_left _ _ t))
  | inr f ↦ rw (eq_turned y x, f, times_none y xs (rw f at h)) (omega arith)
]

pub times_once : (es : List (ℕ × ℕ)) (y : ℕ) (xs : List ℕ) → InputsFirst es xs → times y xs ≡ cond (among y xs) 1 0
times_once es y [] h = refl
times_once es y (x ∷ xs) h = elim (cases_Bool (x == y)) [
  | inl t ↦ rw (eq_turned y x, t, times_none y xs (rw (eqb-true x y t) at h.0)) (omega arith)
  | inr f ↦ rw (eq_turned y x, f, times_once es y xs h.2) (omega arith)
]

pub leaving_none : (xs : List ℕ) → all_leaving [] xs ≡ 0
leaving_none [] = refl
leaving_none (x ∷ xs) = rw (leaving_none xs) (omega arith)

pub leaving_more : (e : ℕ × ℕ) (es : List (ℕ × ℕ)) (xs : List ℕ) → all_leaving (e ∷ es) xs ≡ times e.0 xs + all_leaving es xs
leaving_more e es [] = omega arith
leaving_more e es (x ∷ xs) =
    let more = leaving_more e es xs in
    elim (e.0 == x) as (λ b. cond b (1 + leaving es x) (leaving es x) + all_leaving (e ∷ es) xs ≡ (cond b 1 0 + times e.0 xs) + (leaving es x + all_leaving es xs)) [ true ↦ omega (arith, more) | false ↦ omega (arith, more) ]

-- the edges of which the sources are in the list
pub all_leaving_is : (fs : List (ℕ × ℕ)) (xs : List ℕ) → InputsFirst fs xs → (es : List (ℕ × ℕ)) → all_leaving es xs ≡ length (filter (λ (e : ℕ × ℕ). among e.0 xs) es)
all_leaving_is fs xs h [] = leaving_none xs
all_leaving_is fs xs h (e ∷ es) =
    let rest = all_leaving_is fs xs h es in
    rw (leaving_more e es xs, times_once fs e.0 xs h, rest)
    (elim (among e.0 xs) as (λ b. cond b 1 0 + length (filter (λ (e : ℕ × ℕ). among e.0 xs) es) ≡ length (cond b (e ∷ filter (λ (e : ℕ × ℕ). among e.0 xs) es) (filter (λ (e : ℕ × ℕ). among e.0 xs) es))) [ true ↦ omega arith | false ↦ omega arith ])

pub filter_same_edges : (p r : ℕ × ℕ → Bool) → ((e : ℕ × ℕ) → p e ≡ r e) → (es : List (ℕ × ℕ)) → filter p es ≡ filter r es
filter_same_edges p r h [] = refl
filter_same_edges p r h (x ∷ xs) = rw (h x, filter_same_edges p r h xs) refl

-- a group that reaches another has an edge
pub starts_more : (e : ℕ × ℕ) (es : List (ℕ × ℕ)) (q : ℕ) → among q (starts es) ≡ true → among q (starts (e ∷ es)) ≡ true
starts_more e es q h = elim (among e.0 (starts es)) as (λ b. among q (cond b (starts es) (e.0 ∷ starts es)) ≡ true) [ true ↦ h | false ↦ or_right (e.0 == q) _ h ]

pub starts_here : (e : ℕ × ℕ) (es : List (ℕ × ℕ)) → among e.0 (starts (e ∷ es)) ≡ true
starts_here e es = elim (cases_Bool (among e.0 (starts es))) [
  | inl t ↦ rw t t
  | inr f ↦ rw f (or_left _ _ (eq-eqb e.0 e.0 refl))
]

pub reaches_starts : (es : List (ℕ × ℕ)) (q g : ℕ) → reaches es q g ≡ true → (q == g) ≡ false → among q (starts es) ≡ true
unfolding reaches
reaches_starts [] q g r n = absurd (both_ways (q == g) n r)
reaches_starts (e ∷ es) q g r n = elim (or_cases _ _ r) [
  | inl r1 ↦ starts_more e es q (reaches_starts es q g r1 n)
  | inr r2 ↦ elim (cases_Bool (q == e.0)) [
    | inl t ↦ rw (eqb-true q e.0 t) (starts_here e es)
    | inr f ↦ starts_more e es q (reaches_starts es q e.0 (and_parts (reaches es q e.0) (reaches es e.1 g) r2).0 f)
  ]
]

pub among_filter : (p : ℕ → Bool) (q : ℕ) (xs : List ℕ) → among q (filter p xs) ≡ (p q && among q xs)
among_filter p q [] = elim (p q) as (λ b. false ≡ (b && false)) [ true ↦ refl | false ↦ refl ]
among_filter p q (x ∷ xs) = elim (cases_Bool (x == q)) [
  | inl t ↦ let e : x ≡ q = eqb-true x q t in rw (e, eq-eqb q q refl) (go (p q) (among_filter p q xs))
  | inr f ↦ rw f (elim (p x) as (λ b. among q (cond b (x ∷ filter p xs) (filter p xs)) ≡ (p q && among q xs)) [ true ↦ rw f (among_filter p q xs) | false ↦ among_filter p q xs ])
]
  where
    go : (b : Bool) → among q (filter p xs) ≡ (b && among q xs) → among q (cond b (q ∷ filter p xs) (filter p xs)) ≡ (b && true)
    go true h = or_left _ _ (eq-eqb q q refl)
    go false h = h

-- the groups above, with the group itself
pub above_length : (es : List (ℕ × ℕ)) (g : ℕ) (xs : List ℕ) → IsAbove es g xs → length xs ≤ 1 + length (dependants es g)
above_length es g xs a = let le = no_more xs (g ∷ dependants es g) (distinct_order es xs a.inputs_first) in_it in omega (arith, le)
  where
    in_it : (q : ℕ) → among q xs ≡ true → among q (g ∷ dependants es g) ≡ true
    in_it q h = elim (cases_Bool (q == g)) [
      | inl t ↦ or_left _ _ (eq_turned g q ∙ t)
      | inr f ↦ let r : reaches es q g ≡ true = sym (a.each q) ∙ h in
          or_right (g == q) _ (among_filter (λ x. reaches es x g && not (x == g)) q (starts es) ∙ rw (r, f, reaches_starts es q g r f) refl)
    ]

-- what the walk takes for one person
pub climb_bound : (es : List (ℕ × ℕ)) (g : ℕ) (xs : List ℕ) → IsAbove es g xs → climb es g xs ≤ most_climb es g
climb_bound es g xs a =
    let one = climb_le es g xs in
    let two = all_leaving_is es xs a.inputs_first es ∙ ap length (filter_same_edges (λ (e : ℕ × ℕ). among e.0 xs) (λ (e : ℕ × ℕ). reaches es e.0 g) (λ e. a.each e.0) es) in
    let three = above_length es g xs a in
    omega (arith, one, two, three)
