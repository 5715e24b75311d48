-- The edges of live data under changes, each counted as often as it stands.
use Rattle.std.proofs.Common.{◌≡◌, ◌<◌, ◌≤◌, ◌+◌, ◌==◌, ◌&&◌, ℕ, List, [], ◌∷◌, ◌++◌, true, false, not, cond, Some, arith, refl, sym, ◌∙◌, ap, subst, inl, inr}
use Rattle.std.proofs.lemmas.Bool.{cases_Bool, eqb-false, ne_eqb, eq-eqb, or_parts, both_ways, false_from_ne_true}
use Rattle.std.proofs.lemmas.List.Sums.{sum_by-cons}
use Rattle.std.proofs.lemmas.List.Sorted.{sum_by_pushed}
use Rattle.std.specs.List.{list_any, AllByRecursion, sum_by, find}
use Rattle.std.specs.List.Sorted.{IsPermutation}
use Rattle.std.specs.BTreeSet.{insert_key}
use Rattle.std.specs.Set.{remove_key}
use Rattle.std.specs.Ordering.{match_ordering, is_eq}
use Rattle.std.specs.declared.cmp.Ordering.{Ordering}
use Rattle.std.specs.declared.cmp.Ordering.TheVariants.{Less, Equal, Greater}
use Rattle.std.proofs.lemmas.List.Sorted.{IsPermutation-sym}
use Rattle.reg_terms.specs.declared.kinds.Member.{Member}
use Rattle.reg_terms.specs.declared.kinds.Member.TheVariants.{Person, Group}
use Rattle.reg_terms.specs.declared.kinds.SetOp.{SetOp}
use Rattle.reg_terms.specs.declared.rows.CompositeRow.{CompositeRow}
use Rattle.reg_graph.specs.Edges.{has_edge, reaches, InputsFirst, IsAbove, IsAcyclic}
use Rattle.reg_graph.proofs.Reaching.{reaches_self, reaches_trans, reaches_edge, kept_along}
use Rattle.reg_effect.specs.declared.live.Live.{Live}
use Rattle.reg_effect.specs.declared.live.Change.TheVariants.{RowOn, RowOff, FactorsOn, FactorsOff}
use Rattle.reg_terms.specs.Rows.{is_composite}
use Rattle.reg_effect.specs.Order.{row_cmp, composite_cmp, is_live_row, has_live_row}
use Rattle.reg_effect.specs.Edges.{edges, edge_of, row_edges, factor_edges}
use Rattle.reg_effect.specs.Changes.{changed}
use Rattle.reg_effect.specs.Invariant.{copies, IsCounted}
use Rattle.reg_effect.proofs.Edits.{row_is, rows_absent, composite_absent}

abbrev pub one : ℕ → ℕ → ℕ × ℕ → ℕ
one a b e = cond ((e.0 == a) && (e.1 == b)) 1 0

pub copies_sum : (a b : ℕ) (es : List (ℕ × ℕ)) → copies a b es ≡ sum_by (one a b) es
copies_sum a b [] = refl
copies_sum a b (e ∷ es) = ap (λ n. one a b e + n) (copies_sum a b es) ∙ sym (sum_by-cons (one a b) e es)

-- in another order, with one more edge
pub copies_pushed : (a b : ℕ) (e : ℕ × ℕ) (es fs : List (ℕ × ℕ)) → IsPermutation (e ∷ es) fs → copies a b fs ≡ one a b e + copies a b es
copies_pushed a b e es fs p = copies_sum a b fs ∙ (sum_by_pushed (one a b) e es fs p ∙ ap (λ n. one a b e + n) (sym (copies_sum a b es)))

pub copies_taken : (a b : ℕ) (e : ℕ × ℕ) (es fs : List (ℕ × ℕ)) → IsPermutation es (e ∷ fs) → copies a b es ≡ one a b e + copies a b fs
copies_taken a b e es fs p = copies_pushed a b e fs es (IsPermutation-sym es (e ∷ fs) p)

pub copies-append : (a b : ℕ) (es fs : List (ℕ × ℕ)) → copies a b (es ++ fs) ≡ copies a b es + copies a b fs
copies-append a b [] fs = omega arith
copies-append a b (e ∷ es) fs = let r = copies-append a b es fs in omega (arith, r)

pub copies_edges : (L : Live) (a b : ℕ) → copies a b (edges L) ≡ copies a b (row_edges L.rows) + copies a b (factor_edges L.composites)
unfolding edges
copies_edges L a b = copies-append a b (row_edges L.rows) (factor_edges L.composites)

-- ---- rows
pub edge_more : (a b x : ℕ) (n : Member) (rest : List (ℕ × ℕ)) → copies a b (edge_of x n rest) ≡ copies a b (edge_of x n []) + copies a b rest
edge_more a b x (Person p) rest = omega arith
edge_more a b x (Group h) rest = omega arith

pub row_more : (a b g : ℕ) (m : Member) (rows : List (ℕ × Member)) → has_live_row g m rows ≡ false → copies a b (row_edges (insert_key row_cmp rows (g, m))) ≡ copies a b (edge_of g m []) + copies a b (row_edges rows)
row_more a b g m rows h = step rows (rows_absent g m rows ∙ h)
  where
    step : (rows : List (ℕ × Member)) → list_any (λ r. is_eq (row_cmp (g, m) r)) rows ≡ false → copies a b (row_edges (insert_key row_cmp rows (g, m))) ≡ copies a b (edge_of g m []) + copies a b (row_edges rows)
    step [] h = omega arith
    step (r ∷ rs) h =
        let parts = or_parts (is_eq (row_cmp (g, m) r)) (list_any (λ r. is_eq (row_cmp (g, m) r)) rs) h in
        go (step rs parts.1) (row_cmp (g, m) r) parts.0
      where
        go : copies a b (row_edges (insert_key row_cmp rs (g, m))) ≡ copies a b (edge_of g m []) + copies a b (row_edges rs) → (o : Ordering) → is_eq o ≡ false
            → copies a b (row_edges (match_ordering o ((g, m) ∷ r ∷ rs) (r ∷ rs) (r ∷ insert_key row_cmp rs (g, m)))) ≡ copies a b (edge_of g m []) + copies a b (edge_of r.0 r.1 (row_edges rs))
        go e Less n = edge_more a b g m (edge_of r.0 r.1 (row_edges rs))
        go e Equal n = cc
        go e Greater n =
            let f = edge_more a b r.0 r.1 (row_edges rs) in
            let k = edge_more a b r.0 r.1 (row_edges (insert_key row_cmp rs (g, m))) in
            omega (arith, e, f, k)

pub row_less : (a b g : ℕ) (m : Member) (rows : List (ℕ × Member)) → has_live_row g m rows ≡ true → copies a b (row_edges rows) ≡ copies a b (edge_of g m []) + copies a b (row_edges (remove_key (is_live_row g m) rows))
row_less a b g m [] h = cc
row_less a b g m ((y, n) ∷ rs) h = elim (cases_Bool (is_live_row g m (y, n))) [
  | inl t ↦ let w = row_is g m y n t in rw t (rw (w.0, w.1) (edge_more a b g m (row_edges rs)))
  | inr f ↦
      let r = row_less a b g m rs (rw f at h) in
      let k = edge_more a b y n (row_edges rs) in
      let l = edge_more a b y n (row_edges (remove_key (is_live_row g m) rs)) in
      rw f (omega (arith, r, k, l))
]

-- ---- composites
abbrev pub two : ℕ → ℕ → CompositeRow → ℕ
two a b c = one a b (c.group, c.left) + one a b (c.group, c.right)

pub factor_more : (a b : ℕ) (c : CompositeRow) (cs : List CompositeRow) → is_composite c.group cs ≡ false → copies a b (factor_edges (insert_key composite_cmp cs c)) ≡ two a b c + copies a b (factor_edges cs)
factor_more a b c cs h = step cs (composite_absent c cs ∙ h)
  where
    step : (cs : List CompositeRow) → list_any (λ d. is_eq (composite_cmp c d)) cs ≡ false → copies a b (factor_edges (insert_key composite_cmp cs c)) ≡ two a b c + copies a b (factor_edges cs)
    step [] h = omega arith
    step (d ∷ ds) h =
        let parts = or_parts (is_eq (composite_cmp c d)) (list_any (λ d. is_eq (composite_cmp c d)) ds) h in
        go (step ds parts.1) (composite_cmp c d) parts.0
      where
        go : copies a b (factor_edges (insert_key composite_cmp ds c)) ≡ two a b c + copies a b (factor_edges ds) → (o : Ordering) → is_eq o ≡ false
            → copies a b (factor_edges (match_ordering o (c ∷ d ∷ ds) (d ∷ ds) (d ∷ insert_key composite_cmp ds c))) ≡ two a b c + copies a b (factor_edges (d ∷ ds))
        go e Less n = omega arith
        go e Equal n = cc
        go e Greater n = omega (arith, e)

pub factor_less : (a b g : ℕ) (c : CompositeRow) (cs : List CompositeRow) → find (λ (d : CompositeRow). d.group == g) cs ≡ Some c → copies a b (factor_edges cs) ≡ two a b c + copies a b (factor_edges (remove_key (λ (d : CompositeRow). d.group == g) cs))
factor_less a b g c [] h = cc
factor_less a b g c (d ∷ ds) h = elim (cases_Bool (d.group == g)) [
  | inl t ↦ let e : d ≡ c = some d c (rw t at h) in rw t (rw (← e) (omega arith))
  | inr f ↦ let r = factor_less a b g c ds (rw f at h) in rw f (omega (arith, r))
]
  where
    some : (x y : CompositeRow) → Some x ≡ Some y → x ≡ y
    some x y e = cc

-- ---- the kept graph after a change
pub counted_person : (L : Live) (g p : ℕ) (graph : List (ℕ × ℕ)) → has_live_row g (Person p) L.rows ≡ false → IsCounted L graph → IsCounted (changed (RowOn g (Person p)) L) graph
counted_person L g p graph h k a b =
    let r = row_more a b g (Person p) L.rows h in
    let s = copies_edges L a b in
    let t = copies_edges (changed (RowOn g (Person p)) L) a b in
    let u = k a b in
    omega (arith, r, s, t, u)

pub counted_nested : (L : Live) (g x : ℕ) (old new : List (ℕ × ℕ)) → has_live_row g (Group x) L.rows ≡ false → IsCounted L old → IsPermutation ((g, x) ∷ old) new → IsCounted (changed (RowOn g (Group x)) L) new
counted_nested L g x old new h k p a b =
    let r = row_more a b g (Group x) L.rows h in
    let s = copies_edges L a b in
    let t = copies_edges (changed (RowOn g (Group x)) L) a b in
    let u = k a b in
    let v = copies_pushed a b (g, x) old new p in
    omega (arith, r, s, t, u, v)

pub counted_person_off : (L : Live) (g p : ℕ) (graph : List (ℕ × ℕ)) → has_live_row g (Person p) L.rows ≡ true → IsCounted L graph → IsCounted (changed (RowOff g (Person p)) L) graph
counted_person_off L g p graph h k a b =
    let r = row_less a b g (Person p) L.rows h in
    let s = copies_edges L a b in
    let t = copies_edges (changed (RowOff g (Person p)) L) a b in
    let u = k a b in
    omega (arith, r, s, t, u)

pub counted_nested_off : (L : Live) (g x : ℕ) (old new : List (ℕ × ℕ)) → has_live_row g (Group x) L.rows ≡ true → IsCounted L old → IsPermutation old ((g, x) ∷ new) → IsCounted (changed (RowOff g (Group x)) L) new
counted_nested_off L g x old new h k p a b =
    let r = row_less a b g (Group x) L.rows h in
    let s = copies_edges L a b in
    let t = copies_edges (changed (RowOff g (Group x)) L) a b in
    let u = k a b in
    let v = copies_taken a b (g, x) old new p in
    omega (arith, r, s, t, u, v)

pub counted_factors : (L : Live) (g : ℕ) (op : SetOp) (left right : ℕ) (old mid new : List (ℕ × ℕ)) → is_composite g L.composites ≡ false → IsCounted L old → IsPermutation ((g, left) ∷ old) mid → IsPermutation ((g, right) ∷ mid) new → IsCounted (changed (FactorsOn g op left right) L) new
counted_factors L g op left right old mid new h k p q a b =
    let r = factor_more a b (record { group = g; op = op; left = left; right = right }) L.composites h in
    let s = copies_edges L a b in
    let t = copies_edges (changed (FactorsOn g op left right) L) a b in
    let u = k a b in
    let v = copies_pushed a b (g, left) old mid p in
    let w = copies_pushed a b (g, right) mid new q in
    omega (arith, r, s, t, u, v, w)

pub counted_factors_off : (L : Live) (g : ℕ) (c : CompositeRow) (old mid new : List (ℕ × ℕ)) → find (λ (d : CompositeRow). d.group == g) L.composites ≡ Some c → IsCounted L old → IsPermutation old ((c.group, c.left) ∷ mid) → IsPermutation mid ((c.group, c.right) ∷ new) → IsCounted (changed (FactorsOff g) L) new
counted_factors_off L g c old mid new h k p q a b =
    let r = factor_less a b g c L.composites h in
    let s = copies_edges L a b in
    let t = copies_edges (changed (FactorsOff g) L) a b in
    let u = k a b in
    let v = copies_taken a b (c.group, c.left) old mid p in
    let w = copies_taken a b (c.group, c.right) mid new q in
    omega (arith, r, s, t, u, v, w)

pub counted_row_off : (L : Live) (g x : ℕ) (m : Member) (old new : List (ℕ × ℕ)) → m ≡ Group x → has_live_row g m L.rows ≡ true → IsCounted L old → IsPermutation old ((g, x) ∷ new) → IsCounted (changed (RowOff g m) L) new
counted_row_off L g x m old new e =
    let P : Member → Type 0 = λ n. has_live_row g n L.rows ≡ true → IsCounted L old → IsPermutation old ((g, x) ∷ new) → IsCounted (changed (RowOff g n) L) new in
    subst P (sym e) (counted_nested_off L g x old new)

-- ---- edges that stand as often are the same edges
pub edge_copies : (a b : ℕ) (es : List (ℕ × ℕ)) → has_edge es a b ≡ not (copies a b es == 0)
edge_copies a b [] = refl
edge_copies a b (e ∷ es) = elim (cases_Bool ((e.0 == a) && (e.1 == b))) [
  | inl t ↦ rw t (sym (ap not (ne_eqb (1 + copies a b es) 0 (λ z. absurd (omega (arith, z))))))
  | inr f ↦ rw f (edge_copies a b es ∙ ap (λ n. not (n == 0)) (let z : copies a b es ≡ 0 + copies a b es = omega arith in z))
]

pub edge_counted : (L : Live) (graph : List (ℕ × ℕ)) → IsCounted L graph → (a b : ℕ) → has_edge graph a b ≡ has_edge (edges L) a b
edge_counted L graph k a b = edge_copies a b graph ∙ (ap (λ n. not (n == 0)) (k a b) ∙ sym (edge_copies a b (edges L)))

pub positive : (a b : ℕ) (es : List (ℕ × ℕ)) → 0 < copies a b es → has_edge es a b ≡ true
positive a b es l = edge_copies a b es ∙ ap not (ne_eqb (copies a b es) 0 (λ z. absurd (omega (arith, l, z))))

pub one_self : (a b : ℕ) → one a b (a, b) ≡ 1
one_self a b = rw (eq-eqb a a refl, eq-eqb b b refl) refl

-- the edge of a row that stands is in the graph
pub nested_stands : (L : Live) (g x : ℕ) (graph : List (ℕ × ℕ)) → has_live_row g (Group x) L.rows ≡ true → IsCounted L graph → has_edge graph g x ≡ true
nested_stands L g x graph h k =
    let r = row_less g x g (Group x) L.rows h in
    let s = copies_edges L g x in
    let u = k g x in
    let i = one_self g x in
    positive g x graph (omega (arith, r, s, u, i))

pub left_stands : (L : Live) (g : ℕ) (c : CompositeRow) (graph : List (ℕ × ℕ)) → find (λ (d : CompositeRow). d.group == g) L.composites ≡ Some c → IsCounted L graph → has_edge graph c.group c.left ≡ true
left_stands L g c graph h k =
    let r = factor_less c.group c.left g c L.composites h in
    let s = copies_edges L c.group c.left in
    let u = k c.group c.left in
    let i = one_self c.group c.left in
    positive c.group c.left graph (omega (arith, r, s, u, i))

pub right_stands : (L : Live) (g : ℕ) (c : CompositeRow) (graph mid : List (ℕ × ℕ)) → find (λ (d : CompositeRow). d.group == g) L.composites ≡ Some c → IsCounted L graph → IsPermutation graph ((c.group, c.left) ∷ mid) → has_edge mid c.group c.right ≡ true
right_stands L g c graph mid h k p =
    let r = factor_less c.group c.right g c L.composites h in
    let s = copies_edges L c.group c.right in
    let u = k c.group c.right in
    let i = one_self c.group c.right in
    let v = copies_taken c.group c.right (c.group, c.left) graph mid p in
    positive c.group c.right mid (omega (arith, r, s, u, i, v))

module _ (es fs : List (ℕ × ℕ)) (same : (a b : ℕ) → has_edge es a b ≡ has_edge fs a b) where
  pub reaches_to : (a b : ℕ) → reaches es a b ≡ true → reaches fs a b ≡ true
  reaches_to a b r = kept_along (λ y. reaches fs a y) es (λ x y e p. reaches_trans fs a x y p (reaches_edge fs x y (sym (same x y) ∙ e))) a b r (reaches_self fs a)

  pub inputs_to : (xs : List ℕ) → InputsFirst es xs → InputsFirst fs xs
  inputs_to [] h = tt
  inputs_to (x ∷ xs) h = (h.0, each x xs h.1, inputs_to xs h.2)
    where
      each : (x : ℕ) (ys : List ℕ) → AllByRecursion (λ y. has_edge es x y ≡ false) ys → AllByRecursion (λ y. has_edge fs x y ≡ false) ys
      each x [] a = tt
      each x (y ∷ ys) a = (sym (same x y) ∙ a.0, each x ys a.1)

pub reaches_same : (es fs : List (ℕ × ℕ)) → ((a b : ℕ) → has_edge es a b ≡ has_edge fs a b) → (a b : ℕ) → reaches es a b ≡ reaches fs a b
reaches_same es fs same a b = elim (cases_Bool (reaches es a b)) [
  | inl t ↦ t ∙ sym (reaches_to es fs same a b t)
  | inr f ↦ f ∙ sym (false_from_ne_true (reaches fs a b) (λ r. both_ways (reaches es a b) f (reaches_to fs es (λ x y. sym (same x y)) a b r)))
]

pub above_counted : (L : Live) (graph : List (ℕ × ℕ)) → IsCounted L graph → (g : ℕ) (xs : List ℕ) → IsAbove graph g xs → IsAbove (edges L) g xs
above_counted L graph k g xs a = record {
  each = λ x. a.each x ∙ reaches_same graph (edges L) (edge_counted L graph k) x g;
  inputs_first = inputs_to graph (edges L) (edge_counted L graph k) xs a.inputs_first;
}

-- ---- rows of persons make no edges
-- ---- fewer edges
pub reaches_fewer : (es fs : List (ℕ × ℕ)) → ((a b : ℕ) → has_edge fs a b ≡ true → has_edge es a b ≡ true) → (a b : ℕ) → reaches fs a b ≡ true → reaches es a b ≡ true
reaches_fewer es fs fewer a b r = kept_along (λ y. reaches es a y) fs (λ x y e p. reaches_trans es a x y p (reaches_edge es x y (fewer x y e))) a b r (reaches_self es a)

-- fewer edges close no circle
pub acyclic_fewer : (es fs : List (ℕ × ℕ)) → IsAcyclic es → ((a b : ℕ) → has_edge fs a b ≡ true → has_edge es a b ≡ true) → IsAcyclic fs
acyclic_fewer es fs c fewer a b e = false_from_ne_true (reaches fs b a) (λ r. both_ways (reaches es b a) (c a b (fewer a b e)) (reaches_fewer es fs fewer b a r))

pub counts : (a b : ℕ) (es : List (ℕ × ℕ)) → has_edge es a b ≡ true → 0 < copies a b es
counts a b es h = above (copies a b es) (sym (edge_copies a b es) ∙ h)
  where
    above : (n : ℕ) → not (n == 0) ≡ true → 0 < n
    above n e = elim (cases_Bool (n == 0)) [
      | inl t ↦ let w : false ≡ true = rw t at e in cc
      | inr f ↦ let z = eqb-false n 0 f in omega (arith, z)
    ]

-- where edges close no circle, no path of some of them leads back along one of them
pub no_way_back : (es fs : List (ℕ × ℕ)) (a b : ℕ) → IsAcyclic es → 0 < copies a b es → ((x y : ℕ) → copies x y fs ≤ copies x y es) → reaches fs b a ≡ false
no_way_back es fs a b c e fewer = false_from_ne_true (reaches fs b a) (λ r. both_ways (reaches es b a) (c a b (positive a b es e)) (reaches_fewer es fs (λ x y h. positive x y es (let i = counts x y fs h in let j = fewer x y in omega (arith, i, j))) b a r))

pub nested_open : (L : Live) (g x : ℕ) (graph : List (ℕ × ℕ)) → has_live_row g (Group x) L.rows ≡ false → IsCounted L graph → IsAcyclic (edges (changed (RowOn g (Group x)) L)) → reaches graph x g ≡ false
nested_open L g x graph h k c =
    let N = changed (RowOn g (Group x)) L in
    no_way_back (edges N) graph g x c
    (let r = row_more g x g (Group x) L.rows h in
    let t = copies_edges N g x in
    let i = one_self g x in
    omega (arith, r, t, i))
    (λ y z.
    let r = row_more y z g (Group x) L.rows h in
    let s = copies_edges L y z in
    let t = copies_edges N y z in
    let u = k y z in
    omega (arith, r, s, t, u))

pub left_open : (L : Live) (g : ℕ) (op : SetOp) (left right : ℕ) (graph : List (ℕ × ℕ)) → is_composite g L.composites ≡ false → IsCounted L graph → IsAcyclic (edges (changed (FactorsOn g op left right) L)) → reaches graph left g ≡ false
left_open L g op left right graph h k c =
    let N = changed (FactorsOn g op left right) L in
    let new : CompositeRow = record { group = g; op = op; left = left; right = right } in
    no_way_back (edges N) graph g left c
    (let r = factor_more g left new L.composites h in
    let t = copies_edges N g left in
    let i = one_self g left in
    omega (arith, r, t, i))
    (λ y z.
    let r = factor_more y z new L.composites h in
    let s = copies_edges L y z in
    let t = copies_edges N y z in
    let u = k y z in
    omega (arith, r, s, t, u))

pub right_open : (L : Live) (g : ℕ) (op : SetOp) (left right : ℕ) (graph mid : List (ℕ × ℕ)) → is_composite g L.composites ≡ false → IsCounted L graph → IsPermutation ((g, left) ∷ graph) mid → IsAcyclic (edges (changed (FactorsOn g op left right) L)) → reaches mid right g ≡ false
right_open L g op left right graph mid h k p c =
    let N = changed (FactorsOn g op left right) L in
    let new : CompositeRow = record { group = g; op = op; left = left; right = right } in
    no_way_back (edges N) mid g right c
    (let r = factor_more g right new L.composites h in
    let t = copies_edges N g right in
    let i = one_self g right in
    omega (arith, r, t, i))
    (λ y z.
    let r = factor_more y z new L.composites h in
    let s = copies_edges L y z in
    let t = copies_edges N y z in
    let u = k y z in
    let v = copies_pushed y z (g, left) graph mid p in
    omega (arith, r, s, t, u, v))
