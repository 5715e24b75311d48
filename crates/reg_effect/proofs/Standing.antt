-- The edges that stand in the facts' lists, and a graph that has them.
use Rattle.std.proofs.Common.{◌≡◌, ◌+◌, ◌==◌, ◌&&◌, ◌||◌, ℕ, List, [], ◌∷◌, ◌++◌, Bool, true, false, not, map, filter, Option, Some, arith, refl, sym, ◌∙◌, ap, subst, inl, inr, nat_le}
use Rattle.std.proofs.lemmas.Bool.{cases_Bool, or_cases, or_left, or_right, and_parts, eqb-true}
use Rattle.std.proofs.lemmas.List.Folds.{list_any-append}
use Rattle.std.proofs.lemmas.List.Sorted.{IsPermutation-refl, IsPermutation-sym, IsPermutation-cons, IsPermutation-trans, IsPermutation-middle, list_any-IsPermutation, sum_by-IsPermutation}
use Rattle.std.specs.List.{list_any, find}
use Rattle.std.specs.List.Sorted.{IsPermutation}
use Rattle.std.specs.BTreeSet.{insert_key}
use Rattle.std.specs.Set.{remove_key}
use Rattle.reg_terms.specs.declared.kinds.Member.{Member}
use Rattle.reg_terms.specs.declared.kinds.Member.TheVariants.{Person, Group}
use Rattle.reg_terms.specs.declared.kinds.SetOp.{SetOp}
use Rattle.reg_terms.specs.declared.rows.MemberRow.{MemberRow}
use Rattle.reg_terms.specs.declared.rows.CompositeRow.{CompositeRow}
use Rattle.reg_terms.specs.Rows as terms
use Rattle.reg_graph.specs.Edges.{has_edge, IsAcyclic}
use Rattle.reg_effect.specs.declared.live.Live.{Live}
use Rattle.reg_effect.specs.declared.live.Change.TheVariants.{RowOn, RowOff, FactorsOn, FactorsOff}
use Rattle.reg_terms.specs.Rows.{is_composite}
use Rattle.reg_effect.specs.Order.{composite_cmp, is_live_row, has_live_row}
use Rattle.reg_effect.specs.Edges.{edges, edge_of, row_edges, factor_edges}
use Rattle.reg_effect.specs.Changes.{rows_on, composites_in, live_of, changed, Suits}
use Rattle.reg_effect.specs.Asked.{Once}
use Rattle.reg_effect.specs.Invariant.{copies}
use Rattle.reg_effect.specs.Standing.{pair_of, standing, RowsOnce}
use Rattle.reg_effect.proofs.Edits.{row_is}
use Rattle.reg_effect.proofs.LiveLaws.{any_put_from, row_stands, row_absent, test_absent, composites_same, live_row_more, live_factors_more}
use Rattle.reg_effect.proofs.Graphs.{one, two, copies_sum, copies_pushed, copies_taken, copies-append, edge_more, positive, one_self, acyclic_fewer}

-- ---- fewer edges, and edges in another order
pub acyclic_permuted : (es fs : List (ℕ × ℕ)) → IsPermutation es fs → IsAcyclic es → IsAcyclic fs
acyclic_permuted es fs p c = acyclic_fewer es fs c (λ a b h. list_any-IsPermutation (λ (e : ℕ × ℕ). (e.0 == a) && (e.1 == b)) es fs p ∙ h)

-- ---- the edges of the live data stand
pub edge_row : (a b : ℕ) (rs : List (ℕ × Member)) → has_edge (row_edges rs) a b ≡ has_live_row a (Group b) rs
edge_row a b [] = refl
edge_row a b ((x, Person p) ∷ rs) = edge_row a b rs ∙ none (x == a) (has_live_row a (Group b) rs)
  where
    none : (c d : Bool) → d ≡ ((c && false) || d)
    none true d = refl
    none false d = refl
edge_row a b ((x, Group h) ∷ rs) = ap (λ c. ((x == a) && (h == b)) || c) (edge_row a b rs)

pub row_of_facts : (g : ℕ) (m : Member) (rows : List MemberRow) → has_live_row g m (map pair_of rows) ≡ terms.has_row g m rows
row_of_facts g m [] = refl
row_of_facts g m (r ∷ rs) = ap (λ c. is_live_row g m (r.group, r.member) || c) (row_of_facts g m rs)

abbrev pub makes : ℕ → ℕ → CompositeRow → Bool
makes a b c = ((c.group == a) && (c.left == b)) || ((c.group == a) && (c.right == b))

pub edge_factor : (a b : ℕ) (cs : List CompositeRow) → has_edge (factor_edges cs) a b ≡ list_any (makes a b) cs
edge_factor a b [] = refl
edge_factor a b (c ∷ cs) = rw (edge_factor a b cs) (over ((c.group == a) && (c.left == b)) ((c.group == a) && (c.right == b)) (list_any (makes a b) cs))
  where
    over : (x y z : Bool) → (x || (y || z)) ≡ ((x || y) || z)
    over true y z = refl
    over false y z = refl

pub factors_from : (test : CompositeRow → Bool) (cs acc : List CompositeRow) → list_any test (composites_in cs acc) ≡ true → (list_any test cs || list_any test acc) ≡ true
factors_from test [] acc h = h
factors_from test (c ∷ cs) acc h = elim (or_cases (list_any test cs) (list_any test (insert_key composite_cmp acc c)) (factors_from test cs (insert_key composite_cmp acc c) h)) [
  | inl t ↦ or_left (test c || list_any test cs) (list_any test acc) (or_right (test c) (list_any test cs) t)
  | inr u ↦ later (test c) (list_any test cs) (list_any test acc) (any_put_from composite_cmp test c acc u)
]
  where
    later : (x y z : Bool) → (x || z) ≡ true → ((x || y) || z) ≡ true
    later true y z h = refl
    later false true z h = refl
    later false false z h = h

-- each edge of the live data stands in the facts' lists
pub edge_stands : (at : ℕ) (rows : List MemberRow) (cs : List CompositeRow) (a b : ℕ) → has_edge (edges (live_of at rows cs)) a b ≡ true → has_edge (standing rows cs) a b ≡ true
unfolding edges standing
edge_stands at rows cs a b h =
    list_any-append (λ (e : ℕ × ℕ). (e.0 == a) && (e.1 == b)) (row_edges (map pair_of rows)) (factor_edges cs)
    ∙ elim (or_cases (has_edge (row_edges (rows_on at rows [])) a b) (has_edge (factor_edges (composites_in cs [])) a b) (sym (list_any-append (λ (e : ℕ × ℕ). (e.0 == a) && (e.1 == b)) (row_edges (rows_on at rows [])) (factor_edges (composites_in cs []))) ∙ h)) [
      | inl r ↦ or_left (has_edge (row_edges (map pair_of rows)) a b) (has_edge (factor_edges cs) a b) (edge_row a b (map pair_of rows) ∙ (row_of_facts a (Group b) rows ∙ row_stands at a (Group b) rows (sym (edge_row a b (rows_on at rows [])) ∙ r)))
      | inr f ↦ or_right (has_edge (row_edges (map pair_of rows)) a b) (has_edge (factor_edges cs) a b) (edge_factor a b cs ∙ (sym (outside (list_any (makes a b) cs)) ∙ factors_from (makes a b) cs [] (sym (edge_factor a b (composites_in cs [])) ∙ f)))
    ]
  where
    outside : (b : Bool) → (b || false) ≡ b
    outside true = refl
    outside false = refl

-- where a graph has the edges that stand and no circle, the live data have none
pub live_acyclic : (at : ℕ) (rows : List MemberRow) (cs : List CompositeRow) (graph : List (ℕ × ℕ)) → IsPermutation graph (standing rows cs) → IsAcyclic graph → IsAcyclic (edges (live_of at rows cs))
live_acyclic at rows cs graph p c = acyclic_fewer (standing rows cs) (edges (live_of at rows cs)) (acyclic_permuted graph (standing rows cs) p c) (edge_stands at rows cs)

-- ---- changes that only take edges away close no circle
pub any_removed_from : {X : Type 0} (t test : X → Bool) (xs : List X) → list_any test (remove_key t xs) ≡ true → list_any test xs ≡ true
any_removed_from t test [] h = h
any_removed_from t test (x ∷ xs) h = elim (cases_Bool (t x)) [
  | inl y ↦ or_right (test x) (list_any test xs) (rw y at h)
  | inr n ↦ elim (or_cases (test x) (list_any test (remove_key t xs)) (rw n at h)) [
    | inl here ↦ or_left (test x) (list_any test xs) here
    | inr there ↦ or_right (test x) (list_any test xs) (any_removed_from t test xs there)
  ]
]

pub acyclic_within : (L N : Live) → ((test : ℕ × Member → Bool) → list_any test N.rows ≡ true → list_any test L.rows ≡ true) → ((test : CompositeRow → Bool) → list_any test N.composites ≡ true → list_any test L.composites ≡ true) → IsAcyclic (edges L) → IsAcyclic (edges N)
unfolding edges
acyclic_within L N rows composites c = acyclic_fewer (edges L) (edges N) c (λ a b e.
    list_any-append (λ (e : ℕ × ℕ). (e.0 == a) && (e.1 == b)) (row_edges L.rows) (factor_edges L.composites)
    ∙ elim (or_cases (has_edge (row_edges N.rows) a b) (has_edge (factor_edges N.composites) a b) (sym (list_any-append (λ (e : ℕ × ℕ). (e.0 == a) && (e.1 == b)) (row_edges N.rows) (factor_edges N.composites)) ∙ e)) [
      | inl r ↦ or_left (has_edge (row_edges L.rows) a b) (has_edge (factor_edges L.composites) a b) (edge_row a b L.rows ∙ rows (is_live_row a (Group b)) (sym (edge_row a b N.rows) ∙ r))
      | inr f ↦ or_right (has_edge (row_edges L.rows) a b) (has_edge (factor_edges L.composites) a b) (edge_factor a b L.composites ∙ composites (makes a b) (sym (edge_factor a b N.composites) ∙ f))
    ])

pub row_off_suits : (g : ℕ) (m : Member) (L : Live) → has_live_row g m L.rows ≡ true → IsAcyclic (edges L) → Suits (RowOff g m) L
row_off_suits g m L h c = record { fits = h; no_circle = acyclic_within L (changed (RowOff g m) L) (λ test. any_removed_from (is_live_row g m) test L.rows) (λ test e. e) c }

pub factors_off_suits : (g : ℕ) (L : Live) → is_composite g L.composites ≡ true → IsAcyclic (edges L) → Suits (FactorsOff g) L
factors_off_suits g L h c = record { fits = h; no_circle = acyclic_within L (changed (FactorsOff g) L) (λ test e. e) (λ test. any_removed_from (λ (d : CompositeRow). d.group == g) test L.composites) c }

-- a row that comes, in facts whose edges close no circle with its own
pub row_on_suits : (at from g : ℕ) (m : Member) (until : Option ℕ) (rows : List MemberRow) (cs : List CompositeRow) (graph : List (ℕ × ℕ)) → nat_le from at ≡ true → terms.has_row g m rows ≡ false → is_composite g cs ≡ false → IsPermutation graph (standing (rows ++ (record { group = g; member = m; from = from; until = until }) ∷ []) cs) → IsAcyclic graph → Suits (RowOn g m) (live_of at rows cs)
row_on_suits at from g m until rows cs graph on new plain p c =
    let N : IsAcyclic (edges (live_of at (rows ++ (record { group = g; member = m; from = from; until = until }) ∷ []) cs)) = live_acyclic at (rows ++ (record { group = g; member = m; from = from; until = until }) ∷ []) cs graph p c in
    record { fits = (row_absent at g m rows new, composites_same g cs ∙ plain); no_circle = subst (λ (L : Live). IsAcyclic (edges L)) (live_row_more at from g m until rows cs on) N }

-- factors that come
pub factors_on_suits : (at g : ℕ) (op : SetOp) (left right : ℕ) (rows : List MemberRow) (cs : List CompositeRow) (graph : List (ℕ × ℕ)) → is_composite g cs ≡ false → list_any (λ (row : MemberRow). row.group == g) rows ≡ false → IsPermutation graph (standing rows (cs ++ (record { group = g; op = op; left = left; right = right }) ∷ [])) → IsAcyclic graph → Suits (FactorsOn g op left right) (live_of at rows cs)
factors_on_suits at g op left right rows cs graph plain none p c =
    let N : IsAcyclic (edges (live_of at rows (cs ++ (record { group = g; op = op; left = left; right = right }) ∷ []))) = live_acyclic at rows (cs ++ (record { group = g; op = op; left = left; right = right }) ∷ []) graph p c in
    record { fits = (composites_same g cs ∙ plain, test_absent (λ (p : ℕ × Member). p.0 == g) at rows none); no_circle = subst (λ (L : Live). IsAcyclic (edges L)) (live_factors_more at g op left right rows cs) N }

-- ---- nothing stands at the start

-- ---- lists that have each edge as often are one up to their order
pub copies_permuted : (a b : ℕ) (es fs : List (ℕ × ℕ)) → IsPermutation es fs → copies a b es ≡ copies a b fs
copies_permuted a b es fs p = copies_sum a b es ∙ (sym (sum_by-IsPermutation (one a b) es fs p) ∙ sym (copies_sum a b fs))

pub picked : (a b : ℕ) (fs : List (ℕ × ℕ)) → has_edge fs a b ≡ true → (gs : List (ℕ × ℕ)) × IsPermutation fs ((a, b) ∷ gs)
picked a b [] h = cc
picked a b ((x, y) ∷ fs) h = elim (cases_Bool ((x == a) && (y == b))) [
  | inl t ↦ let w = and_parts (x == a) (y == b) t in (fs, rw (eqb-true x a w.0, eqb-true y b w.1) (IsPermutation-refl ((a, b) ∷ fs)))
  | inr f ↦
      let p = picked a b fs (rw f at h) in
      ((x, y) ∷ p.0, IsPermutation-trans ((x, y) ∷ fs) ((x, y) ∷ (a, b) ∷ p.0) ((a, b) ∷ (x, y) ∷ p.0) (IsPermutation-cons (x, y) fs ((a, b) ∷ p.0) p.1) (IsPermutation-middle ((x, y) ∷ []) (a, b) p.0))
]

pub same_copies : (es fs : List (ℕ × ℕ)) → ((a b : ℕ) → copies a b es ≡ copies a b fs) → IsPermutation es fs
same_copies [] [] h = IsPermutation-refl []
same_copies [] ((a, b) ∷ fs) h =
    let i = one_self a b in
    let e = h a b in
    absurd (omega (arith, i, e))
same_copies ((a, b) ∷ es) fs h =
    let i = one_self a b in
    let e = h a b in
    let p = picked a b fs (positive a b fs (omega (arith, i, e))) in
    let rest : IsPermutation es p.0 = same_copies es p.0 (λ x y. let k = h x y in let l = copies_permuted x y fs ((a, b) ∷ p.0) p.1 in omega (arith, k, l)) in
    IsPermutation-trans ((a, b) ∷ es) ((a, b) ∷ p.0) fs (IsPermutation-cons (a, b) es p.0 rest) (IsPermutation-sym fs ((a, b) ∷ p.0) p.1)

-- ---- the edges that stand, counted
pub copies_standing : (a b : ℕ) (rows : List MemberRow) (cs : List CompositeRow) → copies a b (standing rows cs) ≡ copies a b (row_edges (map pair_of rows)) + copies a b (factor_edges cs)
unfolding standing
copies_standing a b rows cs = copies-append a b (row_edges (map pair_of rows)) (factor_edges cs)

pub row_more_standing : (a b : ℕ) (rows : List MemberRow) (r : MemberRow) → copies a b (row_edges (map pair_of (rows ++ r ∷ []))) ≡ copies a b (edge_of r.group r.member []) + copies a b (row_edges (map pair_of rows))
row_more_standing a b [] r = edge_more a b r.group r.member []
row_more_standing a b (q ∷ qs) r =
    let e = row_more_standing a b qs r in
    let f = edge_more a b q.group q.member (row_edges (map pair_of (qs ++ r ∷ []))) in
    let k = edge_more a b q.group q.member (row_edges (map pair_of qs)) in
    omega (arith, e, f, k)

pub factor_more_standing : (a b : ℕ) (cs : List CompositeRow) (c : CompositeRow) → copies a b (factor_edges (cs ++ c ∷ [])) ≡ two a b c + copies a b (factor_edges cs)
factor_more_standing a b [] c = omega arith
factor_more_standing a b (d ∷ ds) c = let e = factor_more_standing a b ds c in omega (arith, e)

pub none_left_out : (g : ℕ) (m : Member) (rows : List MemberRow) → terms.has_row g m rows ≡ false → filter (λ (row : MemberRow). not (terms.is_row g m row)) rows ≡ rows
none_left_out g m [] h = refl
none_left_out g m (r ∷ rs) h = elim (cases_Bool (terms.is_row g m r)) [
  | inl t ↦ let w : true ≡ false = rw t at h in cc
  | inr f ↦ rw f (ap (λ xs. r ∷ xs) (none_left_out g m rs (rw f at h)))
]

pub row_less_standing : (a b g : ℕ) (m : Member) (rows : List MemberRow) → RowsOnce rows → terms.has_row g m rows ≡ true → copies a b (row_edges (map pair_of rows)) ≡ copies a b (edge_of g m []) + copies a b (row_edges (map pair_of (filter (λ (row : MemberRow). not (terms.is_row g m row)) rows)))
row_less_standing a b g m [] o h = cc
row_less_standing a b g m (r ∷ rs) o h = elim (cases_Bool (terms.is_row g m r)) [
  | inl t ↦
      let w = row_is g m r.group r.member t in
      let alone : terms.has_row g m rs ≡ false = rw (w.0, w.1) at o.0 in
      rw (t, none_left_out g m rs alone, w.0, w.1) (edge_more a b g m (row_edges (map pair_of rs)))
  | inr f ↦
      let e = row_less_standing a b g m rs o.1 (rw f at h) in
      let k = edge_more a b r.group r.member (row_edges (map pair_of rs)) in
      let l = edge_more a b r.group r.member (row_edges (map pair_of (filter (λ (row : MemberRow). not (terms.is_row g m row)) rs))) in
      rw f (omega (arith, e, k, l))
]

pub none_of_group : (g : ℕ) (cs : List CompositeRow) → is_composite g cs ≡ false → filter (λ (c : CompositeRow). not (c.group == g)) cs ≡ cs
none_of_group g [] h = refl
none_of_group g (c ∷ cs) h = elim (cases_Bool (c.group == g)) [
  | inl t ↦ let w : true ≡ false = rw t at h in cc
  | inr f ↦ rw f (ap (λ xs. c ∷ xs) (none_of_group g cs (rw f at h)))
]

pub factor_less_standing : (a b g : ℕ) (c : CompositeRow) (cs : List CompositeRow) → Once cs → find (λ (d : CompositeRow). d.group == g) cs ≡ Some c → copies a b (factor_edges cs) ≡ two a b c + copies a b (factor_edges (filter (λ (d : CompositeRow). not (d.group == g)) cs))
factor_less_standing a b g c [] o h = cc
factor_less_standing a b g c (d ∷ ds) o h = elim (cases_Bool (d.group == g)) [
  | inl t ↦
      let e : d ≡ c = some d c (rw t at h) in
      let alone : is_composite g ds ≡ false = rw (eqb-true d.group g t) at o.0 in
      rw (t, none_of_group g ds alone, ← e) (omega arith)
  | inr f ↦ let r = factor_less_standing a b g c ds o.1 (rw f at h) in rw f (omega (arith, r))
]
  where
    some : (x y : CompositeRow) → Some x ≡ Some y → x ≡ y
    some x y e = cc

-- ---- a graph that has the edges that stand, after a row more or less
module _ (rows : List MemberRow) (cs : List CompositeRow) where
  pub person_more : (r : MemberRow) (p : ℕ) (graph : List (ℕ × ℕ)) → r.member ≡ Person p → IsPermutation graph (standing rows cs) → IsPermutation graph (standing (rows ++ r ∷ []) cs)
  person_more r p graph e h = same_copies graph (standing (rows ++ r ∷ []) cs) (λ a b.
      let k = copies_permuted a b graph (standing rows cs) h in
      let s = copies_standing a b rows cs in
      let t = copies_standing a b (rows ++ r ∷ []) cs in
      let u : copies a b (row_edges (map pair_of (rows ++ r ∷ []))) ≡ copies a b (edge_of r.group (Person p) []) + copies a b (row_edges (map pair_of rows)) = row_more_standing a b rows r ∙ ap (λ m. copies a b (edge_of r.group m []) + copies a b (row_edges (map pair_of rows))) e in
      omega (arith, k, s, t, u))

  pub nested_more : (r : MemberRow) (x : ℕ) (old new : List (ℕ × ℕ)) → r.member ≡ Group x → IsPermutation old (standing rows cs) → IsPermutation ((r.group, x) ∷ old) new → IsPermutation new (standing (rows ++ r ∷ []) cs)
  nested_more r x old new e h p = same_copies new (standing (rows ++ r ∷ []) cs) (λ a b.
      let k = copies_permuted a b old (standing rows cs) h in
      let s = copies_standing a b rows cs in
      let t = copies_standing a b (rows ++ r ∷ []) cs in
      let u : copies a b (row_edges (map pair_of (rows ++ r ∷ []))) ≡ copies a b (edge_of r.group (Group x) []) + copies a b (row_edges (map pair_of rows)) = row_more_standing a b rows r ∙ ap (λ m. copies a b (edge_of r.group m []) + copies a b (row_edges (map pair_of rows))) e in
      let v = copies_pushed a b (r.group, x) old new p in
      omega (arith, k, s, t, u, v))

  pub nested_added : (r : MemberRow) (x : ℕ) (graph : List (ℕ × ℕ)) → r.member ≡ Group x → IsPermutation graph (standing rows cs) → IsPermutation ((r.group, x) ∷ graph) (standing (rows ++ r ∷ []) cs)
  nested_added r x graph e h = nested_more r x graph ((r.group, x) ∷ graph) e h (IsPermutation-refl ((r.group, x) ∷ graph))

  -- the edge of a row that stands is in the graph
  pub nested_in : (g x : ℕ) (graph : List (ℕ × ℕ)) → RowsOnce rows → terms.has_row g (Group x) rows ≡ true → IsPermutation graph (standing rows cs) → has_edge graph g x ≡ true
  nested_in g x graph o h p =
      let k = copies_permuted g x graph (standing rows cs) p in
      let s = copies_standing g x rows cs in
      let u = row_less_standing g x g (Group x) rows o h in
      let i = one_self g x in
      positive g x graph (omega (arith, k, s, u, i))

  -- after a composite more or less
  pub factors_more : (c : CompositeRow) (old mid new : List (ℕ × ℕ)) → IsPermutation old (standing rows cs) → IsPermutation ((c.group, c.left) ∷ old) mid → IsPermutation ((c.group, c.right) ∷ mid) new → IsPermutation new (standing rows (cs ++ c ∷ []))
  factors_more c old mid new h p q = same_copies new (standing rows (cs ++ c ∷ [])) (λ a b.
      let k = copies_permuted a b old (standing rows cs) h in
      let s = copies_standing a b rows cs in
      let t = copies_standing a b rows (cs ++ c ∷ []) in
      let u = factor_more_standing a b cs c in
      let v = copies_pushed a b (c.group, c.left) old mid p in
      let w = copies_pushed a b (c.group, c.right) mid new q in
      omega (arith, k, s, t, u, v, w))

  pub left_in : (g : ℕ) (c : CompositeRow) (graph : List (ℕ × ℕ)) → Once cs → find (λ (d : CompositeRow). d.group == g) cs ≡ Some c → IsPermutation graph (standing rows cs) → has_edge graph c.group c.left ≡ true
  left_in g c graph o f h =
      let k = copies_permuted c.group c.left graph (standing rows cs) h in
      let s = copies_standing c.group c.left rows cs in
      let u = factor_less_standing c.group c.left g c cs o f in
      let i = one_self c.group c.left in
      positive c.group c.left graph (omega (arith, k, s, u, i))

  pub right_in : (g : ℕ) (c : CompositeRow) (graph mid : List (ℕ × ℕ)) → Once cs → find (λ (d : CompositeRow). d.group == g) cs ≡ Some c → IsPermutation graph (standing rows cs) → IsPermutation graph ((c.group, c.left) ∷ mid) → has_edge mid c.group c.right ≡ true
  right_in g c graph mid o f h p =
      let k = copies_permuted c.group c.right graph (standing rows cs) h in
      let s = copies_standing c.group c.right rows cs in
      let u = factor_less_standing c.group c.right g c cs o f in
      let i = one_self c.group c.right in
      let v = copies_taken c.group c.right (c.group, c.left) graph mid p in
      positive c.group c.right mid (omega (arith, k, s, u, i, v))

  pub factors_less : (g : ℕ) (c : CompositeRow) (old mid new : List (ℕ × ℕ)) → Once cs → find (λ (d : CompositeRow). d.group == g) cs ≡ Some c → IsPermutation old (standing rows cs) → IsPermutation old ((c.group, c.left) ∷ mid) → IsPermutation mid ((c.group, c.right) ∷ new) → IsPermutation new (standing rows (filter (λ (d : CompositeRow). not (d.group == g)) cs))
  factors_less g c old mid new o f h p q =
      let less = filter (λ (d : CompositeRow). not (d.group == g)) cs in
      same_copies new (standing rows less) (λ a b.
      let k = copies_permuted a b old (standing rows cs) h in
      let s = copies_standing a b rows cs in
      let t = copies_standing a b rows less in
      let u = factor_less_standing a b g c cs o f in
      let v = copies_taken a b (c.group, c.left) old mid p in
      let w = copies_taken a b (c.group, c.right) mid new q in
      omega (arith, k, s, t, u, v, w))

-- ---- rows and composites stand once after one more or less
