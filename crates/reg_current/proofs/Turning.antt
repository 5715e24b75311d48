-- A row turns on or off, and a row of the facts has other dates.
use Rattle.std.proofs.Common.{◌≡◌, ◌&&◌, ◌||◌, ℕ, List, [], ◌∷◌, ◌++◌, Bool, true, false, not, cond, map, Option, refl, sym, ◌∙◌, ap, inl, inr, nat_le}
use Rattle.std.proofs.lemmas.Bool.{cases_Bool}
use Rattle.std.specs.List.{list_any}
use Rattle.std.specs.List.Sorted.{IsStrictlySortedBy, IsPermutation}
use Rattle.reg_terms.specs.declared.kinds.Member.{Member}
use Rattle.reg_terms.specs.declared.rows.MemberRow.{MemberRow}
use Rattle.reg_terms.specs.declared.rows.CompositeRow.{CompositeRow}
use Rattle.reg_terms.specs.Rows as terms
use Rattle.reg_facts.specs.Edits.{windowed}
use Rattle.reg_terms.specs.Rows.{is_composite}
use Rattle.reg_graph.specs.Edges.{IsAcyclic}
use Rattle.reg_effect.specs.declared.live.Live.{Live}
use Rattle.reg_effect.specs.Order.{row_cmp, is_live_row, has_live_row}
use Rattle.reg_effect.specs.Edges.{edges, row_edges, factor_edges}
use Rattle.reg_effect.specs.Changes.{rows_on, live_of, changed_by, SuitAll}
use Rattle.reg_effect.specs.Standing.{pair_of, standing}
use Rattle.reg_effect.proofs.Edits.{any_put, row_same, row_is}
use Rattle.reg_effect.proofs.LiveOf.{row_cmp_total, put_sorted, empty_sorted, rows_on_sorted, rows_on_has, one_rows, taken_sorted, row_taken, row_turned}
use Rattle.reg_effect.proofs.LiveLaws.{live_rows, composites_same}
use Rattle.reg_effect.proofs.Standing.{live_acyclic}
use Rattle.reg_current.specs.Steps.{turning}

-- ---- a row that turns
module _ (g : ℕ) (m : Member) (L : Live) where
  turned_rows : (before after : Bool) → changed_by (turning before after g m) L ≡ record L { rows = (changed_by (turning before after g m) L).rows }
  turned_rows true true = refl
  turned_rows true false = refl
  turned_rows false true = refl
  turned_rows false false = refl

  turned_sorted : (before after : Bool) → IsStrictlySortedBy row_cmp L.rows → IsStrictlySortedBy row_cmp (changed_by (turning before after g m) L).rows
  turned_sorted true true s = s
  turned_sorted true false s = taken_sorted row_cmp (is_live_row g m) L.rows s
  turned_sorted false true s = put_sorted row_cmp row_cmp_total (g, m) L.rows s
  turned_sorted false false s = s

  -- the row is on or not as it is to be, and the others are as before
  turned_has : (before after : Bool) (x : ℕ) (n : Member) → IsStrictlySortedBy row_cmp L.rows → has_live_row g m L.rows ≡ before → has_live_row x n (changed_by (turning before after g m) L).rows ≡ cond (is_live_row g m (x, n)) after (has_live_row x n L.rows)
  turned_has true true x n s h = elim (cases_Bool (is_live_row g m (x, n))) [
    | inl same ↦ let w = row_is g m x n same in rw (same, w.0, w.1) h
    | inr other ↦ rw other refl
  ]
  turned_has true false x n s h = row_taken g x m n L.rows s ∙ out (is_live_row g m (x, n)) (has_live_row x n L.rows)
    where
      out : (a b : Bool) → (not a && b) ≡ cond a false b
      out true b = refl
      out false b = refl
  turned_has false true x n s h = any_put row_cmp (is_live_row x n) (g, m) (row_same g m (is_live_row x n)) L.rows ∙ (ap (λ b. b || has_live_row x n L.rows) (row_turned x g n m) ∙ in_also (is_live_row g m (x, n)) (has_live_row x n L.rows))
    where
      in_also : (a b : Bool) → (a || b) ≡ cond a true b
      in_also true b = refl
      in_also false b = refl
  turned_has false false x n s h = elim (cases_Bool (is_live_row g m (x, n))) [
    | inl same ↦ let w = row_is g m x n same in rw (same, w.0, w.1) h
    | inr other ↦ rw other refl
  ]

  -- it suits where it closes no circle, and the group is no composite
  pub turning_suits : (before after : Bool) → has_live_row g m L.rows ≡ before → is_composite g L.composites ≡ false → IsAcyclic (edges (changed_by (turning before after g m) L)) → SuitAll (turning before after g m) L
  turning_suits true true h plain clear = tt
  turning_suits true false h plain clear = (record { fits = h; no_circle = clear }, tt)
  turning_suits false true h plain clear = (record { fits = (h, plain); no_circle = clear }, tt)
  turning_suits false false h plain clear = tt

-- ---- a row of the facts that has other dates
module _ (from : ℕ) (until : Option ℕ) (g : ℕ) (m : Member) where
  windowed_pairs : (rows : List MemberRow) → map pair_of (map (windowed from until g m) rows) ≡ map pair_of rows
  windowed_pairs [] = refl
  windowed_pairs (r ∷ rs) =
      let rest = windowed_pairs rs in
      elim (cases_Bool (terms.is_row g m r)) [
        | inl t ↦ rw t (ap (λ ps. pair_of r ∷ ps) rest)
        | inr f ↦ rw f (ap (λ ps. pair_of r ∷ ps) rest)
      ]

  -- the same edges stand
  pub windowed_standing : (rows : List MemberRow) (cs : List CompositeRow) → standing (map (windowed from until g m) rows) cs ≡ standing rows cs
  unfolding standing
  windowed_standing rows cs = ap (λ ps. row_edges ps ++ factor_edges cs) (windowed_pairs rows)

  module _ (at : ℕ) where
    abbrev is_on : ℕ → Member → MemberRow → Bool
    is_on x n row = nat_le row.from at && is_live_row x n (row.group, row.member)

    -- the row itself is on where it has begun
    own_on : (rows : List MemberRow) → list_any (is_on g m) (map (windowed from until g m) rows) ≡ (nat_le from at && terms.has_row g m rows)
    own_on [] = none (nat_le from at)
      where
        none : (b : Bool) → false ≡ (b && false)
        none true = refl
        none false = refl
    own_on (r ∷ rs) =
        let rest = own_on rs in
        elim (cases_Bool (terms.is_row g m r)) [
          | inl t ↦ rw (t, t, rest) (found (nat_le from at) (terms.has_row g m rs))
          | inr f ↦ rw (f, f, rest) (past (nat_le r.from at) (nat_le from at && terms.has_row g m rs))
        ]
      where
        found : (a b : Bool) → ((a && true) || (a && b)) ≡ (a && true)
        found true b = refl
        found false b = refl

        past : (a b : Bool) → ((a && false) || b) ≡ b
        past true b = refl
        past false b = refl

    -- and others as before
    other_on : (x : ℕ) (n : Member) → is_live_row g m (x, n) ≡ false → (rows : List MemberRow) → list_any (is_on x n) (map (windowed from until g m) rows) ≡ list_any (is_on x n) rows
    other_on x n other [] = refl
    other_on x n other (r ∷ rs) =
        let rest = other_on x n other rs in
        elim (cases_Bool (terms.is_row g m r)) [
          | inl t ↦
              let w = row_is g m r.group r.member t in
              let past : is_live_row x n (r.group, r.member) ≡ false = rw (w.0, w.1) (row_turned x g n m ∙ other) in
              rw (t, past, rest) (neither (nat_le from at) (nat_le r.from at) (list_any (is_on x n) rs))
          | inr f ↦ rw (f, rest) refl
        ]
      where
        neither : (a b c : Bool) → ((a && false) || c) ≡ ((b && false) || c)
        neither true true c = refl
        neither true false c = refl
        neither false true c = refl
        neither false false c = refl

    windowed_has : (x : ℕ) (n : Member) (rows : List MemberRow) → terms.has_row g m rows ≡ true → has_live_row x n (rows_on at (map (windowed from until g m) rows) []) ≡ cond (is_live_row g m (x, n)) (nat_le from at) (has_live_row x n (rows_on at rows []))
    windowed_has x n rows stands = rows_on_has at x n (map (windowed from until g m) rows) [] ∙ elim (cases_Bool (is_live_row g m (x, n))) [
      | inl same ↦ let w = row_is g m x n same in rw (same, w.0, w.1, own_on rows, stands) (alone (nat_le from at))
      | inr other ↦ rw (other, other_on x n other rows) (sym (rows_on_has at x n rows []))
    ]
      where
        alone : (b : Bool) → ((b && true) || false) ≡ b
        alone true = refl
        alone false = refl

    -- the live data with its other dates: it turns on or off, or stays
    pub windowed_live : (rows : List MemberRow) (cs : List CompositeRow) → terms.has_row g m rows ≡ true → live_of at (map (windowed from until g m) rows) cs ≡ changed_by (turning (has_live_row g m (rows_on at rows [])) (nat_le from at) g m) (live_of at rows cs)
    windowed_live rows cs stands =
        let L : Live = live_of at rows cs in
        let sorted : IsStrictlySortedBy row_cmp L.rows = rows_on_sorted at rows [] (empty_sorted row_cmp) in
        let before = has_live_row g m L.rows in
        let after = nat_le from at in
        live_rows L (rows_on at (map (windowed from until g m) rows) []) (changed_by (turning before after g m) L).rows
        (one_rows (rows_on at (map (windowed from until g m) rows) []) (changed_by (turning before after g m) L).rows (rows_on_sorted at (map (windowed from until g m) rows) [] (empty_sorted row_cmp)) (turned_sorted g m L before after sorted)
        (λ x n. windowed_has x n rows stands ∙ sym (turned_has g m L before after x n sorted refl)))
        ∙ sym (turned_rows g m L before after)

    -- and that suits, where what stands closes no circle
    pub windowed_suits : (rows : List MemberRow) (cs : List CompositeRow) (graph : List (ℕ × ℕ)) → terms.has_row g m rows ≡ true → is_composite g cs ≡ false → IsPermutation graph (standing rows cs) → IsAcyclic graph → SuitAll (turning (has_live_row g m (rows_on at rows [])) (nat_le from at) g m) (live_of at rows cs)
    windowed_suits rows cs graph stands plain same clear =
        let L : Live = live_of at rows cs in
        turning_suits g m L (has_live_row g m L.rows) (nat_le from at) refl (composites_same g cs ∙ plain)
        (rw (← windowed_live rows cs stands) (live_acyclic at (map (windowed from until g m) rows) cs graph (rw (windowed_standing rows cs) same) clear))
