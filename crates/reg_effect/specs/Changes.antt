-- What a change does to live data, and what it asks of them.
use Rattle.std.specs.Prelude.{◌≡◌, ⊤, ℕ, ◌==◌, List, [], ◌∷◌, Bool, true, false, map, if◌then◌else◌}
use Rattle.std.specs.Prelude.{nat_le}
use Rattle.std.specs.BTreeSet.{insert_key}
use Rattle.std.specs.Set.{remove_key}
use Rattle.reg_terms.specs.declared.kinds.Member.{Member}
use Rattle.reg_terms.specs.declared.rows.CompositeRow.{CompositeRow}
use Rattle.reg_terms.specs.declared.rows.MemberRow.{MemberRow}
use Rattle.reg_graph.specs.Edges.{IsAcyclic}
use Rattle.reg_effect.specs.declared.live.Live.{Live}
use Rattle.reg_effect.specs.declared.live.Change.{Change}
use Rattle.reg_effect.specs.declared.live.Change.TheVariants.{RowOn, RowOff, FactorsOn, FactorsOff}
use Rattle.reg_terms.specs.Rows.{is_composite}
use Rattle.reg_effect.specs.Order.{row_cmp, composite_cmp, is_live_row, has_live_row, has_live_rows}
use Rattle.reg_effect.specs.Edges.{edges}

-- no rows and no composites
abbrev pub nothing : Live
nothing = record { rows = []; composites = [] }

-- live data after a change: what comes takes its place in the order, what goes is taken out
abbrev pub changed : Change → Live → Live
changed (RowOn g m) L = record L { rows = insert_key row_cmp L.rows (g, m) }
changed (RowOff g m) L = record L { rows = remove_key (is_live_row g m) L.rows }
changed (FactorsOn g op left right) L =
    record L {
      composites = insert_key composite_cmp L.composites (record {
        group = g;
        op = op;
        left = left;
        right = right;
      });
    }
changed (FactorsOff g) L =
    record L { composites = remove_key (λ (c : CompositeRow). c.group == g) L.composites }

-- whether a change fits live data: what comes isn't there, what goes is, and a composite has no
-- rows
abbrev pub Fits : Change → Live → Type 0
Fits (RowOn g m) L = (has_live_row g m L.rows ≡ false) × (is_composite g L.composites ≡ false)
Fits (RowOff g m) L = has_live_row g m L.rows ≡ true
Fits (FactorsOn g op left right) L =
    (is_composite g L.composites ≡ false) × (has_live_rows g L.rows ≡ false)
Fits (FactorsOff g) L = is_composite g L.composites ≡ true

-- the group that a change is of
abbrev pub group_of : Change → ℕ
group_of (RowOn g m) = g
group_of (RowOff g m) = g
group_of (FactorsOn g op left right) = g
group_of (FactorsOff g) = g

-- what a change asks: it fits, and closes no circle
pub record Suits (c : Change) (L : Live) : Type 0 where
  pub fits : Fits c L
  pub no_circle : IsAcyclic (edges (changed c L))

-- each change suits the live data that those before it leave
abbrev pub SuitAll : List Change → Live → Type 0
SuitAll [] L = ⊤
SuitAll (c ∷ cs) L = Suits c L × SuitAll cs (changed c L)

-- live data after the changes of a list, one after the other
abbrev pub changed_by : List Change → Live → Live
changed_by [] L = L
changed_by (c ∷ cs) L = changed_by cs (changed c L)

-- rows that go, one after another
abbrev pub all_off : List (ℕ × Member) → List Change
all_off rows = map (λ (row : ℕ × Member). RowOff row.0 row.1) rows

-- rows that come, one after another
abbrev pub all_on : List (ℕ × Member) → List Change
all_on rows = map (λ (row : ℕ × Member). RowOn row.0 row.1) rows

-- the rows that pass a test, in order, beside others
abbrev pub rows_where : (MemberRow → Bool) → List MemberRow → List (ℕ × Member) → List (ℕ × Member)
rows_where test [] rows = rows
rows_where test (row ∷ rest) rows =
    rows_where test rest (if test row then insert_key row_cmp rows (row.group, row.member)
    else rows)

-- the rows that are on at a moment, in order, beside others
abbrev pub rows_on : ℕ → List MemberRow → List (ℕ × Member) → List (ℕ × Member)
rows_on at rest rows = rows_where (λ (row : MemberRow). nat_le row.from at) rest rows

-- composites in order, beside others
abbrev pub composites_in : List CompositeRow → List CompositeRow → List CompositeRow
composites_in [] composites = composites
composites_in (c ∷ rest) composites = composites_in rest (insert_key composite_cmp composites c)

-- the live data at a moment: the rows that are on, those with from <= at, and the composites
abbrev pub live_of : ℕ → List MemberRow → List CompositeRow → Live
live_of at rows composites = record {
  rows = rows_on at rows [];
  composites = composites_in composites [];
}
