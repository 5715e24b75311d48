-- Which group depends on which: an edge goes from a group to a nested group or to a factor.
use Rattle.std.specs.Prelude.{ℕ, List, [], ◌∷◌, ◌++◌}
use Rattle.reg_terms.specs.declared.kinds.Member.{Member}
use Rattle.reg_terms.specs.declared.kinds.Member.TheVariants.{Person, Group}
use Rattle.reg_terms.specs.declared.rows.CompositeRow.{CompositeRow}
use Rattle.reg_effect.specs.declared.live.Live.{Live}

-- the edge of a row of a group, before other edges
abbrev pub edge_of : ℕ → Member → List (ℕ × ℕ) → List (ℕ × ℕ)
edge_of g (Person p) rest = rest
edge_of g (Group h) rest = (g, h) ∷ rest

-- the edges of rows
abbrev pub row_edges : List (ℕ × Member) → List (ℕ × ℕ)
row_edges [] = []
row_edges (row ∷ rows) = edge_of row.0 row.1 (row_edges rows)

-- the edges of composites: two of each, also where its factors are one group
abbrev pub factor_edges : List CompositeRow → List (ℕ × ℕ)
factor_edges [] = []
factor_edges (c ∷ cs) = (c.group, c.left) ∷ (c.group, c.right) ∷ factor_edges cs

-- all edges of live data
unfoldable pub edges : Live → List (ℕ × ℕ)
edges L = row_edges L.rows ++ factor_edges L.composites
