-- What stands in the facts' lists of rows and composites, whether a row is on yet or not.
use Rattle.std.specs.Prelude.{◌≡◌, ⊤, ℕ, List, [], ◌∷◌, ◌++◌, false, map}
use Rattle.reg_terms.specs.declared.kinds.Member.{Member}
use Rattle.reg_terms.specs.declared.rows.MemberRow.{MemberRow}
use Rattle.reg_terms.specs.declared.rows.CompositeRow.{CompositeRow}
use Rattle.reg_terms.specs.Rows as terms
use Rattle.reg_effect.specs.Edges.{row_edges, factor_edges}

-- a row's group and member
abbrev pub pair_of : MemberRow → ℕ × Member
pair_of row = (row.group, row.member)

-- all edges that stand: one of each row of a nested group, on yet or not, and two of each composite
unfoldable pub standing : List MemberRow → List CompositeRow → List (ℕ × ℕ)
standing rows composites = row_edges (map pair_of rows) ++ factor_edges composites

-- no member stands twice in one group
abbrev pub RowsOnce : List MemberRow → Type 0
RowsOnce [] = ⊤
RowsOnce (row ∷ rows) = (terms.has_row row.group row.member rows ≡ false) × RowsOnce rows
