-- Whether a set of rows has one.
use Rattle.std.specs.Prelude.{ℕ, ◌==◌, ◌&&◌, Bool, List}
use Rattle.std.specs.List.{list_any}
use Rattle.reg_terms.specs.declared.rows.PersonRow.{PersonRow}
use Rattle.reg_load.specs.declared.row_set.RowSet.{RowSet}

-- whether a group and a person are one of some pairs
abbrev pub in_pairs : ℕ → ℕ → List (ℕ × ℕ) → Bool
in_pairs g s pairs = list_any (λ (p : ℕ × ℕ). (g == p.0) && (s == p.1)) pairs

-- whether a set has a row
abbrev pub holds : RowSet → PersonRow → Bool
holds set row = in_pairs row.group row.person set.pairs.keys
