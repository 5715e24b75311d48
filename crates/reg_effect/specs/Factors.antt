-- Composites as a map keeps them: by group, with their factors.
use Rattle.std.specs.Prelude.{ℕ}
use Rattle.reg_terms.specs.declared.rows.CompositeRow.{CompositeRow}
use Rattle.reg_effect.specs.declared.composites.Factors.{Factors}

-- the composite of a group and its factors
abbrev pub composite_at : ℕ × Factors → CompositeRow
composite_at e = record { group = e.0; op = e.1.op; left = e.1.left; right = e.1.right }
