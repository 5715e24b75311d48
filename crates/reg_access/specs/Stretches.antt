-- What holds of a group in one stretch of time.
use Rattle.std.specs.Prelude.{ℕ, List, Option}
use Rattle.reg_terms.specs.declared.rows.AssignRow.{AssignRow}
use Rattle.reg_access.specs.Assigned.{certified_by, days_by}

-- the days and the certified moments of a stretch, which begins at a moment
pub record Held : Type 0 where
  pub from : ℕ
  pub days : Option ℕ
  pub certified : List ℕ

-- the stretch from a moment on with these assignments, where attributes have these names
abbrev pub held_by : ℕ → (ℕ → List ℕ) → List AssignRow → Held
held_by from name_of rows = record {
  from = from;
  days = days_by name_of rows;
  certified = certified_by name_of rows;
}
