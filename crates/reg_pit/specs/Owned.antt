-- What was ever assigned to one owner: a life for each assignment, with those of its values.
use Rattle.std.specs.Prelude.{◌==◌, ℕ, List, map, filter}
use Rattle.reg_terms.specs.declared.kinds.AttrValue.{AttrValue}
use Rattle.reg_terms.specs.declared.rows.AssignRow.{AssignRow}
use Rattle.reg_pit.specs.Lives.{had, stood, row_of}
use Rattle.reg_pit.specs.declared.assign_lives.AssignLife.{AssignLife}
use Rattle.reg_pit.specs.declared.value_lives.ValueLife.{ValueLife}

-- of some lives the values that stood at a moment
abbrev pub values_stood : ℕ → List ValueLife → List AttrValue
values_stood t lives = map (λ (life : ValueLife). life.value) (filter (stood t) lives)

-- the life of an assignment, with those of its values among some
abbrev pub with_values : List ValueLife → AssignLife → AssignLife × List ValueLife
with_values values life = (life, filter (λ (value : ValueLife). value.assign == life.id) values)

-- an assignment as it was at a moment
abbrev pub row_at : ℕ → AssignLife × List ValueLife → AssignRow
row_at t assign = row_of (λ id. values_stood t assign.1) assign.0

-- the assignments that stood at a moment, with the values that stood then
abbrev pub rows_at : List (AssignLife × List ValueLife) → ℕ → List AssignRow
rows_at assigns t =
    map (row_at t) (filter (λ (assign : AssignLife × List ValueLife). had t assign.0) assigns)
