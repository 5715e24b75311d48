-- What the assignments to a group say of its attestation.
use Rattle.std.specs.Prelude.{ℕ, List, [], ◌∷◌, Option, Some, None, codes, filter, filter_map}
use Rattle.std.specs.List.{flat_map}
use Rattle.std.specs.Str.{bytes_eq}
use Rattle.reg_terms.specs.declared.kinds.AttrValue.{AttrValue}
use Rattle.reg_terms.specs.declared.kinds.AttrValue.TheVariants as value
use Rattle.reg_terms.specs.declared.rows.AssignRow.{AssignRow}
use Rattle.reg_access.specs.declared.state.State.{State}
use Rattle.reg_access.specs.Attested.{days_in, state_by}

-- the name of the attribute that has the days
abbrev pub days_name : List ℕ
days_name = codes "etc:attest:days"

-- the name of the attribute that has the certified moments
abbrev pub certified_name : List ℕ
certified_name = codes "etc:attest:certified"

-- the assignments that are printed under a name: those whose attribute has it
abbrev pub printed : (ℕ → List ℕ) → List ℕ → List AssignRow → List AssignRow
printed name_of name rows =
    filter (λ (row : AssignRow). bytes_eq (name_of row.attribute) name) rows

-- the days that a value gives
abbrev pub days_given : AttrValue → Option ℕ
days_given (value.Int number) = days_in number
days_given (value.Text text) = None
days_given (value.Moment moment) = None

-- the days that the first of some values gives
abbrev pub days_among : List AttrValue → Option ℕ
days_among [] = None
days_among (v ∷ values) = days_given v

-- the days: those of the first assignment alone
abbrev pub days_of : List AssignRow → Option ℕ
days_of [] = None
days_of (row ∷ rows) = days_among row.values

-- the moment that a value is
abbrev pub moment_given : AttrValue → Option ℕ
moment_given (value.Int number) = None
moment_given (value.Text text) = None
moment_given (value.Moment moment) = Some moment

-- the moments among the values of some assignments
abbrev pub moments_in : List AssignRow → List ℕ
moments_in rows = flat_map (λ (row : AssignRow). filter_map moment_given row.values) rows

-- the days by some assignments to a group, where attributes have these names
abbrev pub days_by : (ℕ → List ℕ) → List AssignRow → Option ℕ
days_by name_of rows = days_of (printed name_of days_name rows)

-- the moments at which the group was certified by them
abbrev pub certified_by : (ℕ → List ℕ) → List AssignRow → List ℕ
certified_by name_of rows = moments_in (printed name_of certified_name rows)

-- the state at a moment by the assignments then
abbrev pub state_said : (ℕ → List ℕ) → List AssignRow → ℕ → State
state_said name_of rows t = state_by (days_by name_of rows) (certified_by name_of rows) t
