-- Definitions, attributes and assignments: which are found by what, and what the texts of a command
-- name.
use Rattle.std.specs.Prelude.{ℕ, ◌+◌, ◌==◌, ◌&&◌, List, [], ◌∷◌, Bool, Option, None, Some, filter}
use Rattle.std.specs.Prelude.{length, option_and_then}
use Rattle.std.specs.List.{find, list_any}
use Rattle.reg_terms.specs.Kinds.{same_object}
use Rattle.reg_terms.specs.Values.{taken}
use Rattle.reg_terms.specs.declared.kinds.AttrValue.{AttrValue}
use Rattle.reg_terms.specs.declared.kinds.Object.{Object}
use Rattle.reg_terms.specs.declared.kinds.Value.{Value}
use Rattle.reg_terms.specs.declared.rows.AssignRow.{AssignRow}
use Rattle.reg_terms.specs.declared.rows.AttributeRow.{AttributeRow}
use Rattle.reg_terms.specs.declared.rows.DefinitionRow.{DefinitionRow}
pub use Rattle.reg_terms.specs.Kinds.{as_definition, as_attribute}
use Rattle.reg_facts.specs.Edits.{the_id}
use Rattle.reg_facts.specs.Lists.{Lists}
use Rattle.reg_facts.specs.Naming.{resolve}
pub use Rattle.reg_facts.specs.Rows.{definition_row, attribute_row}

-- ---- rows

-- the definition of an attribute
abbrev pub definition_of : ℕ → Lists → Option DefinitionRow
definition_of a f =
    option_and_then (λ (row : AttributeRow). definition_row row.definition f.definitions)
    (attribute_row a f.attributes)

-- whether an attribute is of a definition
abbrev pub has_attributes : ℕ → List AttributeRow → Bool
has_attributes d rows = list_any (λ (row : AttributeRow). row.definition == d) rows

-- the assignment of an id
abbrev pub assign_row : ℕ → List AssignRow → Option AssignRow
assign_row id rows = find (λ (row : AssignRow). row.id == id) rows

-- the assignments to an owner, by id
abbrev pub assigns_on : Object → List AssignRow → List AssignRow
assigns_on o rows = filter (λ (row : AssignRow). same_object row.owner o) rows

-- whether an attribute is assigned to something
abbrev pub is_assigned : ℕ → List AssignRow → Bool
is_assigned a rows = list_any (λ (row : AssignRow). row.attribute == a) rows

-- whether an attribute is assigned to an owner
abbrev pub is_assigned_to : Object → ℕ → List AssignRow → Bool
is_assigned_to o a rows =
    list_any (λ (row : AssignRow). same_object row.owner o && (row.attribute == a)) rows

-- whether the assignment of an id is of this attribute to this owner
abbrev pub has_assign : ℕ → Object → ℕ → List AssignRow → Bool
has_assign id o a rows =
    list_any (λ (row : AssignRow). (row.id == id)
    && (same_object row.owner o && (row.attribute == a))) rows

-- how many values stand in some assignments
abbrev pub value_count : List AssignRow → ℕ
value_count [] = 0
value_count (row ∷ rows) = length row.values + value_count rows

-- ---- what texts name

-- the definition of this name
abbrev pub definition_id : List ℕ → Lists → Option ℕ
definition_id text f = as_definition (resolve text f)

-- the attribute of this name
abbrev pub attribute_id : List ℕ → Lists → Option ℕ
attribute_id text f = as_attribute (resolve text f)

-- a value as a definition takes it, if it does
abbrev pub value_for : Option DefinitionRow → Value → Option AttrValue
value_for None v = None
value_for (Some row) v = taken row.kind v

-- a value as the definition of an attribute takes it, if it does
abbrev pub value_of : ℕ → Value → Lists → Option AttrValue
value_of a v f = value_for (definition_of a f) v
