-- What a definition of attributes refuses: an owner of a kind that it doesn't suit, and a value.
use Rattle.std.specs.Prelude.{⊤, ℕ, List, [], ◌∷◌, Bool, false, Option, Some, None, Result, Ok, Err}
use Rattle.std.specs.Prelude.{if◌then◌else◌}
use Rattle.reg_terms.specs.Values.{suits, taken}
use Rattle.reg_terms.specs.declared.kinds.AttrValue.{AttrValue}
use Rattle.reg_terms.specs.declared.kinds.Object.{Object}
use Rattle.reg_terms.specs.declared.kinds.Value.{Value}
use Rattle.reg_terms.specs.declared.rows.AssignRow.{AssignRow}
use Rattle.reg_terms.specs.declared.rows.DefinitionRow.{DefinitionRow}
use Rattle.reg_facts.specs.Attributes.{assign_row, definition_of, definition_row}
use Rattle.reg_facts.specs.Lists.{Lists}
use Rattle.reg_attr.specs.declared.checks.AttrFault.{AttrFault}
use Rattle.reg_attr.specs.declared.checks.AttrFault.TheVariants.{WrongOwner, WrongValue, Single}

-- whether a definition suits an owner's kind
abbrev pub suits_owner : Option DefinitionRow → Object → Bool
suits_owner None owner = false
suits_owner (Some definition) owner = suits definition.owners owner

-- attributes of a definition may be assigned to an owner that it suits
abbrev pub check_assign : ℕ → Object → Lists → Result ⊤ AttrFault
check_assign id owner f =
    if suits_owner (definition_row id f.definitions) owner then Ok tt else Err WrongOwner

-- a value, if a definition takes it, beside those that stand: only a definition for many values has
-- it stand beside another
abbrev pub beside : List AttrValue → Bool → Option AttrValue → Result AttrValue AttrFault
beside values many None = Err WrongValue
beside [] many (Some v) = Ok v
beside (other ∷ others) many (Some v) = if many then Ok v else Err Single

-- a value for an assignment with these values, as the definition of its attribute takes it
abbrev pub check_by : Option DefinitionRow → List AttrValue → Value → Result AttrValue AttrFault
check_by None values value = Err WrongValue
check_by (Some definition) values value =
    beside values definition.many (taken definition.kind value)

abbrev pub check_for : Option AssignRow → Value → Lists → Result AttrValue AttrFault
check_for None value f = Err WrongValue
check_for (Some row) value f = check_by (definition_of row.attribute f) row.values value

-- a value for the assignment of this id
abbrev pub check_value : ℕ → Value → Lists → Result AttrValue AttrFault
check_value id value f = check_for (assign_row id f.assigns) value f
