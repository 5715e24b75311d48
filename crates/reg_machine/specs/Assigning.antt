-- What stands in the way of an assignment or of a value.
use Rattle.std.specs.Prelude.{ℕ, List, [], ◌∷◌, Bool, true, false, not, ◌&&◌, Option, Some, None}
use Rattle.std.specs.Prelude.{if◌then◌else◌}
use Rattle.reg_base.specs.Entities.{entity_of}
use Rattle.reg_base.specs.declared.entity.Entity.{Entity}
use Rattle.reg_base.specs.declared.entity.Entity.TheVariants as entity
use Rattle.reg_terms.specs.Values.{has_value}
use Rattle.reg_terms.specs.declared.kinds.AttrValue.{AttrValue}
use Rattle.reg_terms.specs.declared.kinds.Object.{Object}
use Rattle.reg_terms.specs.declared.kinds.Object.TheVariants as object
use Rattle.reg_terms.specs.declared.rows.AssignRow.{AssignRow}
use Rattle.reg_terms.specs.declared.rows.DefinitionRow.{DefinitionRow}
use Rattle.reg_terms.specs.declared.refusal.Refusal.{Refusal}
use Rattle.reg_terms.specs.declared.refusal.Refusal.TheVariants.{WrongOwner, WrongValue, Single}
use Rattle.reg_attr.specs.Checks.{suits_owner}
use Rattle.reg_attr.specs.declared.checks.AttrFault.{AttrFault}
use Rattle.reg_attr.specs.declared.checks.AttrFault.TheVariants as fault
use Rattle.reg_facts.specs.Attributes.{assign_row, definition_of, has_assign, is_assigned_to}
use Rattle.reg_facts.specs.Grants.{object_of}
use Rattle.reg_facts.specs.Lists.{Lists}

-- a group is named as an entity
abbrev pub names_group : Option Entity → Bool
names_group None = false
names_group (Some (entity.Person text)) = false
names_group (Some (entity.Group name)) = true
names_group (Some entity.System) = false
names_group (Some entity.Everyone) = false

-- whether attributes can be assigned to an object that a text names: a folder, a group that isn't
-- named as an entity, or a subject
abbrev pub may_own : Bool → Object → Bool
may_own as_entity (object.Folder d) = true
may_own as_entity (object.Group g) = not as_entity
may_own as_entity (object.Def a) = false
may_own as_entity (object.Attr a) = false
may_own as_entity (object.Subject s) = true

-- the object that a text names, if attributes can be assigned to it
abbrev pub owner_of : Option Entity → Option Object → Option Object
owner_of e None = None
owner_of e (Some o) = if may_own (names_group e) o then Some o else None

abbrev pub owner_named : List ℕ → Lists → Option Object
owner_named text f = owner_of (entity_of text) (object_of text f)

-- whether an attribute may be assigned several times to one owner, and whether an assignment of it
-- may have many values
abbrev pub is_several : Option DefinitionRow → Bool
is_several None = false
is_several (Some d) = d.several

abbrev pub is_many : Option DefinitionRow → Bool
is_many None = false
is_many (Some d) = d.many

-- an owner has an attribute that it may have once
abbrev pub is_held_once : ℕ → Option Object → Lists → Bool
is_held_once a None f = false
is_held_once a (Some o) f = not (is_several (definition_of a f)) && is_assigned_to o a f.assigns

-- the refusal for what a definition finds at fault
abbrev pub fault_refusal : AttrFault → Refusal
fault_refusal fault.WrongOwner = WrongOwner
fault_refusal fault.WrongValue = WrongValue
fault_refusal fault.Single = Single

-- the definition of an attribute doesn't suit an owner
abbrev pub is_unsuited : ℕ → Option Object → Lists → Bool
is_unsuited a None f = false
is_unsuited a (Some o) f = not (suits_owner (definition_of a f) o)

-- an assignment has a value
abbrev pub is_any : List AttrValue → Bool
is_any [] = false
is_any (v ∷ vs) = true

abbrev pub has_values : Option AssignRow → Bool
has_values None = false
has_values (Some row) = is_any row.values

-- the assignment of an id has a value, and may have one
abbrev pub has_the_one : ℕ → ℕ → Lists → Bool
has_the_one a id f = has_values (assign_row id f.assigns) && not (is_many (definition_of a f))

-- whether the assignment of an id is of this attribute to this owner
abbrev pub assign_stands : ℕ → Option Object → ℕ → Lists → Bool
assign_stands id None a f = false
assign_stands id (Some o) a f = has_assign id o a f.assigns

-- whether an assignment has a value that is this one
abbrev pub value_stands : Option AssignRow → Option AttrValue → Bool
value_stands None v = false
value_stands (Some row) None = false
value_stands (Some row) (Some v) = has_value v row.values
