-- Fields one by one: their kinds, their values, and those of a list taken from the front.
use Rattle.std.specs.Prelude.{◌≡◌, ℕ, Bool, List, [], ◌∷◌, Option, Some, None, option_and_then}
use Rattle.std.specs.List.{flat_map}
use Rattle.reg_base.specs.declared.entity.Entity.{Entity}
use Rattle.reg_base.specs.declared.privilege.Privilege.{Privilege}
use Rattle.reg_terms.specs.declared.kinds.InheritKind.{InheritKind}
use Rattle.reg_terms.specs.declared.kinds.Owners.{Owners}
use Rattle.reg_terms.specs.declared.kinds.DefKind.{DefKind}
use Rattle.reg_terms.specs.declared.kinds.Value.{Value}
use Rattle.reg_terms.specs.declared.kinds.Scope.{Scope}
use Rattle.reg_terms.specs.declared.kinds.SetOp.{SetOp}
use Rattle.reg_terms.specs.declared.lists.LoadRow.{LoadRow}
use Rattle.reg_ops.specs.declared.field.FieldKind.{FieldKind}
use Rattle.reg_ops.specs.declared.field.FieldKind.TheVariants as kind
use Rattle.reg_ops.specs.declared.field.Field.{Field}
use Rattle.reg_ops.specs.declared.field.Field.TheVariants as field
use Rattle.reg_ops.specs.declared.parts.FieldRef.{FieldRef}
use Rattle.reg_ops.specs.declared.parts.FieldRef.TheVariants as reference

-- the next step, at what the step before gave
infixl 10 ◌>>=◌
abbrev pub ◌>>=◌ : {A B : Type 0} → Option A → (A → Option B) → Option B
o >>= f = option_and_then f o

-- the kind of a field
abbrev pub field_kind : Field → FieldKind
field_kind (field.Name v) = kind.Name
field_kind (field.Folder v) = kind.Folder
field_kind (field.Extension v) = kind.Extension
field_kind (field.Source v) = kind.Source
field_kind (field.Display v) = kind.Display
field_kind (field.Entity v) = kind.Entity
field_kind (field.Object v) = kind.Object
field_kind (field.OptionalMoment v) = kind.OptionalMoment
field_kind (field.SetOp v) = kind.SetOp
field_kind (field.InheritKind v) = kind.InheritKind
field_kind (field.Scope v) = kind.Scope
field_kind (field.Privilege v) = kind.Privilege
field_kind (field.Owners v) = kind.Owners
field_kind (field.Flag v) = kind.Flag
field_kind (field.DefKind v) = kind.DefKind
field_kind (field.Value v) = kind.Value
field_kind (field.Number v least most) = kind.Number least most
field_kind (field.Names v) = kind.Names
field_kind (field.LoadRows v) = kind.LoadRows
field_kind (field.Table v) = kind.Table

-- the name, if the field is one
abbrev pub as_name : Field → Option (List ℕ)
as_name (field.Name v) = Some v
as_name _ = None

-- the name of a folder, or `:`, if the field is one
abbrev pub as_folder : Field → Option (List ℕ)
as_folder (field.Folder v) = Some v
as_folder _ = None

-- the extension, if the field is one
abbrev pub as_extension : Field → Option (List ℕ)
as_extension (field.Extension v) = Some v
as_extension _ = None

-- the source of persons, if the field is one
abbrev pub as_source : Field → Option (List ℕ)
as_source (field.Source v) = Some v
as_source _ = None

-- the display text, if the field is one
abbrev pub as_display : Field → Option (List ℕ)
as_display (field.Display v) = Some v
as_display _ = None

-- the entity, if the field is one
abbrev pub as_entity : Field → Option Entity
as_entity (field.Entity v) = Some v
as_entity _ = None

-- the moment that may be left out, if the field is one
abbrev pub as_moment : Field → Option (Option ℕ)
as_moment (field.OptionalMoment v) = Some v
as_moment _ = None

-- how a composite is made, if the field is that
abbrev pub as_set_op : Field → Option SetOp
as_set_op (field.SetOp v) = Some v
as_set_op _ = None

-- the text of an object, if the field is one
abbrev pub as_object : Field → Option (List ℕ)
as_object (field.Object v) = Some v
as_object _ = None

-- the kind of objects that an inherit is for, if the field is that
abbrev pub as_inherit_kind : Field → Option InheritKind
as_inherit_kind (field.InheritKind v) = Some v
as_inherit_kind _ = None

-- how far an inherit reaches, if the field is that
abbrev pub as_scope : Field → Option Scope
as_scope (field.Scope v) = Some v
as_scope _ = None

-- the privilege, if the field is one
abbrev pub as_privilege : Field → Option Privilege
as_privilege (field.Privilege v) = Some v
as_privilege _ = None

-- the kinds of owner that a definition suits, if the field is that
abbrev pub as_owners : Field → Option Owners
as_owners (field.Owners v) = Some v
as_owners _ = None

-- whether something holds, if the field is that
abbrev pub as_flag : Field → Option Bool
as_flag (field.Flag v) = Some v
as_flag _ = None

-- the kind of a definition's values, if the field is that
abbrev pub as_def_kind : Field → Option DefKind
as_def_kind (field.DefKind v) = Some v
as_def_kind _ = None

-- the value of an assignment, if the field is one
abbrev pub as_value : Field → Option Value
as_value (field.Value v) = Some v
as_value _ = None

-- the number, if the field is one
abbrev pub as_number : Field → Option ℕ
as_number (field.Number v least most) = Some v
as_number _ = None

-- the names of objects, if the field is that
abbrev pub as_names : Field → Option (List (List ℕ))
as_names (field.Names v) = Some v
as_names _ = None

-- the rows of a load, if the field is that
abbrev pub as_load_rows : Field → Option (List LoadRow)
as_load_rows (field.LoadRows v) = Some v
as_load_rows _ = None

-- the bytes of a table, if the field is that
abbrev pub as_table : Field → Option (List ℕ)
as_table (field.Table v) = Some v
as_table _ = None

-- the field that is seen, if one is
abbrev pub seen : FieldRef → List Field
seen reference.Nothing = []
seen (reference.Name v) = field.Name v.now ∷ []
seen (reference.Folder v) = field.Folder v.now ∷ []
seen (reference.Extension v) = field.Extension v.now ∷ []
seen (reference.Source v) = field.Source v.now ∷ []
seen (reference.Display v) = field.Display v.now ∷ []
seen (reference.Entity v) = field.Entity v.now ∷ []
seen (reference.Object v) = field.Object v.now ∷ []
seen (reference.OptionalMoment v) = field.OptionalMoment v ∷ []
seen (reference.SetOp v) = field.SetOp v ∷ []
seen (reference.InheritKind v) = field.InheritKind v ∷ []
seen (reference.Scope v) = field.Scope v ∷ []
seen (reference.Privilege v) = field.Privilege v ∷ []
seen (reference.Owners v) = field.Owners v ∷ []
seen (reference.Flag v) = field.Flag v ∷ []
seen (reference.DefKind v) = field.DefKind v ∷ []
seen (reference.Value v) = field.Value v.now ∷ []
seen (reference.Number v least most) = field.Number v least most ∷ []
seen (reference.Names v) = field.Names v.now ∷ []
seen (reference.LoadRows v) = field.LoadRows v.now ∷ []

-- the fields that are seen
abbrev pub seen_all : List FieldRef → List Field
seen_all refs = flat_map seen refs

-- the first of the fields, and the others
abbrev pub next : List Field → Option (Field × List Field)
next [] = None
next (f ∷ fs) = Some (f, fs)

-- the first of the fields as something, and the others
unfoldable pub next_as : {A : Type 0} → (Field → Option A) → List Field → Option (A × List Field)
next_as value_of fields = do
  first ← next fields
  value ← value_of first.0
  Some (value, first.1)

-- a name from the front
abbrev pub name_in : List Field → Option (List ℕ × List Field)
name_in fields = next_as as_name fields

-- a folder from the front
abbrev pub folder_in : List Field → Option (List ℕ × List Field)
folder_in fields = next_as as_folder fields

-- an extension from the front
abbrev pub extension_in : List Field → Option (List ℕ × List Field)
extension_in fields = next_as as_extension fields

-- a source of persons from the front
abbrev pub source_in : List Field → Option (List ℕ × List Field)
source_in fields = next_as as_source fields

-- a display text from the front
abbrev pub display_in : List Field → Option (List ℕ × List Field)
display_in fields = next_as as_display fields

-- an entity from the front
abbrev pub entity_in : List Field → Option (Entity × List Field)
entity_in fields = next_as as_entity fields

-- a moment that may be left out from the front
abbrev pub moment_in : List Field → Option (Option ℕ × List Field)
moment_in fields = next_as as_moment fields

-- a composite's kind from the front
abbrev pub set_op_in : List Field → Option (SetOp × List Field)
set_op_in fields = next_as as_set_op fields

-- an object's text from the front
abbrev pub object_in : List Field → Option (List ℕ × List Field)
object_in fields = next_as as_object fields

-- an inherit's kind from the front
abbrev pub inherit_kind_in : List Field → Option (InheritKind × List Field)
inherit_kind_in fields = next_as as_inherit_kind fields

-- a scope from the front
abbrev pub scope_in : List Field → Option (Scope × List Field)
scope_in fields = next_as as_scope fields

-- a privilege from the front
abbrev pub privilege_in : List Field → Option (Privilege × List Field)
privilege_in fields = next_as as_privilege fields

-- the kinds of owner that a definition suits from the front
abbrev pub owners_in : List Field → Option (Owners × List Field)
owners_in fields = next_as as_owners fields

-- whether something holds from the front
abbrev pub flag_in : List Field → Option (Bool × List Field)
flag_in fields = next_as as_flag fields

-- the kind of a definition's values from the front
abbrev pub def_kind_in : List Field → Option (DefKind × List Field)
def_kind_in fields = next_as as_def_kind fields

-- a value of an assignment from the front
abbrev pub value_in : List Field → Option (Value × List Field)
value_in fields = next_as as_value fields

-- a number from the front
abbrev pub number_in : List Field → Option (ℕ × List Field)
number_in fields = next_as as_number fields

-- names of objects from the front
abbrev pub names_in : List Field → Option (List (List ℕ) × List Field)
names_in fields = next_as as_names fields

-- rows of a load from the front
abbrev pub load_rows_in : List Field → Option (List LoadRow × List Field)
load_rows_in fields = next_as as_load_rows fields

-- the bytes of a table from the front
abbrev pub table_in : List Field → Option (List ℕ × List Field)
table_in fields = next_as as_table fields

-- what was made, where no field is left
abbrev pub whole : {A : Type 0} → A → List Field → Option A
whole op [] = Some op
whole op (f ∷ fs) = None

-- what was taken from the front, and what is left
abbrev pub Took : {A : Type 0} → Option A → List Field → Option (A × List Field) → Type 0
Took (Some x) left reading = reading ≡ Some (x, left)
Took None left reading = reading ≡ None
