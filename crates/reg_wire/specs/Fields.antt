-- The bytes of the fields of a payload.
use Rattle.std.specs.Prelude.{ℕ, ℤ, ◌+◌, ◌*◌, Bool, List, [], ◌∷◌, ◌++◌, length, codes, Option}
use Rattle.std.specs.Prelude.{Some, None}
use Rattle.std.specs.Int.{w16, w32, w64, cast_unsigned, from_bool, to_le_bytes}
use Rattle.std.specs.List.{flat_map}
use Rattle.reg_base.specs.declared.entity.Entity.{Entity}
use Rattle.reg_base.specs.declared.entity.Entity.TheVariants as entity
use Rattle.reg_base.specs.declared.privilege.Privilege.{Privilege}
use Rattle.reg_terms.specs.declared.kinds.DefKind.{DefKind}
use Rattle.reg_terms.specs.declared.kinds.DefKind.TheVariants.{Marker, Integer, Text, Timestamp}
use Rattle.reg_terms.specs.declared.kinds.InheritKind.{InheritKind}
use Rattle.reg_terms.specs.declared.kinds.InheritKind.TheVariants.{Folder, Group, Definition}
use Rattle.reg_terms.specs.declared.kinds.Owners.{Owners}
use Rattle.reg_terms.specs.declared.kinds.Scope.{Scope}
use Rattle.reg_terms.specs.declared.kinds.Scope.TheVariants.{One, Sub}
use Rattle.reg_terms.specs.declared.kinds.SetOp.{SetOp}
use Rattle.reg_terms.specs.declared.kinds.SetOp.TheVariants.{Intersection, Complement, Union}
use Rattle.reg_terms.specs.declared.kinds.Value.{Value}
use Rattle.reg_terms.specs.declared.kinds.Value.TheVariants as value
use Rattle.reg_terms.specs.declared.lists.LoadRow.{LoadRow}
use Rattle.reg_ops.specs.declared.field.Field.{Field}
use Rattle.reg_ops.specs.declared.field.Field.TheVariants as field
use Rattle.reg_terms.specs.Privileges.{code}

-- the text that names an entity
abbrev pub entity_text : Entity → List ℕ
entity_text (entity.Person text) = text
entity_text (entity.Group name) = codes "g:gsa/" ++ name
entity_text entity.System = codes "g:isa/GrouperSystem"
entity_text entity.Everyone = codes "g:isa/GrouperAll"

-- two bytes of length, the least first, and that many bytes
abbrev pub text_bytes : List ℕ → List ℕ
text_bytes text = to_le_bytes w16 (length text) ++ text

-- eight bytes, the least first
abbrev pub moment_bytes : ℕ → List ℕ
moment_bytes moment = to_le_bytes w64 moment

-- eight bytes, the least first
abbrev pub number_bytes : ℕ → List ℕ
number_bytes number = to_le_bytes w64 number

-- 0, or 1 and the moment
abbrev pub optional_moment_bytes : Option ℕ → List ℕ
optional_moment_bytes None = 0 ∷ []
optional_moment_bytes (Some moment) = 1 ∷ moment_bytes moment

-- 0, or 1 and the text
abbrev pub key_bytes : Option (List ℕ) → List ℕ
key_bytes None = 0 ∷ []
key_bytes (Some key) = 1 ∷ text_bytes key

-- 1 for an intersection, 2 for a complement, 3 for a union
abbrev pub set_op_bytes : SetOp → List ℕ
set_op_bytes Intersection = 1 ∷ []
set_op_bytes Complement = 2 ∷ []
set_op_bytes Union = 3 ∷ []

-- 1 for folders, 2 for groups, 3 for definitions
abbrev pub inherit_kind_bytes : InheritKind → List ℕ
inherit_kind_bytes Folder = 1 ∷ []
inherit_kind_bytes Group = 2 ∷ []
inherit_kind_bytes Definition = 3 ∷ []

-- 1 for what is directly in a folder, 2 for what is at any depth below it
abbrev pub scope_bytes : Scope → List ℕ
scope_bytes One = 1 ∷ []
scope_bytes Sub = 2 ∷ []

-- the privilege's code
abbrev pub privilege_bytes : Privilege → List ℕ
privilege_bytes privilege = code privilege ∷ []

-- one byte: 1 for folders, 2 for groups and 4 for subjects, added up
abbrev pub owners_code : Owners → ℕ
owners_code owners =
    from_bool owners.folder + 2 * from_bool owners.group + 4 * from_bool owners.subject

abbrev pub owners_bytes : Owners → List ℕ
owners_bytes owners = owners_code owners ∷ []

-- 1 for what holds, 0 for what doesn't
abbrev pub flag_bytes : Bool → List ℕ
flag_bytes flag = from_bool flag ∷ []

-- 1 for markers, 2 for integers, 3 for texts, 4 for timestamps
abbrev pub def_kind_bytes : DefKind → List ℕ
def_kind_bytes Marker = 1 ∷ []
def_kind_bytes Integer = 2 ∷ []
def_kind_bytes Text = 3 ∷ []
def_kind_bytes Timestamp = 4 ∷ []

-- eight bytes, the least first, of a number and its sign (two's complement)
abbrev pub int_bytes : ℤ → List ℕ
int_bytes number = to_le_bytes w64 (cast_unsigned w64 number)

-- 1 and a whole number, or 2 and a text
abbrev pub value_bytes : Value → List ℕ
value_bytes (value.Int number) = 1 ∷ int_bytes number
value_bytes (value.Text text) = 2 ∷ text_bytes text

-- four bytes of count, the least first, and the items
abbrev pub list_bytes : {A : Type 0} → (A → List ℕ) → List A → List ℕ
list_bytes item items = to_le_bytes w32 (length items) ++ flat_map item items

-- a group's name and a person's text
abbrev pub load_row_bytes : LoadRow → List ℕ
load_row_bytes row = text_bytes row.group ++ text_bytes row.person

-- the bytes of a field; no command has a table
abbrev pub field_bytes : Field → List ℕ
field_bytes (field.Name text) = text_bytes text
field_bytes (field.Folder text) = text_bytes text
field_bytes (field.Extension text) = text_bytes text
field_bytes (field.Source text) = text_bytes text
field_bytes (field.Display text) = text_bytes text
field_bytes (field.Entity entity) = text_bytes (entity_text entity)
field_bytes (field.Object text) = text_bytes text
field_bytes (field.OptionalMoment moment) = optional_moment_bytes moment
field_bytes (field.SetOp kind) = set_op_bytes kind
field_bytes (field.InheritKind kind) = inherit_kind_bytes kind
field_bytes (field.Scope scope) = scope_bytes scope
field_bytes (field.Privilege privilege) = privilege_bytes privilege
field_bytes (field.Owners owners) = owners_bytes owners
field_bytes (field.Flag flag) = flag_bytes flag
field_bytes (field.DefKind kind) = def_kind_bytes kind
field_bytes (field.Value value) = value_bytes value
field_bytes (field.Number value least most) = number_bytes value
field_bytes (field.Names names) = list_bytes text_bytes names
field_bytes (field.LoadRows rows) = list_bytes load_row_bytes rows
field_bytes (field.Table table) = []
