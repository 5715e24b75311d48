-- Reading the fields of a payload from the front, and a command by the kinds of its fields: each
-- reading gives a value and the bytes after it, or nothing.
use Rattle.std.specs.Prelude.{ℕ, ℤ, zero, suc, ◌/◌, ◌%◌, ◌==◌, List, [], ◌∷◌, Bool, true, false}
use Rattle.std.specs.Prelude.{◌&&◌, nat_le, nat_lt, if◌then◌else◌, length, take, drop, Option, Some}
use Rattle.std.specs.Prelude.{None}
use Rattle.std.specs.List.{list_all}
use Rattle.std.specs.Int.{Width, w16, w32, w64, byte_len, cast_signed, from_le_bytes}
use Rattle.reg_base.specs.Names.{is_extension, is_name, is_person, is_source}
use Rattle.reg_base.specs.Entities.{entity_of}
use Rattle.reg_base.specs.declared.entity.Entity.{Entity}
use Rattle.reg_base.specs.declared.privilege.Privilege.{Privilege}
use Rattle.reg_terms.specs.declared.kinds.DefKind.{DefKind}
use Rattle.reg_terms.specs.declared.kinds.DefKind.TheVariants.{Marker, Integer, Text, Timestamp}
use Rattle.reg_terms.specs.declared.kinds.InheritKind.{InheritKind}
use Rattle.reg_terms.specs.declared.kinds.InheritKind.TheVariants.{Folder, Group, Definition}
use Rattle.reg_terms.specs.declared.kinds.Owners.{Owners}
use Rattle.reg_terms.specs.declared.kinds.Scope.{Scope}
use Rattle.reg_terms.specs.declared.kinds.Scope.TheVariants.{One, Sub}
use Rattle.reg_terms.specs.declared.kinds.SetOp.{SetOp}
use Rattle.reg_terms.specs.declared.kinds.SetOp.TheVariants.{Intersection, Complement, Union}
use Rattle.reg_terms.specs.declared.kinds.Value.{Value}
use Rattle.reg_terms.specs.declared.kinds.Value.TheVariants as value
use Rattle.reg_terms.specs.declared.lists.LoadRow.{LoadRow}
use Rattle.reg_terms.specs.declared.command.Command.{Command}
use Rattle.reg_ops.specs.declared.table.CommandKind.{CommandKind}
use Rattle.reg_ops.specs.declared.field.FieldKind.{FieldKind}
use Rattle.reg_ops.specs.declared.field.FieldKind.TheVariants as kind
use Rattle.reg_ops.specs.declared.field.Field.{Field}
use Rattle.reg_ops.specs.declared.field.Field.TheVariants as field
use Rattle.reg_ops.specs.Forms.{is_folder_text, is_display, is_object_text, is_moment}
use Rattle.reg_ops.specs.Parts.{◌>>=◌}
use Rattle.reg_terms.specs.Privileges.{privilege_coded}
use Rattle.reg_ops.specs.Table.{command_row, field_kinds, commands, coded, made_command}

-- a byte is a number below 256
abbrev pub is_byte : ℕ → Bool
is_byte b = nat_lt b 256

-- one byte
abbrev pub byte_at : List ℕ → Option (ℕ × List ℕ)
byte_at [] = None
byte_at (b ∷ rest) = Some (b, rest)

-- a number of so many bytes, the least first
unfoldable pub number_at : Width → List ℕ → Option (ℕ × List ℕ)
number_at w bytes =
    if nat_le (byte_len w) (length bytes) && list_all is_byte (take (byte_len w) bytes)
    then Some (from_le_bytes w (take (byte_len w) bytes), drop (byte_len w) bytes) else None

-- a text: two bytes of length, and that many bytes
unfoldable pub text_at : List ℕ → Option (List ℕ × List ℕ)
text_at bytes = do
  size ← number_at w16 bytes
  if nat_le size.0 (length size.1) then Some (take size.0 size.1, drop size.0 size.1) else None

-- the text of a key, which is an extension
unfoldable pub key_text_at : List ℕ → Option (Option (List ℕ) × List ℕ)
key_text_at bytes = do
  key ← text_at bytes
  if is_extension key.0 then Some (Some key.0, key.1) else None

-- a key: 0 for none, or 1 and its text
unfoldable pub key_at : List ℕ → Option (Option (List ℕ) × List ℕ)
key_at [] = None
key_at (zero ∷ rest) = Some (None, rest)
key_at (suc zero ∷ rest) = key_text_at rest
key_at (suc (suc b) ∷ rest) = None

-- a text that passes a test
unfoldable pub tested_at : (List ℕ → Bool) → List ℕ → Option (List ℕ × List ℕ)
tested_at test bytes = do
  text ← text_at bytes
  if test text.0 then Some (text.0, text.1) else None

-- an object's name
abbrev pub name_at : List ℕ → Option (List ℕ × List ℕ)
name_at bytes = tested_at is_name bytes

-- a folder's name, or `:` for the root
abbrev pub folder_at : List ℕ → Option (List ℕ × List ℕ)
folder_at bytes = tested_at is_folder_text bytes

-- an extension
abbrev pub extension_at : List ℕ → Option (List ℕ × List ℕ)
extension_at bytes = tested_at is_extension bytes

-- a source of persons
abbrev pub source_at : List ℕ → Option (List ℕ × List ℕ)
source_at bytes = tested_at is_source bytes

-- a person's text
abbrev pub person_at : List ℕ → Option (List ℕ × List ℕ)
person_at bytes = tested_at is_person bytes

-- a display text
abbrev pub display_at : List ℕ → Option (List ℕ × List ℕ)
display_at bytes = tested_at is_display bytes

-- an object's text
abbrev pub object_at : List ℕ → Option (List ℕ × List ℕ)
object_at bytes = tested_at is_object_text bytes

-- an entity, by its text
unfoldable pub entity_at : List ℕ → Option (Entity × List ℕ)
entity_at bytes = do
  text ← text_at bytes
  entity ← entity_of text.0
  Some (entity, text.1)

-- a moment
unfoldable pub moment_at : List ℕ → Option (ℕ × List ℕ)
moment_at bytes = do
  number ← number_at w64 bytes
  if is_moment number.0 then Some (number.0, number.1) else None

-- a number from `least` to `most`
unfoldable pub ranged_at : ℕ → ℕ → List ℕ → Option (ℕ × List ℕ)
ranged_at least most bytes = do
  number ← number_at w64 bytes
  if nat_le least number.0 && nat_le number.0 most then Some (number.0, number.1) else None

-- 0, or 1 and a moment
unfoldable pub optional_moment_at : List ℕ → Option (Option ℕ × List ℕ)
optional_moment_at [] = None
optional_moment_at (zero ∷ rest) = Some (None, rest)
optional_moment_at (suc zero ∷ rest) = do
  moment ← moment_at rest
  Some (Some moment.0, moment.1)
optional_moment_at (suc (suc b) ∷ rest) = None

-- the kind of a composite: 1 for an intersection, 2 for a complement, 3 for a union
unfoldable pub set_op_at : List ℕ → Option (SetOp × List ℕ)
set_op_at [] = None
set_op_at (zero ∷ rest) = None
set_op_at (suc zero ∷ rest) = Some (Intersection, rest)
set_op_at (suc (suc zero) ∷ rest) = Some (Complement, rest)
set_op_at (suc (suc (suc zero)) ∷ rest) = Some (Union, rest)
set_op_at (suc (suc (suc (suc b))) ∷ rest) = None

-- the kind of objects that an inherit is for: 1 for folders, 2 for groups, 3 for definitions
unfoldable pub inherit_kind_at : List ℕ → Option (InheritKind × List ℕ)
inherit_kind_at [] = None
inherit_kind_at (zero ∷ rest) = None
inherit_kind_at (suc zero ∷ rest) = Some (Folder, rest)
inherit_kind_at (suc (suc zero) ∷ rest) = Some (Group, rest)
inherit_kind_at (suc (suc (suc zero)) ∷ rest) = Some (Definition, rest)
inherit_kind_at (suc (suc (suc (suc b))) ∷ rest) = None

-- how far an inherit reaches: 1 for what is directly in a folder, 2 for what is at any depth below
-- it
unfoldable pub scope_at : List ℕ → Option (Scope × List ℕ)
scope_at [] = None
scope_at (zero ∷ rest) = None
scope_at (suc zero ∷ rest) = Some (One, rest)
scope_at (suc (suc zero) ∷ rest) = Some (Sub, rest)
scope_at (suc (suc (suc b)) ∷ rest) = None

-- a privilege, by its code
unfoldable pub privilege_at : List ℕ → Option (Privilege × List ℕ)
privilege_at bytes = do
  code ← byte_at bytes
  privilege ← privilege_coded code.0
  Some (privilege, code.1)

-- the kinds of owner whose code a number is: 1 for folders, 2 for groups and 4 for subjects, added
-- up
abbrev pub owners_of : ℕ → Owners
owners_of code = record {
  folder = code % 2 == 1;
  group = (code / 2) % 2 == 1;
  subject = code / 4 == 1;
}

-- kinds of owner, one at least, by their code
unfoldable pub owners_at : List ℕ → Option (Owners × List ℕ)
owners_at bytes = do
  code ← byte_at bytes
  if nat_le 1 code.0 && nat_le code.0 7 then Some (owners_of code.0, code.1) else None

-- whether something holds: 1 if it does, 0 if not
unfoldable pub flag_at : List ℕ → Option (Bool × List ℕ)
flag_at [] = None
flag_at (zero ∷ rest) = Some (false, rest)
flag_at (suc zero ∷ rest) = Some (true, rest)
flag_at (suc (suc b) ∷ rest) = None

-- the kind of a definition's values: 1 for markers, 2 for integers, 3 for texts, 4 for timestamps
unfoldable pub def_kind_at : List ℕ → Option (DefKind × List ℕ)
def_kind_at [] = None
def_kind_at (zero ∷ rest) = None
def_kind_at (suc zero ∷ rest) = Some (Marker, rest)
def_kind_at (suc (suc zero) ∷ rest) = Some (Integer, rest)
def_kind_at (suc (suc (suc zero)) ∷ rest) = Some (Text, rest)
def_kind_at (suc (suc (suc (suc zero))) ∷ rest) = Some (Timestamp, rest)
def_kind_at (suc (suc (suc (suc (suc b)))) ∷ rest) = None

-- a whole number and its sign
unfoldable pub int_at : List ℕ → Option (ℤ × List ℕ)
int_at bytes = do
  number ← number_at w64 bytes
  Some (cast_signed w64 number.0, number.1)

-- the value of an assignment: 1 and a whole number, or 2 and a text
unfoldable pub value_at : List ℕ → Option (Value × List ℕ)
value_at [] = None
value_at (zero ∷ rest) = None
value_at (suc zero ∷ rest) = do
  number ← int_at rest
  Some (value.Int number.0, number.1)
value_at (suc (suc zero) ∷ rest) = do
  text ← display_at rest
  Some (value.Text text.0, text.1)
value_at (suc (suc (suc b)) ∷ rest) = None

-- ---- lists

-- so many items, one behind the other
unfoldable pub items_at : {A : Type 0} → (List ℕ → Option (A × List ℕ)) → ℕ → List ℕ
    → Option (List A × List ℕ)
items_at item zero bytes = Some ([], bytes)
items_at item (suc n) bytes = do
  first ← item bytes
  others ← items_at item n first.1
  Some (first.0 ∷ others.0, others.1)

-- four bytes of count, and so many items
unfoldable pub list_at : {A : Type 0} → (List ℕ → Option (A × List ℕ)) → List ℕ
    → Option (List A × List ℕ)
list_at item bytes = do
  count ← number_at w32 bytes
  items_at item count.0 count.1

-- names of objects
abbrev pub names_at : List ℕ → Option (List (List ℕ) × List ℕ)
names_at bytes = list_at name_at bytes

-- a row of a load: the text of a group's name, and a person's
unfoldable pub load_row_at : List ℕ → Option (LoadRow × List ℕ)
load_row_at bytes = do
  group ← name_at bytes
  person ← person_at group.1
  Some (record { group = group.0; person = person.0 }, person.1)

-- rows of a load
abbrev pub load_rows_at : List ℕ → Option (List LoadRow × List ℕ)
load_rows_at bytes = list_at load_row_at bytes

-- ---- by the kinds of fields

-- a value that was read, as a field
abbrev pub stands : {A : Type 0} → (A → Field) → Option (A × List ℕ) → Option (Field × List ℕ)
stands as_a found = do
  value ← found
  Some (as_a value.0, value.1)

-- a field of a kind; no command has a table
abbrev pub field_at : FieldKind → List ℕ → Option (Field × List ℕ)
field_at kind.Name bytes = stands (λ v. field.Name v) (name_at bytes)
field_at kind.Folder bytes = stands (λ v. field.Folder v) (folder_at bytes)
field_at kind.Extension bytes = stands (λ v. field.Extension v) (extension_at bytes)
field_at kind.Source bytes = stands (λ v. field.Source v) (source_at bytes)
field_at kind.Display bytes = stands (λ v. field.Display v) (display_at bytes)
field_at kind.Entity bytes = stands (λ v. field.Entity v) (entity_at bytes)
field_at kind.Object bytes = stands (λ v. field.Object v) (object_at bytes)
field_at kind.OptionalMoment bytes = stands (λ v. field.OptionalMoment v) (optional_moment_at bytes)
field_at kind.SetOp bytes = stands (λ v. field.SetOp v) (set_op_at bytes)
field_at kind.InheritKind bytes = stands (λ v. field.InheritKind v) (inherit_kind_at bytes)
field_at kind.Scope bytes = stands (λ v. field.Scope v) (scope_at bytes)
field_at kind.Privilege bytes = stands (λ v. field.Privilege v) (privilege_at bytes)
field_at kind.Owners bytes = stands (λ v. field.Owners v) (owners_at bytes)
field_at kind.Flag bytes = stands (λ v. field.Flag v) (flag_at bytes)
field_at kind.DefKind bytes = stands (λ v. field.DefKind v) (def_kind_at bytes)
field_at kind.Value bytes = stands (λ v. field.Value v) (value_at bytes)
field_at (kind.Number least most) bytes =
    stands (λ v. field.Number v least most) (ranged_at least most bytes)
field_at kind.Names bytes = stands (λ v. field.Names v) (names_at bytes)
field_at kind.LoadRows bytes = stands (λ v. field.LoadRows v) (load_rows_at bytes)
field_at kind.Table bytes = None

-- fields of so many kinds
abbrev pub fields_at : List FieldKind → List ℕ → Option (List Field × List ℕ)
fields_at [] bytes = Some ([], bytes)
fields_at (k ∷ ks) bytes = do
  first ← field_at k bytes
  others ← fields_at ks first.1
  Some (first.0 ∷ others.0, others.1)

-- the fields of a command
unfoldable pub command_at : CommandKind → List ℕ → Option (Command × List ℕ)
command_at k bytes = do
  fields ← fields_at (field_kinds (command_row k).op) bytes
  command ← made_command k fields.0
  Some (command, fields.1)

-- a command: its code, and its fields
unfoldable pub command_of : List ℕ → Option (Command × List ℕ)
command_of bytes = do
  code ← byte_at bytes
  k ← coded commands code.0
  command_at k code.1
