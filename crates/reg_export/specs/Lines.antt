-- The text of an accepted command: compact JSON whose keys ascend by bytes. It has the members of
-- the request that asks for the command, which tell its op, its caller, its key, where it has one,
-- and its fields; its number in the history, its place in the journal, its moment, and the id of
-- what it made, where that has one.
use Rattle.std.specs.Prelude.{ℕ, List, [], ◌∷◌, Bool, true, false, Option, None, Some, codes}
use Rattle.std.specs.Prelude.{option_map}
use Rattle.std.specs.List.{list_any}
use Rattle.std.specs.Str.{bytes_eq}
use Rattle.serde_json.specs.Data.{Data, Members, no_members, number as a_number, object, put}
use Rattle.serde_json.specs.Data.{string, unsigned}
use Rattle.serde_json.specs.Written.{compact_text}
use Rattle.reg_terms.specs.declared.command.Command.{Command}
use Rattle.reg_terms.specs.declared.command.Stamped.{Stamped}
use Rattle.reg_ops.specs.Table.{command_row, fields_of, kind_of}
use Rattle.reg_ops.specs.declared.field.Field.{Field}
use Rattle.reg_ops.specs.declared.field.FieldKind.{FieldKind}
use Rattle.reg_ops.specs.declared.parts.FieldRef.{FieldRef}
use Rattle.reg_ops.specs.declared.parts.FieldRef.TheVariants as reference
use Rattle.reg_export.specs.Fields.{entity_text, field_data, moment_data}

-- a key, and the kind of the field under it
abbrev pub Keyed : Type 0
Keyed = List ℕ × FieldKind

-- data under a key, where there are some
abbrev pub with_data : List ℕ → Option Data → Members → Members
with_data key None ms = ms
with_data key (Some d) ms = put key d ms

-- fields, each under its key
abbrev pub with_fields : List Field → List Keyed → Members → Members
with_fields [] keyed ms = ms
with_fields (f ∷ fs) [] ms = ms
with_fields (f ∷ fs) (k ∷ keyed) ms = with_fields fs keyed (with_data k.0 (field_data f) ms)

-- the caller and the word of an op
abbrev pub caller_and_op : List ℕ → List ℕ → Members
caller_and_op by word = put (codes "by") (string by) (put (codes "op") (string word) no_members)

-- a request's key, where there is one
abbrev pub key_data : Option (List ℕ) → Option Data
key_data key = option_map string key

-- the caller, the key and the word of an op
abbrev pub front : List ℕ → Option (List ℕ) → List ℕ → Members
front by key word = with_data (codes "key") (key_data key) (caller_and_op by word)

-- the members of the request that asks for a command; of a load its rows stand in its table's place
unfoldable pub request_members : List ℕ → Option (List ℕ) → Command → Members
request_members by key c =
    with_fields (fields_of c) (command_row (kind_of c)).op.fields
    (front by key (command_row (kind_of c)).op.word)

-- a whole number
abbrev pub count_data : ℕ → Data
count_data n = a_number (unsigned n)

-- an id, where there is one
abbrev pub id_data : Option ℕ → Option Data
id_data made = option_map count_data made

-- the members of the line of a command, by its number in the history, its place in the journal and
-- the id of what it made
unfoldable pub line_members : (number place : ℕ) → Option ℕ → Stamped → Members
line_members number place made s =
    put (codes "at") (moment_data s.at)
    (put (codes "place") (count_data place)
    (put (codes "number") (count_data number)
    (with_data (codes "id") (id_data made) (request_members (entity_text s.by) s.key s.command))))

-- the text of the line, without its LF
unfoldable pub command_text : (number place : ℕ) → Option ℕ → Stamped → List ℕ
command_text number place made s = compact_text (object (line_members number place made s))

-- ---- ids

-- a key is that of one of these fields
abbrev pub has_key : List ℕ → List Keyed → Bool
has_key key keyed = list_any (λ (k : Keyed). bytes_eq key k.0) keyed

-- the op of a command has a field `id`
unfoldable pub has_id : Command → Bool
has_id c = has_key (codes "id") (command_row (kind_of c)).op.fields

-- ---- for private clauses

-- no field is seen
abbrev pub is_nothing : FieldRef → Bool
is_nothing reference.Nothing = true
is_nothing _ = false
