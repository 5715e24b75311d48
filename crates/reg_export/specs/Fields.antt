-- A field of a command as JSON data, as a request has it; and the names and rows of a load, which
-- no request has.
use Rattle.std.specs.Prelude.{ℕ, Bool, true, false, List, [], ◌∷◌, ◌++◌, map, Option, Some, None}
use Rattle.std.specs.Prelude.{codes, option_map}
use Rattle.serde_json.specs.Data.{Data, Items, array, object, member, no_members, number, unsigned}
use Rattle.serde_json.specs.Data.{boolean, string}
use Rattle.serde_json.specs.Find.{of_integer}
use Rattle.serde_json.specs.View.{items_of}
use Rattle.reg_base.specs.MomentText.{text_of}
use Rattle.reg_base.specs.declared.entity.Entity.{Entity}
use Rattle.reg_base.specs.declared.entity.Entity.TheVariants as entity
use Rattle.reg_terms.specs.Privileges.{line_of}
use Rattle.reg_terms.specs.declared.kinds.DefKind.{DefKind}
use Rattle.reg_terms.specs.declared.kinds.DefKind.TheVariants as def
use Rattle.reg_terms.specs.declared.kinds.InheritKind.{InheritKind}
use Rattle.reg_terms.specs.declared.kinds.InheritKind.TheVariants as inherit
use Rattle.reg_terms.specs.declared.kinds.Owners.{Owners}
use Rattle.reg_terms.specs.declared.kinds.Value.{Value}
use Rattle.reg_terms.specs.declared.kinds.Value.TheVariants as value
use Rattle.reg_terms.specs.declared.lists.LoadRow.{LoadRow}
use Rattle.reg_ops.specs.declared.field.Field.{Field}
use Rattle.reg_ops.specs.declared.field.Field.TheVariants as field
use Rattle.reg_json.specs.AdminReplies.{scope_word}
use Rattle.reg_json.specs.Replies.{kind_word, strings}

-- the text that names an entity
abbrev pub entity_text : Entity → List ℕ
entity_text (entity.Person text) = text
entity_text (entity.Group name) = codes "g:gsa/" ++ name
entity_text entity.System = codes "g:isa/GrouperSystem"
entity_text entity.Everyone = codes "g:isa/GrouperAll"

-- a moment by its text
abbrev pub moment_data : ℕ → Data
moment_data moment = string (text_of moment)

-- the word of the kind of objects that an inherit is for
abbrev pub inherit_word : InheritKind → List ℕ
inherit_word inherit.Folder = codes "folder"
inherit_word inherit.Group = codes "group"
inherit_word inherit.Definition = codes "definition"

-- the word of the kind of values that attributes take
abbrev pub def_word : DefKind → List ℕ
def_word def.Marker = codes "marker"
def_word def.Integer = codes "integer"
def_word def.Text = codes "text"
def_word def.Timestamp = codes "timestamp"

-- a word, where it holds
abbrev pub word_if : Bool → List ℕ → List (List ℕ)
word_if true word = word ∷ []
word_if false word = []

-- the words of kinds of owner, in order
abbrev pub owner_words : Owners → List (List ℕ)
owner_words owners =
    word_if owners.folder (codes "folder")
    ++ (word_if owners.group (codes "group") ++ word_if owners.subject (codes "subject"))

-- a value of an assignment: a whole number, or a text
abbrev pub value_data : Value → Data
value_data (value.Int n) = number (of_integer n)
value_data (value.Text text) = string text

-- a row of a load: the group's name and the person's text
abbrev pub row_data : LoadRow → Data
row_data row =
    object (member (codes "group") (string row.group)
    (member (codes "person") (string row.person) no_members))

-- rows of a load as an array's items
abbrev pub row_items : List LoadRow → Items
row_items rows = items_of (map row_data rows)

-- a field, unless it is left out, as a moment may be; no command has a table
abbrev pub field_data : Field → Option Data
field_data (field.Name text) = Some (string text)
field_data (field.Folder text) = Some (string text)
field_data (field.Extension text) = Some (string text)
field_data (field.Source text) = Some (string text)
field_data (field.Display text) = Some (string text)
field_data (field.Entity entity) = Some (string (entity_text entity))
field_data (field.Object text) = Some (string text)
field_data (field.OptionalMoment moment) = option_map moment_data moment
field_data (field.SetOp kind) = Some (string (kind_word kind))
field_data (field.InheritKind kind) = Some (string (inherit_word kind))
field_data (field.Scope scope) = Some (string (scope_word scope))
field_data (field.Privilege privilege) = Some (string (line_of privilege).name)
field_data (field.Owners owners) = Some (array (strings (owner_words owners)))
field_data (field.Flag flag) = Some (boolean flag)
field_data (field.DefKind kind) = Some (string (def_word kind))
field_data (field.Value value) = Some (value_data value)
field_data (field.Number value least most) = Some (number (unsigned value))
field_data (field.Names names) = Some (array (strings names))
field_data (field.LoadRows rows) = Some (array (row_items rows))
field_data (field.Table table) = None
