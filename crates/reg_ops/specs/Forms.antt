-- The form that each field has, and whether the fields of a command, a query or a load have theirs.
use Rattle.std.specs.Prelude.{ℕ, ◌==◌, ◌&&◌, ◌||◌, ◌^◌, ℤ, pos, negsuc, List, Bool, true, false}
use Rattle.std.specs.Prelude.{Option, None, Some, length, codes, nat_le, nat_lt, is_some}
use Rattle.std.specs.Prelude.{if◌then◌else◌}
use Rattle.std.specs.List.{list_all, list_any}
use Rattle.std.specs.Str.{bytes_eq, is_utf8}
use Rattle.reg_base.specs.Names.{is_extension, is_name, is_person, is_source}
use Rattle.reg_base.specs.Entities.{entity_of}
use Rattle.reg_base.specs.declared.entity.Entity.{Entity}
use Rattle.reg_base.specs.declared.entity.Entity.TheVariants as entity
use Rattle.reg_terms.specs.declared.kinds.Owners.{Owners}
use Rattle.reg_terms.specs.declared.kinds.Value.{Value}
use Rattle.reg_terms.specs.declared.kinds.Value.TheVariants as value
use Rattle.reg_terms.specs.declared.lists.LoadRow.{LoadRow}
use Rattle.reg_terms.specs.declared.command.Command.{Command}
use Rattle.reg_terms.specs.declared.command.Command.TheVariants.{Load}
use Rattle.reg_terms.specs.declared.query.Query.{Query}
use Rattle.reg_terms.specs.declared.request.Op.{Op}
use Rattle.reg_terms.specs.declared.request.Op.TheVariants as asked
use Rattle.reg_ops.specs.declared.field.Field.{Field}
use Rattle.reg_ops.specs.declared.field.Field.TheVariants as field
use Rattle.reg_terms.specs.Limits.{max_display, max_moment}
use Rattle.reg_ops.specs.Table.{fields_of, query_apart}

-- a folder's name, or `:` for the root
abbrev pub is_folder_text : List ℕ → Bool
is_folder_text text = bytes_eq text (codes ":") || is_name text

-- at most 255 bytes of UTF-8
abbrev pub is_display : List ℕ → Bool
is_display text = nat_le (length text) max_display && is_utf8 text

-- an entity's parts have their form
abbrev pub is_entity : Entity → Bool
is_entity (entity.Person text) = is_person text
is_entity (entity.Group name) = is_name name
is_entity entity.System = true
is_entity entity.Everyone = true

-- the text of an object: an entity's where it has a `/`, else a name or `:`
abbrev pub is_object_text : List ℕ → Bool
is_object_text text =
    if list_any (λ b. b == 47) text then is_some (entity_of text) else is_folder_text text

-- a moment up to the greatest
abbrev pub is_moment : ℕ → Bool
is_moment moment = nat_le moment max_moment

-- no moment, or one up to the greatest
abbrev pub is_optional_moment : Option ℕ → Bool
is_optional_moment None = true
is_optional_moment (Some moment) = is_moment moment

-- one kind of owner at least
abbrev pub suits_some : Owners → Bool
suits_some owners = owners.folder || (owners.group || owners.subject)

-- a whole number from -2^63 to 2^63 - 1
abbrev pub is_i64 : ℤ → Bool
is_i64 (pos n) = nat_lt n (2 ^ 63)
is_i64 (negsuc n) = nat_lt n (2 ^ 63)

-- a whole number of 64 bits, or a text of at most 255 bytes
abbrev pub is_value : Value → Bool
is_value (value.Int n) = is_i64 n
is_value (value.Text text) = is_display text

-- fewer items than 2^32
abbrev pub are_few : ℕ → Bool
are_few count = nat_lt count (2 ^ 32)

-- names, and fewer than 2^32
abbrev pub are_names : List (List ℕ) → Bool
are_names names = list_all is_name names && are_few (length names)

-- a group's name, and a person's text
abbrev pub is_load_row : LoadRow → Bool
is_load_row row = is_name row.group && is_person row.person

-- rows of a load, and fewer than 2^32
abbrev pub are_load_rows : List LoadRow → Bool
are_load_rows rows = list_all is_load_row rows && are_few (length rows)

-- what may stand in a field
abbrev pub is_field : Field → Bool
is_field (field.Name text) = is_name text
is_field (field.Folder text) = is_folder_text text
is_field (field.Extension text) = is_extension text
is_field (field.Source text) = is_source text
is_field (field.Display text) = is_display text
is_field (field.Entity entity) = is_entity entity
is_field (field.Object text) = is_object_text text
is_field (field.OptionalMoment moment) = is_optional_moment moment
is_field (field.SetOp kind) = true
is_field (field.InheritKind kind) = true
is_field (field.Scope scope) = true
is_field (field.Privilege privilege) = true
is_field (field.Owners owners) = suits_some owners
is_field (field.Flag flag) = true
is_field (field.DefKind kind) = true
is_field (field.Value value) = is_value value
is_field (field.Number value least most) = nat_le least value && nat_le value most
is_field (field.Names names) = are_names names
is_field (field.LoadRows rows) = are_load_rows rows
is_field (field.Table table) = true

-- whether each field of a command has its form
unfoldable pub has_form : Command → Bool
has_form c = list_all is_field (fields_of c)

-- whether each field of a query has its form
unfoldable pub query_has_form : Query → Bool
query_has_form q = list_all is_field (query_apart q).1

-- whether each field of a command, a query or a load has its form
abbrev pub op_has_form : Op → Bool
op_has_form (asked.Command c) = has_form c
op_has_form (asked.Query q) = query_has_form q
op_has_form (asked.Load job table) = is_extension job

-- whether a command may be given under a key: any may but a load
abbrev pub takes_key : Command → Bool
takes_key (Load job created removed added) = false
takes_key _ = true

-- whether what is asked may have a key: a command that may be given under one
abbrev pub op_takes_key : Op → Bool
op_takes_key (asked.Command c) = takes_key c
op_takes_key (asked.Query q) = false
op_takes_key (asked.Load job table) = false

-- no key, or one that has the form of an extension, of what may have one
abbrev pub key_fits : Bool → Option (List ℕ) → Bool
key_fits takes None = true
key_fits takes (Some key) = takes && is_extension key
