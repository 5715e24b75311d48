-- What the object of a line tells: the request that asked for the command, once the members that no
-- request has are taken away; and the command with its number, its place, its moment, its caller
-- and its key.
use Rattle.std.specs.Prelude.{◌≡◌, ◌⊎◌, ℕ, List, [], ◌∷◌, true, false, Option, None, Some, Result}
use Rattle.std.specs.Prelude.{Ok, Err, codes, if◌then◌else◌, ok_or, option_and_then, option_map}
use Rattle.std.specs.Str.{bytes_eq}
use Rattle.serde_json.specs.Data.{Data, Members, no_members, member}
use Rattle.reg_base.specs.MomentText.{moment_of}
use Rattle.reg_base.specs.declared.entity.Entity.{Entity}
use Rattle.reg_terms.specs.declared.command.Stamped.{Stamped}
use Rattle.reg_terms.specs.declared.lists.LoadRow.{LoadRow}
use Rattle.reg_terms.specs.declared.refusal.Refusal.{Refusal}
use Rattle.reg_terms.specs.declared.refusal.Refusal.TheVariants.{BadMoment, BadName, BadRequest}
use Rattle.reg_ops.specs.Forms.{are_load_rows, are_names, has_form, is_entity, is_moment}
use Rattle.reg_ops.specs.Forms.{key_fits, takes_key}
use Rattle.reg_ops.specs.Table.{command_named, command_row, commands, made_command}
use Rattle.reg_ops.specs.declared.field.Field.{Field}
use Rattle.reg_ops.specs.declared.field.Field.TheVariants as field
use Rattle.reg_ops.specs.declared.field.FieldKind.{FieldKind}
use Rattle.reg_ops.specs.declared.field.FieldKind.TheVariants as kind
use Rattle.reg_ops.specs.declared.table.CommandKind.{CommandKind}
use Rattle.reg_json.specs.Fields.{entity_from, key_at, key_from, number_at, text_at}
use Rattle.reg_json.specs.Ops.{form_at}
use Rattle.reg_json.specs.Steps.{◌>>=◌}
use Rattle.reg_json.specs.Taking.{all_of, items_in, text_in, texts_in}
use Rattle.reg_export.specs.Lines.{Keyed, has_id}

-- ---- the request

-- the members but that under a key
abbrev pub without : List ℕ → Members → Members
without key no_members = no_members
without key (member k d ms) =
    if bytes_eq key k then without key ms else member k d (without key ms)

-- the members but that of the id of what was made
abbrev pub without_id : Option ℕ → Members → Members
without_id None ms = ms
without_id (Some id) ms = without (codes "id") ms

-- the members of a line that a request has: all but its number, its place, its moment and the id
-- that was made
unfoldable pub request_part : Option ℕ → Members → Members
request_part made ms =
    without_id made (without (codes "number") (without (codes "place") (without (codes "at") ms)))

-- ---- the command

-- names of objects
unfoldable pub names_at : List ℕ → Data → Result (List (List ℕ)) Refusal
names_at key d = do
  names ← ok_or (texts_in key d) (BadRequest key)
  if are_names names then Ok names else Err (BadName key)

-- a row of a load by its parts
abbrev pub load_row : List ℕ → List ℕ → LoadRow
load_row group person = record { group = group; person = person }

-- a row of a load
unfoldable pub row_from : Data → Option LoadRow
row_from d =
    option_and_then (λ (group : List ℕ). option_map (load_row group) (text_in (codes "person") d))
    (text_in (codes "group") d)

-- rows of a load
unfoldable pub rows_at : List ℕ → Data → Result (List LoadRow) Refusal
rows_at key d = do
  rows ← ok_or (option_and_then (all_of row_from) (items_in key d)) (BadRequest key)
  if are_load_rows rows then Ok rows else Err (BadName key)

-- the command that a word names, a load's rows too
unfoldable pub command_worded : List ℕ → Option CommandKind
command_worded word = command_named commands word

-- a field, as a request has it, or of a load
abbrev pub told_at : FieldKind → List ℕ → Data → Result Field Refusal
told_at kind.Names key d = do
  names ← names_at key d
  Ok (field.Names names)
told_at kind.LoadRows key d = do
  rows ← rows_at key d
  Ok (field.LoadRows rows)
told_at k key d = form_at k key d

-- each field of an op
abbrev pub all_told : List Keyed → Data → Result (List Field) Refusal
all_told [] d = Ok []
all_told (k ∷ keyed) d = do
  first ← told_at k.1 k.0 d
  others ← all_told keyed d
  Ok (first ∷ others)

-- the moment that stands under `at`
unfoldable pub moment_at : Data → Result ℕ Refusal
moment_at d = do
  text ← text_at (codes "at") d
  ok_or (moment_of text) (BadMoment (codes "at"))

-- the caller that stands under `by`
unfoldable pub caller_at : Data → Result Entity Refusal
caller_at d = do
  text ← text_at (codes "by") d
  entity_from (codes "by") text

-- the key that stands under `key`, if one does
unfoldable pub line_key : Data → Result (Option (List ℕ)) Refusal
line_key d = do
  text ← key_at true d
  key_from text

-- the number in the history, the place in the journal, and the command with its moment, its caller
-- and its key
unfoldable pub line_in : Data → Result (ℕ × ℕ × Stamped) Refusal
line_in d = do
  number ← number_at 0 18446744073709551615 (codes "number") d
  place ← number_at 0 18446744073709551615 (codes "place") d
  moment ← moment_at d
  by ← caller_at d
  key ← line_key d
  word ← text_at (codes "op") d
  known ← ok_or (command_worded word) (BadRequest (codes "op"))
  fields ← all_told (command_row known).op.fields d
  command ← ok_or (made_command known fields) (BadRequest [])
  Ok (number, place, record { at = moment; by = by; key = key; command = command })

-- ---- which lines are read back

-- a moment, a caller, a key and a command that have their forms, which all accepted ones have; and
-- an id that was made only where no field of the op has that key
pub record IsTold (made : Option ℕ) (s : Stamped) : Type 0 where
  pub moment : is_moment s.at ≡ true
  pub caller : is_entity s.by ≡ true
  pub key : key_fits (takes_key s.command) s.key ≡ true
  pub form : has_form s.command ≡ true
  pub one_id : (made ≡ None) ⊎ (has_id s.command ≡ false)
