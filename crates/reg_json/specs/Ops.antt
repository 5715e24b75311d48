-- What an object asks, by the row of its op: first its key and its fields stand there and no others
-- do, then each has its form.
use Rattle.std.specs.Prelude.{ℕ, List, [], ◌∷◌, Bool, true, false, Result, Ok, Err, ok_or}
use Rattle.serde_json.specs.Data.{Data}
use Rattle.serde_json.specs.Find.{as_object}
use Rattle.reg_ops.specs.declared.field.FieldKind.{FieldKind}
use Rattle.reg_ops.specs.declared.field.FieldKind.TheVariants as kind
use Rattle.reg_ops.specs.declared.field.Field.{Field}
use Rattle.reg_ops.specs.declared.field.Field.TheVariants as field
use Rattle.reg_ops.specs.declared.table.CommandKind.{CommandKind}
use Rattle.reg_ops.specs.declared.table.CommandKind.TheVariants as command
use Rattle.reg_ops.specs.declared.table.OpKind.{OpKind}
use Rattle.reg_ops.specs.declared.table.OpKind.TheVariants as op
use Rattle.reg_terms.specs.declared.request.Op.{Op}
use Rattle.reg_terms.specs.declared.refusal.Refusal.{Refusal}
use Rattle.reg_terms.specs.declared.refusal.Refusal.TheVariants.{BadRequest}
use Rattle.reg_ops.specs.Table.{row_of, made}
use Rattle.reg_json.specs.declared.fields.Carrier.{Carrier}
use Rattle.reg_json.specs.declared.ops.Asked.{Asked}
use Rattle.reg_json.specs.Steps.{◌>>=◌}
use Rattle.reg_json.specs.Attributes.{owners_at, flag_at, def_kind_at, value_at}
use Rattle.reg_json.specs.Fields.{known_keys, no_other, text_at, optional_text_at, display_at}
use Rattle.reg_json.specs.Fields.{key_at, key_from}
use Rattle.reg_json.specs.Fields.{set_op_at, inherit_kind_at, scope_at, privilege_at, number_at}
use Rattle.reg_json.specs.Fields.{name_from, folder_from, extension_from, source_from, entity_from}
use Rattle.reg_json.specs.Fields.{object_from, moment_from}

-- ---- by the kinds of fields

-- a field stands there; a table is any text, and no request brings names or rows of a load
abbrev pub stands_at : FieldKind → List ℕ → Data → Result Bool Refusal
stands_at kind.Name key d = do
  text ← text_at key d
  Ok true
stands_at kind.Folder key d = do
  text ← text_at key d
  Ok true
stands_at kind.Extension key d = do
  text ← text_at key d
  Ok true
stands_at kind.Source key d = do
  text ← text_at key d
  Ok true
stands_at kind.Display key d = do
  text ← display_at key d
  Ok true
stands_at kind.Entity key d = do
  text ← text_at key d
  Ok true
stands_at kind.Object key d = do
  text ← text_at key d
  Ok true
stands_at kind.OptionalMoment key d = do
  text ← optional_text_at key d
  Ok true
stands_at kind.SetOp key d = do
  word ← set_op_at key d
  Ok true
stands_at kind.InheritKind key d = do
  word ← inherit_kind_at key d
  Ok true
stands_at kind.Scope key d = do
  word ← scope_at key d
  Ok true
stands_at kind.Privilege key d = do
  word ← privilege_at key d
  Ok true
stands_at kind.Owners key d = do
  owners ← owners_at key d
  Ok true
stands_at kind.Flag key d = do
  flag ← flag_at key d
  Ok true
stands_at kind.DefKind key d = do
  word ← def_kind_at key d
  Ok true
stands_at kind.Value key d = do
  value ← value_at key d
  Ok true
stands_at kind.Names key d = Err (BadRequest key)
stands_at kind.LoadRows key d = Err (BadRequest key)
stands_at kind.Table key d = do
  text ← text_at key d
  Ok true
stands_at (kind.Number least most) key d = do
  value ← number_at least most key d
  Ok true

-- what stands there has its form
abbrev pub form_at : FieldKind → List ℕ → Data → Result Field Refusal
form_at kind.Name key d = do
  text ← text_at key d
  name ← name_from key text
  Ok (field.Name name)
form_at kind.Folder key d = do
  text ← text_at key d
  folder ← folder_from key text
  Ok (field.Folder folder)
form_at kind.Extension key d = do
  text ← text_at key d
  extension ← extension_from key text
  Ok (field.Extension extension)
form_at kind.Source key d = do
  text ← text_at key d
  source ← source_from key text
  Ok (field.Source source)
form_at kind.Display key d = do
  text ← display_at key d
  Ok (field.Display text)
form_at kind.Entity key d = do
  text ← text_at key d
  entity ← entity_from key text
  Ok (field.Entity entity)
form_at kind.Object key d = do
  text ← text_at key d
  object ← object_from key text
  Ok (field.Object object)
form_at kind.OptionalMoment key d = do
  text ← optional_text_at key d
  moment ← moment_from key text
  Ok (field.OptionalMoment moment)
form_at kind.SetOp key d = do
  word ← set_op_at key d
  Ok (field.SetOp word)
form_at kind.InheritKind key d = do
  kind ← inherit_kind_at key d
  Ok (field.InheritKind kind)
form_at kind.Scope key d = do
  scope ← scope_at key d
  Ok (field.Scope scope)
form_at kind.Privilege key d = do
  privilege ← privilege_at key d
  Ok (field.Privilege privilege)
form_at kind.Owners key d = do
  owners ← owners_at key d
  Ok (field.Owners owners)
form_at kind.Flag key d = do
  flag ← flag_at key d
  Ok (field.Flag flag)
form_at kind.DefKind key d = do
  kind ← def_kind_at key d
  Ok (field.DefKind kind)
form_at kind.Value key d = do
  value ← value_at key d
  Ok (field.Value value)
form_at kind.Names key d = Err (BadRequest key)
form_at kind.LoadRows key d = Err (BadRequest key)
form_at kind.Table key d = do
  text ← text_at key d
  Ok (field.Table text)
form_at (kind.Number least most) key d = do
  value ← number_at least most key d
  Ok (field.Number value least most)

-- each field stands there
abbrev pub all_stand : List (List ℕ × FieldKind) → Data → Result Bool Refusal
all_stand [] d = Ok true
all_stand (f ∷ fs) d = do
  first ← stands_at f.1 f.0 d
  all_stand fs d

-- and has its form
abbrev pub all_forms : List (List ℕ × FieldKind) → Data → Result (List Field) Refusal
all_forms [] d = Ok []
all_forms (f ∷ fs) d = do
  first ← form_at f.1 f.0 d
  others ← all_forms fs d
  Ok (first ∷ others)

-- ---- by the table

-- a command of a kind may be given under a key: any may but a load
abbrev pub command_takes_key : CommandKind → Bool
command_takes_key command.Load = false
command_takes_key _ = true

-- so may what a request asks
abbrev pub kind_takes_key : OpKind → Bool
kind_takes_key (op.Command k) = command_takes_key k
kind_takes_key (op.Query k) = false
kind_takes_key op.Load = false

-- these fields stand there, and no other key, but `key` where it may
unfoldable pub stand_alone : Carrier → Bool → List (List ℕ × FieldKind) → Data → Result Bool Refusal
stand_alone carrier takes fs d = do
  stand ← all_stand fs d
  no_other (known_keys carrier takes fs) (as_object d)

-- the op of a kind, whose fields have their forms
unfoldable pub op_in : OpKind → Data → Result Op Refusal
op_in k d = do
  fields ← all_forms (row_of k).fields d
  ok_or (made k fields) (BadRequest [])

-- what an object asks whose op is of a kind, and its key: the key stands in front of the fields
unfoldable pub asked_in : Carrier → OpKind → Data → Result Asked Refusal
asked_in carrier k d = do
  text ← key_at (kind_takes_key k) d
  alone ← stand_alone carrier (kind_takes_key k) (row_of k).fields d
  key ← key_from text
  asked ← op_in k d
  Ok (record { key = key; op = asked })
