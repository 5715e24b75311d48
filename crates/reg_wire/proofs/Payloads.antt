-- Each stamped command that is writable has one payload, and each payload is of one stamped command.
use Rattle.std.proofs.Common.{◌≡◌, ℕ, ◌+◌, ◌*◌, ◌^◌, ◌<◌, ◌≤◌, zero, suc, true, cond, eqb, List, [], ◌∷◌, ◌++◌, length, Option, Some, None, refl, sym, ap, subst, ◌∙◌, append-nil, arith, lit≤}
use Rattle.std.specs.List.{list_all, flat_map}
use Rattle.std.proofs.lemmas.Bool.{and_parts, eqb-true}
use Rattle.std.proofs.lemmas.List.{length-append, nil_from_length}
use Rattle.std.proofs.lemmas.Option.{cond_some, same_Some}
use Rattle.reg_base.specs.declared.entity.Entity.{Entity}
use Rattle.reg_terms.specs.declared.command.Command.{Command}
use Rattle.reg_terms.specs.declared.command.Command.TheVariants.{Load}
use Rattle.reg_terms.specs.declared.command.Stamped.{Stamped}
use Rattle.reg_terms.specs.declared.kinds.DefKind.{DefKind}
use Rattle.reg_terms.specs.declared.kinds.DefKind.TheVariants.{Marker, Integer, Text, Timestamp}
use Rattle.reg_terms.specs.declared.kinds.InheritKind.{InheritKind}
use Rattle.reg_terms.specs.declared.kinds.InheritKind.TheVariants.{Folder, Group, Definition}
use Rattle.reg_terms.specs.declared.kinds.Scope.{Scope}
use Rattle.reg_terms.specs.declared.kinds.Scope.TheVariants.{One, Sub}
use Rattle.reg_terms.specs.declared.kinds.SetOp.{SetOp}
use Rattle.reg_terms.specs.declared.kinds.SetOp.TheVariants.{Intersection, Complement, Union}
use Rattle.reg_terms.specs.declared.kinds.Value.{Value}
use Rattle.reg_terms.specs.declared.kinds.Value.TheVariants as value
use Rattle.reg_ops.specs.declared.field.Field.{Field}
use Rattle.reg_ops.specs.declared.field.Field.TheVariants as field
use Rattle.reg_ops.specs.Forms.{is_moment, is_entity, is_field, is_value, has_form, key_fits, takes_key}
use Rattle.reg_ops.specs.Parts.{◌>>=◌}
use Rattle.reg_ops.specs.Table.{fields_of, code_of}
use Rattle.reg_wire.specs.Fields.{entity_text, key_bytes, moment_bytes, field_bytes}
use Rattle.reg_wire.specs.Reading.{moment_at, entity_at, key_at, command_of}
use Rattle.reg_wire.specs.Payload.{listed, AreFew, fields_bytes, command_bytes, IsWritable, payload, whole_command_of, stamped_at, stamped_of}
use Rattle.reg_wire.proofs.Texts.{name_short, folder_short, extension_short, source_short, display_short}
use Rattle.reg_wire.proofs.Exact.{bind_some, moment_exact}
use Rattle.reg_wire.proofs.Entities.{entity_short, entity_bytes, entity_exact}
use Rattle.reg_wire.proofs.Objects.{object_short}
use Rattle.reg_wire.proofs.Keys.{writable_key, key_short, key_exact}
use Rattle.reg_wire.proofs.LoadLists.{names_short, load_rows_short}
use Rattle.reg_wire.proofs.Commands.{TableMakes, TableParts, command_takes, command_again}

-- ---- a payload is read again

-- what stands behind the moment
abbrev behind_bytes : Stamped → List ℕ
behind_bytes stamped = entity_bytes stamped.by ++ (key_bytes stamped.key ++ command_bytes stamped.command)

pub whole_again : TableParts → (command : Command) → has_form command ≡ true → whole_command_of (command_bytes command) ≡ Some command
unfolding whole_command_of
whole_again table command form =
    let behind : command_of (command_bytes command) ≡ Some (command, []) = ap command_of (sym (append-nil (command_bytes command))) ∙ command_again table command [] form in
    rw behind refl

stamped_again : TableParts → (stamped : Stamped) → IsWritable stamped → stamped_at stamped.at (behind_bytes stamped) ≡ Some stamped
unfolding stamped_at
stamped_again table stamped h =
    rw (entity_exact.again stamped.by (key_bytes stamped.key ++ command_bytes stamped.command) h.caller, key_exact.again stamped.key (command_bytes stamped.command) (writable_key stamped h), whole_again table stamped.command h.command, h.key) refl

-- the payload of a writable command reads back as that command
pub reads_back : TableParts → (stamped : Stamped) → IsWritable stamped → stamped_of (payload stamped) ≡ Some stamped
unfolding payload stamped_of
reads_back table stamped h =
    rw (moment_exact.again stamped.at (behind_bytes stamped) h.moment) (stamped_again table stamped h)

-- ---- what is read is a payload

record IsBehind (moment : ℕ) (bytes : List ℕ) (stamped : Stamped) : Type 0 where
  pub at_moment : stamped.at ≡ moment
  pub parts : bytes ≡ behind_bytes stamped
  pub by : is_entity stamped.by ≡ true
  pub key : key_fits (takes_key stamped.command) stamped.key ≡ true
  pub form : has_form stamped.command ≡ true

pub whole_takes : TableMakes → (bytes : List ℕ) (command : Command) → whole_command_of bytes ≡ Some command → (bytes ≡ command_bytes command) × (has_form command ≡ true)
unfolding whole_command_of
whole_takes table bytes command e =
    let c = bind_some (command_of bytes) (λ found. cond (eqb (length found.1) 0) (Some found.0) None) command e in
    let g = cond_some (eqb (length c.0.1) 0) c.0.0 command c.2 in
    let nothing : c.0.1 ≡ [] = nil_from_length c.0.1 (eqb-true _ _ g.0) in
    let r = command_takes table bytes c.0 c.1 in
    let parts : bytes ≡ command_bytes c.0.0 = r.0 ∙ ap (λ (l : List ℕ). command_bytes c.0.0 ++ l) nothing ∙ append-nil (command_bytes c.0.0) in
    subst (λ (found : Command). (bytes ≡ command_bytes found) × (has_form found ≡ true)) g.1 (parts, r.1)

abbrev made_of : ℕ → Entity → Option (List ℕ) → Command → Stamped
made_of moment by key command = record { at = moment; by = by; key = key; command = command }

-- what is read behind the key, if the key fits it
abbrev keyed : ℕ → Entity → Option (List ℕ) → Command → Option Stamped
keyed moment by key command = cond (key_fits (takes_key command) key) (Some (made_of moment by key command)) None

stamped_takes : TableMakes → (moment : ℕ) (bytes : List ℕ) (stamped : Stamped) → stamped_at moment bytes ≡ Some stamped → IsBehind moment bytes stamped
unfolding stamped_at
stamped_takes table moment bytes stamped e =
    let a = bind_some (entity_at bytes) (λ by. key_at by.1 >>= λ key. whole_command_of key.1 >>= λ command. keyed moment by.0 key.0 command) stamped e in
    let k = bind_some (key_at a.0.1) (λ key. whole_command_of key.1 >>= λ command. keyed moment a.0.0 key.0 command) stamped a.2 in
    let c = bind_some (whole_command_of k.0.1) (λ command. keyed moment a.0.0 k.0.0 command) stamped k.2 in
    let found : Stamped = made_of moment a.0.0 k.0.0 c.0 in
    let g = cond_some (key_fits (takes_key c.0) k.0.0) found stamped c.2 in
    let p = entity_exact.takes bytes a.0 a.1 in
    let q = key_exact.takes a.0.1 k.0 k.1 in
    let r = whole_takes table k.0.1 c.0 c.1 in
    let last : a.0.1 ≡ key_bytes k.0.0 ++ command_bytes c.0 = q.0 ∙ ap (λ (l : List ℕ). key_bytes k.0.0 ++ l) r.0 in
    subst (IsBehind moment bytes) g.1 (record {
      at_moment = refl;
      parts = p.0 ∙ ap (λ (l : List ℕ). entity_bytes a.0.0 ++ l) last;
      by = p.1;
      key = g.0;
      form = r.1;
    })

-- what is read is writable, and the bytes are its payload
pub one_payload : TableMakes → (bytes : List ℕ) (stamped : Stamped) → stamped_of bytes ≡ Some stamped → (payload stamped ≡ bytes) × IsWritable stamped
unfolding payload stamped_of
one_payload table bytes stamped e =
    let m = bind_some (moment_at bytes) (λ moment. stamped_at moment.0 moment.1) stamped e in
    let t = moment_exact.takes bytes m.0 m.1 in
    let s = stamped_takes table m.0.0 m.0.1 stamped m.2 in
    let good : is_moment stamped.at ≡ true = ap is_moment s.at_moment ∙ t.1 in
    let whole : bytes ≡ moment_bytes stamped.at ++ behind_bytes stamped = t.0 ∙ ap (λ (l : List ℕ). moment_bytes m.0.0 ++ l) s.parts ∙ ap (λ (n : ℕ). moment_bytes n ++ behind_bytes stamped) (sym s.at_moment) in
    (sym whole, record { moment = good; caller = s.by; key = s.key; command = s.form })

-- bytes are read as nothing only where they are the payload of no writable command
pub no_payload : TableParts → (bytes : List ℕ) → stamped_of bytes ≡ None → (stamped : Stamped) → IsWritable stamped → payload stamped ≡ bytes → ⊥
no_payload table bytes e stamped h same =
    let read : stamped_of bytes ≡ Some stamped = ap stamped_of (sym same) ∙ reads_back table stamped h in
    cc

-- ---- payloads are short

moment_short : (moment : Option ℕ) → length (field_bytes (field.OptionalMoment moment)) ≤ 1008
moment_short None = lit≤ tt
moment_short (Some moment) = lit≤ tt

set_op_short : (kind : SetOp) → length (field_bytes (field.SetOp kind)) ≤ 1008
set_op_short Intersection = lit≤ tt
set_op_short Complement = lit≤ tt
set_op_short Union = lit≤ tt

inherit_kind_short : (kind : InheritKind) → length (field_bytes (field.InheritKind kind)) ≤ 1008
inherit_kind_short Folder = lit≤ tt
inherit_kind_short Group = lit≤ tt
inherit_kind_short Definition = lit≤ tt

scope_short : (scope : Scope) → length (field_bytes (field.Scope scope)) ≤ 1008
scope_short One = lit≤ tt
scope_short Sub = lit≤ tt

def_kind_short : (kind : DefKind) → length (field_bytes (field.DefKind kind)) ≤ 1008
def_kind_short Marker = lit≤ tt
def_kind_short Integer = lit≤ tt
def_kind_short Text = lit≤ tt
def_kind_short Timestamp = lit≤ tt

value_short : (v : Value) → is_value v ≡ true → length (field_bytes (field.Value v)) ≤ 1008
value_short (value.Int number) h = lit≤ tt
value_short (value.Text text) h = omega (arith, display_short text h)

-- how many names and rows a field lists
abbrev items_in : Field → ℕ
items_in (field.Names names) = length names
items_in (field.LoadRows rows) = length rows
items_in _ = 0

-- a field has at most 1,008 bytes, and 1,101 for each name or row that it lists
field_short : (f : Field) → is_field f ≡ true → length (field_bytes f) ≤ 1008 + 1101 * items_in f
field_short (field.Name text) h = omega (arith, name_short text h)
field_short (field.Folder text) h = omega (arith, folder_short text h)
field_short (field.Extension text) h = omega (arith, extension_short text h)
field_short (field.Source text) h = omega (arith, source_short text h)
field_short (field.Display text) h = omega (arith, display_short text h)
field_short (field.Entity entity) h = omega (arith, entity_short entity h)
field_short (field.Object text) h = omega (arith, object_short text h)
field_short (field.OptionalMoment moment) h = moment_short moment
field_short (field.SetOp kind) h = set_op_short kind
field_short (field.InheritKind kind) h = inherit_kind_short kind
field_short (field.Scope scope) h = scope_short scope
field_short (field.Privilege privilege) h = lit≤ tt
field_short (field.Owners owners) h = lit≤ tt
field_short (field.Flag flag) h = lit≤ tt
field_short (field.DefKind kind) h = def_kind_short kind
field_short (field.Value v) h = value_short v h
field_short (field.Number value least most) h = lit≤ tt
field_short (field.Names names) h = omega (arith, names_short names h)
field_short (field.LoadRows rows) h = omega (arith, load_rows_short rows h)
field_short (field.Table table) h = lit≤ tt

-- how many all of some fields list
abbrev items_of : List Field → ℕ
items_of [] = 0
items_of (f ∷ fs) = items_in f + items_of fs

fields_short : (fs : List Field) → list_all is_field fs ≡ true → length (flat_map field_bytes fs) ≤ 1008 * length fs + 1101 * items_of fs
fields_short [] h = lit≤ tt
fields_short (f ∷ fs) h =
    let both = and_parts _ _ h in
    omega (arith, field_short f both.0, fields_short fs both.1, length-append (field_bytes f) (flat_map field_bytes fs))

-- the fields of a command list what the command does
fields_list : (c : Command) → items_of (fields_of c) ≡ listed c
fields_list (Load job created removed added) = omega arith
fields_list _ = refl

-- a payload has fewer than 2 ^ 32 bytes, where no load in it lists more than there may be
pub payload_short : TableParts → (stamped : Stamped) → IsWritable stamped → AreFew stamped.command → length (payload stamped) < 2 ^ 32
unfolding payload command_bytes fields_bytes has_form
payload_short table stamped h few =
    let fields = flat_map field_bytes (fields_of stamped.command) in
    let whole = code_of stamped.command ∷ fields in
    let behind = key_bytes stamped.key ++ whole in
    omega (arith, few, entity_short stamped.by h.caller, key_short stamped.key (writable_key stamped h), fields_short (fields_of stamped.command) h.command, fields_list stamped.command, (table stamped.command).few, length-append (entity_text stamped.by) behind, length-append (key_bytes stamped.key) whole)
