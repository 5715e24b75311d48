-- What the rows of the table of ops have: keys that differ from one another and from the line's own, and words that name their ops.
use Rattle.std.proofs.Common.{◌≡◌, Bool, true, false, List, Some, codes, refl}
use Rattle.std.specs.List.{list_all}
use Rattle.reg_ops.specs.Table.{command_row, field_kinds, kind_named}
use Rattle.reg_ops.specs.declared.field.FieldKind.{FieldKind}
use Rattle.reg_ops.specs.declared.field.FieldKind.TheVariants as kind
use Rattle.reg_ops.specs.declared.table.CommandKind.{CommandKind}
use Rattle.reg_ops.specs.declared.table.CommandKind.TheVariants as command
use Rattle.reg_ops.specs.declared.table.OpKind.TheVariants as op
use Rattle.reg_json.specs.Fields.{known_keys}
use Rattle.reg_json.specs.Ops.{command_takes_key}
use Rattle.reg_json.specs.declared.fields.Carrier.TheVariants.{Line}
use Rattle.reg_export.specs.Lines.{Keyed, has_key}
use Rattle.reg_export.specs.Telling.{command_worded}
use Rattle.reg_export.proofs.Filling.{all_differ, all_known}

-- keys that differ from one another and from the line's own
pub record KeysFit (keyed : List Keyed) : Type 0 where
  pub one_each : all_differ keyed ≡ true
  pub no_by : has_key (codes "by") keyed ≡ false
  pub no_op : has_key (codes "op") keyed ≡ false
  pub no_key : has_key (codes "key") keyed ≡ false
  pub no_at : has_key (codes "at") keyed ≡ false
  pub no_number : has_key (codes "number") keyed ≡ false
  pub no_place : has_key (codes "place") keyed ≡ false
  pub each_known : all_known (known_keys Line true keyed) keyed ≡ true

pub keys_fit : (k : CommandKind) → KeysFit (command_row k).op.fields
unfolding known_keys
keys_fit command.Load = record { one_each = refl; no_by = refl; no_op = refl; no_key = refl; no_at = refl; no_number = refl; no_place = refl; each_known = refl }
keys_fit _ = record { one_each = refl; no_by = refl; no_op = refl; no_key = refl; no_at = refl; no_number = refl; no_place = refl; each_known = refl }

-- kinds of field that a request has
abbrev pub is_asked : FieldKind → Bool
is_asked kind.Names = false
is_asked kind.LoadRows = false
is_asked kind.Table = false
is_asked _ = true

-- kinds of field that a command has
abbrev pub is_told : FieldKind → Bool
is_told kind.Table = false
is_told _ = true

-- a request's word names the op, which may have a key, and it has all fields
pub record IsAsked (k : CommandKind) : Type 0 where
  pub named : kind_named (command_row k).op.word ≡ Some (op.Command k)
  pub keyed : command_takes_key k ≡ true
  pub kinds : list_all is_asked (field_kinds (command_row k).op) ≡ true

pub asked_row : (k : CommandKind) → (k ≡ command.Load → ⊥) → IsAsked k
unfolding kind_named
asked_row command.Load h = absurd (h refl)
asked_row _ h = record { named = refl; keyed = refl; kinds = refl }

-- a line's word names the command, and it has all fields
pub record IsLined (k : CommandKind) : Type 0 where
  pub named : command_worded (command_row k).op.word ≡ Some k
  pub kinds : list_all is_told (field_kinds (command_row k).op) ≡ true

pub told_row : (k : CommandKind) → IsLined k
unfolding command_worded
told_row command.Load = record { named = refl; kinds = refl }
told_row _ = record { named = refl; kinds = refl }
