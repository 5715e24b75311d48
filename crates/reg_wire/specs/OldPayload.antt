-- The payload of a stamped command in format 1: as in format 2, but with no byte behind who gave
-- it and none of a grant's dates. It has none of a command with a key, of a union, nor of a grant
-- with a date.
use Rattle.std.specs.Prelude.{◌≡◌, ℕ, List, [], ◌∷◌, ◌++◌, ◌==◌, Bool, true, false}
use Rattle.std.specs.Prelude.{if◌then◌else◌, Option, Some, None}
use Rattle.std.specs.List.{flat_map}
use Rattle.reg_terms.specs.declared.command.Command.{Command}
use Rattle.reg_terms.specs.declared.command.Command.TheVariants.{CompositeSet, GrantAdd}
use Rattle.reg_terms.specs.declared.command.Stamped.{Stamped}
use Rattle.reg_terms.specs.declared.kinds.SetOp.TheVariants.{Union}
use Rattle.reg_ops.specs.declared.field.Field.{Field}
use Rattle.reg_ops.specs.declared.field.Field.TheVariants as field
use Rattle.reg_ops.specs.declared.table.CommandKind.TheVariants as command
use Rattle.reg_ops.specs.Parts.{◌>>=◌}
use Rattle.reg_ops.specs.Table.{code_of, command_row, fields_of}
use Rattle.reg_wire.specs.Fields.{entity_text, field_bytes, moment_bytes, optional_moment_bytes}
use Rattle.reg_wire.specs.Fields.{text_bytes}
use Rattle.reg_wire.specs.Reading.{entity_at, moment_at}
use Rattle.reg_wire.specs.Payload.{whole_command_of}

-- whether format 1 has the command: it has no union, and no date of a grant
abbrev pub is_old : Command → Bool
is_old (CompositeSet group Union left right) = false
is_old (GrantAdd object privilege holder (Some from) until) = false
is_old (GrantAdd object privilege holder None (Some until)) = false
is_old _ = true

-- the fields that format 1 has of a command
abbrev pub old_fields : Command → List Field
old_fields (GrantAdd object privilege holder from until) =
    field.Object object ∷ field.Privilege privilege ∷ field.Entity holder ∷ []
old_fields c = fields_of c

-- the bytes of a command in format 1
unfoldable pub old_command_bytes : Command → List ℕ
old_command_bytes c = code_of c ∷ flat_map field_bytes (old_fields c)

-- what format 1 leaves out behind the fields of a command of this code: of a grant that is added a
-- beginning and an end, and neither of them is told
abbrev pub left_out : ℕ → List ℕ
left_out code =
    if code == (command_row command.GrantAdd).code
    then optional_moment_bytes None ++ optional_moment_bytes None else []

-- what format 1 leaves out behind the fields of a command
abbrev pub dates_left_out : Command → List ℕ
dates_left_out c = left_out (code_of c)

-- what format 1 leaves out behind the bytes of a command
abbrev pub left_out_behind : List ℕ → List ℕ
left_out_behind [] = []
left_out_behind (code ∷ rest) = left_out code

-- a stamped command that has a payload of format 1, where it is writable
pub record IsOld (stamped : Stamped) : Type 0 where
  pub key : stamped.key ≡ None
  pub command : is_old stamped.command ≡ true

-- the bytes of a stamped command in format 1
unfoldable pub old_payload : Stamped → List ℕ
old_payload stamped =
    moment_bytes stamped.at ++ (text_bytes (entity_text stamped.by)
    ++ old_command_bytes stamped.command)

-- the command of format 1 that the bytes are, all of them
unfoldable pub old_command_of : List ℕ → Option Command
old_command_of bytes = do
  command ← whole_command_of (bytes ++ left_out_behind bytes)
  if is_old command then Some command else None

-- the stamped command of a moment and what is behind it in format 1, all of it
unfoldable pub old_stamped_at : ℕ → List ℕ → Option Stamped
old_stamped_at moment bytes = do
  by ← entity_at bytes
  command ← old_command_of by.1
  Some (record { at = moment; by = by.0; key = None; command = command })

-- the stamped command whose payload of format 1 the bytes are, if they are one
unfoldable pub stamped_of_old : List ℕ → Option Stamped
stamped_of_old bytes = do
  moment ← moment_at bytes
  old_stamped_at moment.0 moment.1
