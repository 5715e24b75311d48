-- The payload of a stamped command in format 2: its moment, who gave it, its key if it has one, its
-- op's code and its fields, one behind the other.
use Rattle.std.specs.Prelude.{◌≡◌, ◌≤◌, ◌+◌, ◌==◌, ℕ, List, ◌∷◌, ◌++◌, true, if◌then◌else◌, length}
use Rattle.std.specs.Prelude.{Option, Some, None}
use Rattle.std.specs.List.{flat_map}
use Rattle.reg_terms.specs.declared.command.Command.{Command}
use Rattle.reg_terms.specs.declared.command.Command.TheVariants.{Load}
use Rattle.reg_terms.specs.declared.command.Stamped.{Stamped}
use Rattle.reg_ops.specs.Forms.{is_moment, is_entity, has_form, key_fits, takes_key}
use Rattle.reg_terms.specs.Limits.{max_groups, max_records, max_rows}
use Rattle.reg_ops.specs.Parts.{◌>>=◌}
use Rattle.reg_ops.specs.Table.{fields_of, code_of}
use Rattle.reg_wire.specs.Fields.{entity_text, field_bytes, key_bytes, moment_bytes, text_bytes}
use Rattle.reg_wire.specs.Reading.{entity_at, moment_at, key_at, command_of}

-- the bytes of a command's fields
unfoldable pub fields_bytes : Command → List ℕ
fields_bytes command = flat_map field_bytes (fields_of command)

-- the bytes of a command: its code and its fields
unfoldable pub command_bytes : Command → List ℕ
command_bytes command = code_of command ∷ fields_bytes command

-- the bytes of a stamped command
unfoldable pub payload : Stamped → List ℕ
payload stamped =
    moment_bytes stamped.at ++ (text_bytes (entity_text stamped.by)
    ++ (key_bytes stamped.key ++ command_bytes stamped.command))

-- a stamped command that has a payload: its moment, who gave it, its key and each field have their
-- forms, and no load has a key
pub record IsWritable (stamped : Stamped) : Type 0 where
  pub moment : is_moment stamped.at ≡ true
  pub caller : is_entity stamped.by ≡ true
  pub key : key_fits (takes_key stamped.command) stamped.key ≡ true
  pub command : has_form stamped.command ≡ true

-- how many names and rows a load lists
abbrev pub listed : Command → ℕ
listed (Load job created removed added) = length created + length removed + length added
listed _ = 0

-- no more than the groups that may ever be made, the rows that may stand and the records that a
-- table may have
abbrev pub AreFew : Command → Type 0
AreFew command = listed command ≤ max_groups + max_rows + max_records

-- the command that the bytes are, all of them
unfoldable pub whole_command_of : List ℕ → Option Command
whole_command_of bytes = do
  command ← command_of bytes
  if length command.1 == 0 then Some command.0 else None

-- the stamped command of a moment and what is behind it, all of it
unfoldable pub stamped_at : ℕ → List ℕ → Option Stamped
stamped_at moment bytes = do
  by ← entity_at bytes
  key ← key_at by.1
  command ← whole_command_of key.1
  if key_fits (takes_key command) key.0
      then Some (record { at = moment; by = by.0; key = key.0; command = command }) else None

-- the stamped command whose payload the bytes are, if they are one
unfoldable pub stamped_of : List ℕ → Option Stamped
stamped_of bytes = do
  moment ← moment_at bytes
  stamped_at moment.0 moment.1
