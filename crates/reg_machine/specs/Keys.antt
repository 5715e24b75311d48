-- The keys that commands were given under: each caller has a key once, and it stands for the
-- command that was kept under it.
use Rattle.std.specs.Prelude.{◌≡◌, ℕ, suc, ◌&&◌, List, [], ◌∷◌, ◌++◌, Bool, true, false, Option}
use Rattle.std.specs.Prelude.{Some, None, codes, length, is_none, if◌then◌else◌}
use Rattle.std.specs.List.{list_any}
use Rattle.std.specs.Str.{bytes_eq}
use Rattle.reg_base.specs.declared.entity.Entity.{Entity}
use Rattle.reg_base.specs.declared.entity.Entity.TheVariants as entity
use Rattle.reg_terms.specs.declared.command.Command.{Command}
use Rattle.reg_terms.specs.declared.command.Stamped.{Stamped}
use Rattle.reg_wire.specs.Payload.{command_bytes}
use Rattle.reg_machine.specs.History.{facts}
use Rattle.reg_machine.specs.Ids.{made_id}

-- what tells a caller from all others: the text of a person or of an internal entity, a group's
-- name
abbrev pub caller_text : Entity → List ℕ
caller_text (entity.Person text) = text
caller_text (entity.Group name) = name
caller_text entity.System = codes "g:isa/GrouperSystem"
caller_text entity.Everyone = codes "g:isa/GrouperAll"

-- a key that is there and is this one
abbrev pub is_that_key : List ℕ → Option (List ℕ) → Bool
is_that_key key None = false
is_that_key key (Some other) = bytes_eq other key

-- whether a command was given by this caller under this key
abbrev pub is_keyed : Entity → List ℕ → Stamped → Bool
is_keyed by key s = bytes_eq (caller_text s.by) (caller_text by) && is_that_key key s.key

-- no caller has one key twice
abbrev pub KeysOnce : List Stamped → Type 0
KeysOnce history =
    (before after : List Stamped) (s : Stamped) (key : List ℕ) → history ≡ before ++ s ∷ after
    → s.key ≡ Some key → list_any (is_keyed s.by key) before ≡ false

-- a command that was kept under a key: its place in the history, the id of what it made, and itself
pub record KeptCommand : Type 0 where
  pub number : ℕ
  pub id : Option ℕ
  pub command : Command

-- the command that follows these, as it is kept
abbrev pub kept_after : List Stamped → Stamped → KeptCommand
kept_after before s = record {
  number = suc (length before);
  id = made_id s.command (facts before s.at);
  command = s.command;
}

-- its number, the id of what it made, and its bytes
abbrev pub as_found : KeptCommand → ℕ × Option ℕ × List ℕ
as_found k = (k.number, k.id, command_bytes k.command)

-- the first of some commands that a caller gave under a key, which follow these
abbrev pub keyed_from : List Stamped → List Stamped → Entity → List ℕ → Option KeptCommand
keyed_from before [] by key = None
keyed_from before (s ∷ ss) by key =
    if is_keyed by key s then Some (kept_after before s)
    else keyed_from (before ++ s ∷ []) ss by key

-- the command of a history that a caller gave under a key, if there is one
unfoldable pub keyed : List Stamped → Entity → List ℕ → Option KeptCommand
keyed history by key = keyed_from [] history by key

-- whether a caller has no command under this key, where there is one
abbrev pub is_free : List Stamped → Entity → Option (List ℕ) → Bool
is_free history by None = true
is_free history by (Some key) = is_none (keyed history by key)

-- whether two commands are equal, which is that they have the same bytes
abbrev pub same_command : Command → Command → Bool
same_command a b = bytes_eq (command_bytes a) (command_bytes b)

-- whether a command was kept, and has these bytes
abbrev pub is_kept_as : Option KeptCommand → List ℕ → Bool
is_kept_as None bytes = false
is_kept_as (Some k) bytes = bytes_eq (command_bytes k.command) bytes
