-- That a run keeps up: before each reply that acknowledges a command stands a mark since which
-- every image of the disk has the command.
use Rattle.std.specs.Prelude.{◌≡◌, ◌≤◌, ℕ, List, All, Some, Ok, length, take, IfSome}
use Rattle.reg_outside.specs.Marks.{Mark}
use Rattle.reg_outside.specs.Streams.{WritesFront}
use Rattle.reg_terms.specs.declared.command.Stamped.{Stamped}
use Rattle.reg_service.specs.Marks.{AtEach, IsAmong, Output, Writing, texts}
use Rattle.reg_service.specs.Opening.{opens, at_last}
use Rattle.reg_run.specs.Crash.{Seen}

-- the file opens to a front of this history that has the command of this number, counted from 1
abbrev pub HasCommand : ℕ → List Stamped → List ℕ → Type 0
HasCommand number history file =
    (n : ℕ) × (number ≤ n) × (n ≤ length history) × (opens file ≡ Ok (at_last (take n history)))

-- The command of this number is kept from a mark on: the mark was set before this place of the
-- output, at a moment of the disk, and each image at that moment or later has the command.
pub record IsKept (d : Seen) (history : List Stamped) (marks : List Mark) (at number : ℕ)
    : Type 0 where
  pub there : number ≤ length history
  pub mark : Mark
  pub set : IsAmong mark marks
  pub written : ℕ
  pub known : mark.written ≡ Some written
  pub ahead : written ≤ at
  pub past : mark.moment ≤ d.moment
  pub has : (c : List ℕ) → d.since_moment mark.moment c → HasCommand number history c

-- Only replies were written from one state of an output to a later one, of which the last may be
-- cut short, and each command that one of them acknowledges is kept from a mark on that was set
-- before the reply's first byte.
pub record KeepsUp (d : Seen) (history : List Stamped) (IsReply : Writing → Type 0)
    (old new : Output) : Type 0 where
  pub writings : List Writing
  pub replies : All IsReply writings
  pub text : WritesFront old.written new.written (texts writings)
  pub kept : IfSome old.written (λ bytes. IfSome new.marks
      (λ ms. AtEach (IsKept d history ms) (length bytes) writings))

-- the same where the disk tells its bytes
abbrev pub DiskKeepsUp : Seen → List Stamped → (Writing → Type 0) → (old new : Output) → Type 0
DiskKeepsUp d history IsReply old new = IfSome d.held (λ file. KeepsUp d history IsReply old new)
