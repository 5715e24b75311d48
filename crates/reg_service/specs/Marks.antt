-- That an output keeps up: before each reply on it that acknowledges a command stands a mark since
-- which every stop leaves the command.
use Rattle.std.specs.Prelude.{◌≡◌, ◌⊎◌, ◌≤◌, ◌+◌, ℕ, List, [], ◌∷◌, ◌++◌, All, Option, Some, None}
use Rattle.std.specs.Prelude.{Result, Ok, IfSome, length, take, option_map}
use Rattle.std.specs.Io.KnownBytes.{append_known}
use Rattle.reg_outside.specs.Marks.{Mark}
use Rattle.reg_outside.specs.Streams.{WritesFront}
use Rattle.reg_outside.specs.declared.sink.Sink as sink
use Rattle.reg_terms.specs.declared.command.Stamped.{Stamped}
use Rattle.reg_terms.specs.declared.reply.Reply.{Reply}
use Rattle.reg_terms.specs.declared.reply.Reply.TheVariants as reply
use Rattle.reg_keep.specs.declared.keeper.Keeper.{Ghosts}
use Rattle.reg_service.specs.Opening.{payloads_of}
use Rattle.reg_service.specs.declared.service.Next.{Next}
use Rattle.reg_service.specs.declared.service.Next.TheVariants as next

-- what is written for one reply: its bytes, and the number of the command that it acknowledges
pub record Writing : Type 0 where
  pub text : List ℕ
  pub number : Option ℕ

-- the texts, one behind the other
abbrev pub texts : List Writing → List ℕ
texts [] = []
texts (w ∷ ws) = w.text ++ texts ws

-- the number that a reply tells of an accepted command, be it that of a load
abbrev pub number_of : Reply → Option ℕ
number_of (reply.Number n id) = Some n
number_of (reply.Loaded n counts) = Some n
number_of (reply.Answer a) = None
number_of (reply.Refused r) = None
number_of reply.NoMemory = None
number_of reply.KeepFault = None

-- what a stop leaves: a front of this history with at least so many commands
abbrev pub LeavesAtLeast : ℕ → List Stamped → Result (List (List ℕ)) ℕ → Type 0
LeavesAtLeast n history r =
    (k : ℕ) × (n ≤ k) × (k ≤ length history) × (r ≡ Ok (payloads_of (take k history)))

-- one of these marks is this one
abbrev pub IsAmong : Mark → List Mark → Type 0
IsAmong mark [] = ⊥
IsAmong mark (m ∷ ms) = (m ≡ mark) ⊎ IsAmong mark ms

-- A command of this history, by its number, is kept from a mark on: the mark was set before this
-- place of the output, and each stop since then leaves the command with all before it.
pub record IsMarked {K : Type 0} (g : Ghosts K) (keeper : K) (history : List Stamped)
    (marks : List Mark) (at number : ℕ) : Type 0 where
  pub mark : Mark
  pub set : IsAmong mark marks
  pub written : ℕ
  pub known : mark.written ≡ Some written
  pub before : written ≤ at
  pub past : mark.moment ≤ g.keep_moment keeper
  pub there : number ≤ length history
  pub leaves : (r : Result (List (List ℕ)) ℕ) → g.stopped_since keeper mark.moment r
      → LeavesAtLeast number history r

-- this holds of each command that is acknowledged, at the place where its reply begins, the first
-- of them at this one
abbrev pub AtEach : (ℕ → ℕ → Type 0) → ℕ → List Writing → Type 0
AtEach P at [] = Unit {0}
AtEach P at (w ∷ ws) = IfSome w.number (P at) × AtEach P (at + length w.text) ws

-- each command that is acknowledged is kept from a mark on
abbrev pub AreMarked : {K : Type 0} → Ghosts K → K → List Stamped → List Mark → ℕ → List Writing
    → Type 0
AreMarked g keeper history marks at writings = AtEach (IsMarked g keeper history marks) at writings

-- an output as it is told: its bytes, and the marks that were set
pub record Output : Type 0 where
  pub written : Option (List ℕ)
  pub marks : Option (List Mark)

-- the same of a sink
abbrev pub output_of : {S : Type 0} → sink.Ghosts S → S → Output
output_of k out = record { written = k.written out; marks = k.marks out }

-- these bytes were written, all of them
abbrev pub WritesAll : Option (List ℕ) → Option (List ℕ) → List ℕ → Type 0
WritesAll old new bytes = new ≡ append_known old bytes

-- From one state of an output to a later one replies were written, in this way, and each command
-- that they acknowledge is kept from a mark on that stands before its reply. The keeper has this
-- history now; the first one is that from which on it was looked at, where it tells its payloads.
pub record KeepsUpBy (writes : Option (List ℕ) → Option (List ℕ) → List ℕ → Type 0)
    {K : Type 0} (g : Ghosts K) (IsReply : Writing → Type 0) (first : K) (old new : Output)
    (history : List Stamped) (keeper : K) : Type 0 where
  pub writings : List Writing
  pub replies : All IsReply writings
  pub text : writes old.written new.written (texts writings)
  pub more : List Mark
  pub set : new.marks ≡ option_map (λ ms. ms ++ more) old.marks
  pub marked : IfSome (g.payloads first) (λ ps. IfSome old.written (λ bytes.
      IfSome new.marks (λ ms. AreMarked g keeper history ms (length bytes) writings)))

-- whole replies were written
abbrev pub KeepsUp : {K : Type 0} → Ghosts K → (Writing → Type 0) → K → Output → Output
    → List Stamped → K → Type 0
KeepsUp g IsReply first old new history keeper =
    KeepsUpBy WritesAll g IsReply first old new history keeper

-- replies were written, or a front of them: the output failed, or there was no memory for the last
abbrev pub KeepsUpInPart : {K : Type 0} → Ghosts K → (Writing → Type 0) → K → Output → Output
    → List Stamped → K → Type 0
KeepsUpInPart g IsReply first old new history keeper =
    KeepsUpBy WritesFront g IsReply first old new history keeper

-- each stop since this moment leaves the history of a service that goes on
abbrev pub LeavesSince : {K : Type 0} → Ghosts K → ℕ → Next K → Type 0
LeavesSince g moment (next.Go s) =
    (r : Result (List (List ℕ)) ℕ) → g.stopped_since s.keeper moment r
    → r ≡ Ok (payloads_of s.state.history)
LeavesSince g moment (next.Stop why keeper) = Unit {0}

-- the reply tells no number, or that of a command of the history with which the service goes on
abbrev pub IsNumbered : {K : Type 0} → Reply → Next K → Type 0
IsNumbered told (next.Go s) = IfSome (number_of told) (λ n. n ≤ length s.state.history)
IsNumbered told (next.Stop why keeper) = number_of told ≡ None
