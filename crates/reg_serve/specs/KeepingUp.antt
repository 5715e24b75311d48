-- That responses keep up: before each that acknowledges a command stands a mark since which every
-- stop leaves the command.
use Rattle.std.specs.Prelude.{◌≡◌, ◌⊎◌, List, ℕ, All, Bool, Option}
use Rattle.reg_outside.specs.Connections.{Connections, Seen}
use Rattle.reg_terms.specs.declared.command.Stamped.{Stamped}
use Rattle.reg_terms.specs.declared.reply.Reply.{Reply}
use Rattle.reg_machine.specs.History.{State}
use Rattle.reg_keep.specs.declared.keeper.Keeper.{Ghosts}
use Rattle.reg_service.specs.Marks.{KeepsUp, KeepsUpInPart, Output, Writing, number_of}
use Rattle.reg_service.specs.Opening.{Served}
use Rattle.reg_service.specs.declared.service.Next.{Next}
use Rattle.reg_service.specs.declared.service.Next.TheVariants as next
use Rattle.reg_session.specs.Answered.{Point}
use Rattle.reg_http.specs.Turns.{Reading}
use Rattle.reg_http.specs.declared.call.Turn.{Turn}
use Rattle.reg_calls.specs.Responses.{response_to, fault_response}
use Rattle.reg_calls.specs.declared.asked.Asked.{Asked}
use Rattle.reg_serve.specs.Answered.{Outcome, goes, stops}
use Rattle.reg_serve.specs.Keeping.{EndsTurnsOf, ReadLeaves, SessionOf, SessionRests, TurnLeaves}
use Rattle.reg_serve.specs.Visits.{GivesBack, Visit}
use Rattle.reg_serve.specs.declared.ended.Ended.{Ended}

-- what is written for a reply: the response to a message, or to a head that isn't taken, with the
-- number that the reply tells
pub record IsResponse (w : Writing) : Type 0 where
  pub told : Reply
  pub numbered : w.number ≡ number_of told
  pub text : ((a : Asked) × (close : Bool) × (w.text ≡ response_to a close told))
      ⊎ (w.text ≡ fault_response told)

-- responses were written, and the service goes on, with a history that has what they acknowledge
abbrev pub KeepsUpOn : {K : Type 0} → Ghosts K → K → Output → Output → Served K → Type 0
KeepsUpOn g first old new s = KeepsUp g IsResponse first old new s.state.history s.keeper

-- Responses were written, the last of them perhaps in part, and the connection ended: the service
-- goes on, or it stopped with this outcome.
abbrev pub KeepsUpTo : {K : Type 0} → Ghosts K → K → Output → Output → Next K → Outcome → Type 0
KeepsUpTo g first old new (next.Go s) to =
    KeepsUpInPart g IsResponse first old new s.state.history s.keeper
KeepsUpTo g first old new (next.Stop cause keeper) (goes s) = ⊥
KeepsUpTo g first old new (next.Stop cause keeper) (stops why after) =
    KeepsUpInPart g IsResponse first old new after keeper

-- what is left at a turn, and that the responses keep up with it
abbrev pub TurnKeepsUp : {K : Type 0} → Ghosts K → Point → K → Turn → Output → Output
    → Option (List ℕ) → Ended × Next K → Type 0
TurnKeepsUp g p keeper t old new moments e =
    (l : TurnLeaves g p keeper t new.written moments e) × KeepsUpTo g keeper old new e.1 l.to

-- the same of what was read
abbrev pub ReadKeepsUp : {K : Type 0} → Ghosts K → Point → K → Reading → Output → Output
    → Option (List ℕ) → Ended × Next K → Type 0
ReadKeepsUp g p keeper reading old new moments e =
    (l : ReadLeaves g p keeper reading new.written moments e) × KeepsUpTo g keeper old new e.1 l.0

-- and after messages that were answered
abbrev pub TurnsKeepUp : {K : Type 0} → Ghosts K → Point → K → Reading → Output → Output
    → Option (List ℕ) → Ended × Next K → Type 0
TurnsKeepUp g p keeper reading old new moments e =
    (l : EndsTurnsOf g p keeper reading new.written moments e)
    × KeepsUpTo g keeper old new e.1 l.to

-- a session, what is left of it, and that its responses keep up with it
abbrev pub SessionKeepsUp : {K : Type 0} → Ghosts K → Point → K → (left now : Option (List ℕ))
    → Output → Output → Option (List ℕ) → Ended × Next K → Type 0
SessionKeepsUp g p keeper left now old new moments e =
    (l : SessionOf g p keeper left now new.written moments e)
    × KeepsUpTo g keeper old new e.1 l.to

-- and what was read of it last and is no whole message
abbrev pub RestsKeepUp : {K : Type 0} → Ghosts K → Point → K → (left now : Option (List ℕ))
    → Output → Output → Option (List ℕ) → (unfinished : List ℕ) → Ended × Next K → Type 0
RestsKeepUp g p keeper left now old new moments unfinished e =
    (l : SessionRests g p keeper left now new.written moments unfinished e)
    × KeepsUpTo g keeper old new e.1 l.0.to

-- a connection's output, as it is told
abbrev pub output_seen : Seen → Output
output_seen conn = record { written = conn.written; marks = conn.marks }

-- an accepted connection was given back, and its responses keep up with what is left
abbrev pub BackKeepsUp : {K : Type 0} → Ghosts K → State → K → Option (List ℕ) → (number : ℕ)
    → Seen → (is_taken : Bool) → Option Connections → Option Connections → Option (List ℕ) → Next K
    → Type 0
BackKeepsUp g s keeper moments number came is_taken old new later n =
    (b : GivesBack g s keeper moments number came is_taken old new later n)
    × KeepsUpTo g keeper (output_seen came) (output_seen b.back) n b.to

-- what was written in each of these visits, from its coming until it was given back, keeps up with
-- this history and keeper
abbrev pub VisitsKeepUp : {K : Type 0} → Ghosts K → K → List Stamped → K → List Visit → Type 0
VisitsKeepUp g first after keeper visits =
    All (λ (v : Visit). KeepsUpInPart g IsResponse first (output_seen v.came) (output_seen v.back)
    after keeper) visits
