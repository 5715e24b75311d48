-- Why and where a session stops.
use Rattle.std.specs.Prelude.{◌≡◌, ◌⊎◌, ℕ, List, ◌∷◌, ◌++◌, Option, true, false, Result, IfSome}
use Rattle.std.specs.Io.KnownBytes.{append_known}
use Rattle.reg_outside.specs.Streams.{first_moment, WritesFront}
use Rattle.reg_terms.specs.declared.command.Stamped.{Stamped}
use Rattle.reg_terms.specs.declared.refusal.Refusal.{Refusal}
use Rattle.reg_terms.specs.declared.request.Request.{Request}
use Rattle.reg_terms.specs.declared.reply.Reply.{Reply}
use Rattle.reg_terms.specs.declared.reply.Reply.TheVariants as reply
use Rattle.reg_machine.specs.History.{State}
use Rattle.reg_json.specs.Reading.{reading_of}
use Rattle.reg_keep.specs.declared.keeper.Keeper.{Ghosts}
use Rattle.reg_service.specs.Kept.{Halted}
use Rattle.reg_service.specs.Marks.{Output, KeepsUpInPart}
use Rattle.reg_service.specs.Turn.{turn, Turns}
use Rattle.reg_service.specs.declared.service.Cause.{Cause}
use Rattle.reg_service.specs.declared.service.Cause.TheVariants as cause
use Rattle.reg_session.specs.Answered.{Point, Accepted}
use Rattle.reg_session.specs.Lines.{is_skipped}
use Rattle.reg_session.specs.Replies.{line_of, is_accepted, IsShown, IsLine}
use Rattle.reg_session.specs.declared.stop.Stop.{Stop}
use Rattle.reg_session.specs.declared.stop.Stop.TheVariants as stop

-- a service's cause as a session's
abbrev pub stop_of : Cause → Stop
stop_of cause.Memory = stop.Memory
stop_of cause.Disk = stop.Disk

-- a session stops at a line for one of these
abbrev pub IsAtLine : Stop → Type 0
IsAtLine why = (why ≡ stop.Memory) ⊎ (why ≡ stop.Disk) ⊎ (why ≡ stop.Output)

-- a reply stands whole behind what was written before, or the output failed
abbrev pub IsSaid : Reply → (old new : Option (List ℕ)) → (failed : Type 0) → Type 0
IsSaid due old new failed = (new ≡ append_known old (line_of due)) ⊎ failed

-- Why the last turn of a session was the last: the reply that was due, the history that was
-- answered, and that which may be kept. For want of memory the history stays, and the reply says so
-- (`said`); or the one command was accepted, now or before under its key, and nothing of its reply
-- stands on the output (`bare`). Where the keeper failed, the command may be kept or not, and the
-- reply says so. Where the output failed, it is kept.
abbrev pub EndsTurn : State → ℕ → Result Request Refusal → Reply → (said bare : Type 0)
    → (answered after : List Stamped) → Stop → Type 0
EndsTurn s at reading due said bare answered after stop.Memory =
    ((due ≡ reply.NoMemory) × said × (answered ≡ s.history) × (after ≡ s.history))
    ⊎ ((is_accepted due ≡ true) × bare
    × ((last : State) × Turns s at reading due last × (answered ≡ last.history)
    × (after ≡ last.history)))
EndsTurn s at reading due said bare answered after stop.Disk =
    (due ≡ reply.KeepFault) × said × (answered ≡ s.history)
    × ((after ≡ s.history) ⊎ (after ≡ (turn s at reading).1.history))
EndsTurn s at reading due said bare answered after stop.Input = ⊥
EndsTurn s at reading due said bare answered after stop.Output =
    (last : State) × Turns s at reading due last × (answered ≡ last.history)
    × (after ≡ last.history)
EndsTurn s at reading due said bare answered after stop.TooMuch = ⊥

-- The last turn: at the clock's next moment, with a front of the reply on the output, which failed
-- or not.
pub record LastTurn (mid : Point) (reading : Result Request Refusal) (written : Option (List ℕ))
    (failed : Type 0) (answered after : List Stamped) (why : Stop) : Type 0 where
  pub at : ℕ
  pub moment : IfSome mid.moments (λ coming. at ≡ first_moment coming)
  pub due : Reply
  pub shown : Reply
  pub shows : IsShown due shown
  pub front : WritesFront mid.written written (line_of shown)
  pub ends : EndsTurn mid.state at reading due (IsSaid due mid.written written failed) (written
      ≡ mid.written) answered after why

-- A session stopped at one of these lines: those before it were answered, and it had the last turn.
pub record StopsIn (before : Point) (ls : List (List ℕ)) (written : Option (List ℕ))
    (failed : Type 0) (answered after : List Stamped) (why : Stop) : Type 0 where
  pub earlier : List (List ℕ)
  pub line : List ℕ
  pub later : List (List ℕ)
  pub cut : ls ≡ earlier ++ line ∷ later
  pub asks : is_skipped line ≡ false
  pub mid : Point
  pub accepted : List Stamped
  pub all : Accepted before earlier mid accepted
  pub last : LastTurn mid (reading_of line) written failed answered after why

-- the same with its keeper, from this one on
abbrev pub HaltsIn : {K : Type 0} → Ghosts K → Point → K → List (List ℕ) → Option (List ℕ)
    → (failed : Type 0) → Stop → K → Type 0
HaltsIn g before old ls written failed why keeper =
    (h : Halted g before.state.history old keeper)
    × StopsIn before ls written failed h.answered h.after why

-- the same, and the output kept up from one state to another
abbrev pub HaltsKeepingUp : {K : Type 0} → Ghosts K → Point → K → List (List ℕ)
    → (from to : Output) → (failed : Type 0) → Stop → K → Type 0
HaltsKeepingUp g before old ls from to failed why keeper =
    (h : HaltsIn g before old ls to.written failed why keeper)
    × KeepsUpInPart g IsLine old from to h.0.after keeper
