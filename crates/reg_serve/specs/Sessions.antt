-- A connection as a whole: which messages were answered, and how it ended.
use Rattle.std.specs.Prelude.{◌≡◌, ◌⊎◌, ◌≤◌, ◌^◌, ◌<◌, ℕ, List, [], ◌∷◌, ◌++◌, All, Bool, Option}
use Rattle.std.specs.Prelude.{None, length, true, false}
use Rattle.std.specs.Io.KnownBytes.{IsAtEnd}
use Rattle.reg_terms.specs.declared.reply.Reply.TheVariants as reply
use Rattle.reg_session.specs.Answered.{Point}
use Rattle.reg_session.specs.Input.{Takes}
use Rattle.reg_http.specs.Messages.{IsMessage, HasFault, IsUnfinished}
use Rattle.reg_http.specs.Runs.{HasGiven}
use Rattle.reg_http.specs.Turns.{Reading}
use Rattle.reg_http.specs.declared.call.Call.{Call}
use Rattle.reg_http.specs.declared.call.Turn.{Turn}
use Rattle.reg_http.specs.declared.call.Turn.TheVariants as turn
use Rattle.reg_http.specs.declared.call.HeadFault.{HeadFault}
use Rattle.reg_calls.specs.Asked.{closes}
use Rattle.reg_serve.specs.Answered.{Answered, CallEnds, Outcome, goes, stops}
use Rattle.reg_calls.specs.Faults.{refusal_of}
use Rattle.reg_serve.specs.Sent.{SentFault, SentFaultFront}
use Rattle.reg_serve.specs.declared.ended.Ended.{Ended}
use Rattle.reg_serve.specs.declared.ended.Ended.TheVariants as ended

-- nothing more was done: this is written, these moments are left, and the service goes on from the
-- same state
abbrev pub IsQuiet : Point → (written moments : Option (List ℕ)) → Outcome → Type 0
IsQuiet p w ms (goes s) = (w ≡ p.written) × (ms ≡ p.moments) × (s ≡ p.state)
IsQuiet p w ms (stops why after) = ⊥

-- How a connection ends at a head that isn't taken: the refusal, or that there was no memory to
-- print it, is the response, whole or in front; nothing else changes.
abbrev pub FaultEnds : Point → HeadFault → (written moments : Option (List ℕ)) → Ended → Outcome
    → Type 0
FaultEnds p fault w ms ended.Bad to =
    IsQuiet p p.written ms to × SentFault (reply.Refused (refusal_of fault)) p.written w
FaultEnds p fault w ms ended.Failed to =
    IsQuiet p p.written ms to × SentFaultFront (reply.Refused (refusal_of fault)) p.written w
FaultEnds p fault w ms ended.Silent to = ⊥
FaultEnds p fault w ms ended.Closed to = ⊥
FaultEnds p fault w ms ended.TooMuch to = ⊥
FaultEnds p fault w ms ended.NoMemory to = ⊥
FaultEnds p fault w ms ended.Stopped to = ⊥

-- a message is the last, or a head that isn't taken stands in its place
abbrev pub EndsAtMessage : Point → List ℕ → (written moments : Option (List ℕ)) → Ended → Outcome
    → Type 0
EndsAtMessage p rest w ms e to =
    ((call : Call) × (later : List ℕ) × IsMessage rest call later × CallEnds p call w ms e to)
    ⊎ ((fault : HeadFault) × HasFault rest fault × FaultEnds p fault w ms e to)

-- Why no more bytes were asked for a message: none came, behind fewer than 2^32 of them, and what
-- is left is no message; a read failed; 2^32 bytes were taken; or memory was wanting.
abbrev pub EndsBetween : List ℕ → Option (List ℕ) → List ℕ → Ended → Type 0
EndsBetween taken now rest ended.Silent =
    IsAtEnd now × IsUnfinished rest × (length taken < 2 ^ 32)
EndsBetween taken now rest ended.Closed = ⊥
EndsBetween taken now rest ended.Bad = ⊥
EndsBetween taken now rest ended.Failed = Unit {0}
EndsBetween taken now rest ended.TooMuch = length taken ≡ 2 ^ 32
EndsBetween taken now rest ended.NoMemory = Unit {0}
EndsBetween taken now rest ended.Stopped = ⊥

-- From a point on these bytes were taken from a connection, and this was written to it. They are
-- messages that leave it open, each answered in turn; and then it ended, at a message or between
-- two, and left the registry so.
pub record Session (before : Point) (left now written moments : Option (List ℕ)) (e : Ended)
    (to : Outcome) : Type 0 where
  pub taken : List ℕ
  pub input : Takes left taken now
  pub few : length taken ≤ 2 ^ 32
  pub calls : List Call
  pub open_still : All (λ call. closes call ≡ false) calls
  pub last : Point
  pub all : Answered before calls last
  pub reading : Reading
  pub given : HasGiven taken calls reading
  pub ends : EndsAtMessage last reading.rest written moments e to
      ⊎ (IsQuiet last written moments to × EndsBetween taken now reading.rest e)

-- a turn of the reader was taken: a message was answered and leaves the connection open, or there
-- was none
abbrev pub TurnServed : Point → Turn → Point → Bool → Type 0
TurnServed p (turn.Call call) q more =
    (closes call ≡ false) × Answered p (call ∷ []) q × (more ≡ true)
TurnServed p turn.NeedMore q more = (q ≡ p) × (more ≡ false)
TurnServed p (turn.Bad fault) q more = ⊥

-- or the connection ended at it
abbrev pub TurnFails : Point → Turn → (written moments : Option (List ℕ)) → Ended → Outcome → Type 0
TurnFails p (turn.Call call) w ms e to = CallEnds p call w ms e to
TurnFails p turn.NeedMore w ms e to = ⊥
TurnFails p (turn.Bad fault) w ms e to = FaultEnds p fault w ms e to

-- what is left of what was read: less, where a message was taken out, and else all, which is no
-- message
abbrev pub Remains : Reading → Bool → Reading → Type 0
Remains old true new = (new.fault ≡ None) × (length new.rest < length old.rest)
Remains old false new = (new.fault ≡ None) × (new ≡ old) × IsUnfinished new.rest

-- messages that leave the connection open were taken out of what was read, and answered
pub record Serves (before : Point) (old : Reading) (after : Point) (new : Reading) : Type 0 where
  pub calls : List Call
  pub open_still : All (λ call. closes call ≡ false) calls
  pub all : Answered before calls after
  pub given : (bytes : List ℕ) (done : List Call) → HasGiven bytes done old
      → HasGiven bytes (done ++ calls) new

-- a connection ended at a message of what was read, or for want of memory
abbrev pub EndsTurn : Point → Reading → (written moments : Option (List ℕ)) → Ended → Outcome
    → Type 0
EndsTurn p reading w ms e to =
    EndsAtMessage p reading.rest w ms e to ⊎ (IsQuiet p w ms to × (e ≡ ended.NoMemory))

-- after messages that were answered
pub record EndsTurns (before : Point) (old : Reading) (written moments : Option (List ℕ))
    (e : Ended) (to : Outcome) : Type 0 where
  pub last : Point
  pub reading : Reading
  pub served : Serves before old last reading
  pub ends : EndsTurn last reading written moments e to

-- so many bytes were taken from the first point on, and their messages answered
pub record HasServed (left now : Option (List ℕ)) (before after : Point) (reading : Reading)
    (count : ℕ) : Type 0 where
  pub taken : List ℕ
  pub input : Takes left taken now
  pub calls : List Call
  pub open_still : All (λ call. closes call ≡ false) calls
  pub all : Answered before calls after
  pub given : HasGiven taken calls reading
  pub counted : length taken ≡ count
