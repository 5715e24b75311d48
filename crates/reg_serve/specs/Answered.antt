-- Messages that were answered: from one point of a connection to a later one.
use Rattle.std.specs.Prelude.{◌≡◌, ℕ, List, [], ◌∷◌, ◌++◌, Option, Result, map, unwrap_or, true}
use Rattle.std.specs.Io.KnownBytes.{append_known}
use Rattle.reg_outside.specs.Streams.{WritesFront}
use Rattle.reg_terms.specs.declared.command.Stamped.{Stamped}
use Rattle.reg_terms.specs.declared.refusal.Refusal.{Refusal}
use Rattle.reg_terms.specs.declared.request.Request.{Request}
use Rattle.reg_terms.specs.declared.reply.Reply.{Reply}
use Rattle.reg_terms.specs.declared.reply.Reply.TheVariants as reply
use Rattle.reg_machine.specs.History.{State}
use Rattle.reg_keep.specs.declared.keeper.Keeper.{Ghosts}
use Rattle.reg_service.specs.Kept.{KeptOn, KeepsNext, Began}
use Rattle.reg_service.specs.Turn.{turn, Turns, last_reply}
use Rattle.reg_service.specs.declared.service.Cause.{Cause}
use Rattle.reg_service.specs.declared.service.Next.{Next}
use Rattle.reg_service.specs.declared.service.Next.TheVariants as next
use Rattle.reg_session.specs.Answered.{Point, Gives}
use Rattle.reg_session.specs.Replies.{is_accepted, IsShown}
use Rattle.reg_http.specs.declared.call.Call.{Call}
use Rattle.reg_calls.specs.Asked.{asked_of, closes}
use Rattle.reg_calls.specs.Faults.{no_route, no_method, no_caller_header}
use Rattle.reg_calls.specs.Reading.{reading_of}
use Rattle.reg_calls.specs.Responses.{response_to}
use Rattle.reg_calls.specs.declared.asked.Asked.{Asked}
use Rattle.reg_calls.specs.declared.asked.Asked.TheVariants as asks
use Rattle.reg_serve.specs.declared.ended.Ended.{Ended}
use Rattle.reg_serve.specs.declared.ended.Ended.TheVariants as ended

-- a message is refused at once, or it is read
pub data Question : Type 0 where
  refuses : Refusal → Question
  reads : Result Request Refusal → Question

abbrev pub question_by : Asked → Call → Question
question_by asks.NoRoute call = refuses no_route
question_by (asks.NoMethod r) call = refuses no_method
question_by asks.NoCaller call = refuses no_caller_header
question_by (asks.Routed r) call = reads (reading_of r (unwrap_or call.caller []) call)

abbrev pub question_of : Call → Question
question_of call = question_by (asked_of call) call

-- a reply that may be given, the moments that were taken for it, and the state after it; a message
-- that is refused at once takes no moment and changes nothing
abbrev pub MayReply : State → Question → List ℕ → Reply → State → Type 0
MayReply s (refuses r) at told after = (at ≡ []) × (after ≡ s) × IsShown (reply.Refused r) told
MayReply s (reads reading) at told after = (m : ℕ) × (at ≡ m ∷ []) × Turns s m reading told after

-- a message, the moments that were taken for it, and the reply
pub record Answer : Type 0 where
  pub call : Call
  pub at : List ℕ
  pub told : Reply

-- these answers may be given one after another, and lead to this last state
abbrev pub MayAnswer : State → List Answer → State → Type 0
MayAnswer s [] last = last ≡ s
MayAnswer s (a ∷ answers) last =
    (after : State) × MayReply s (question_of a.call) a.at a.told after
    × MayAnswer after answers last

abbrev pub calls_of : List Answer → List Call
calls_of answers = map (λ (a : Answer). a.call) answers

-- the moments that were taken, in order
abbrev pub times_of : List Answer → List ℕ
times_of [] = []
times_of (a ∷ answers) = a.at ++ times_of answers

-- the responses, one behind the other
abbrev pub responses_of : List Answer → List ℕ
responses_of [] = []
responses_of (a ∷ answers) =
    response_to (asked_of a.call) (closes a.call) a.told ++ responses_of answers

-- From one point to a later one these messages were answered: each by one reply, at the clock's
-- next moment where it takes one; and the responses were written.
pub record Answered (before : Point) (calls : List Call) (after : Point) : Type 0 where
  pub answers : List Answer
  pub asked_by : calls_of answers ≡ calls
  pub given : MayAnswer before.state answers after.state
  pub times : Gives before.moments (times_of answers) after.moments
  pub text : after.written ≡ append_known before.written (responses_of answers)

-- the history to which a message leads, at the moments that are taken for it, where it is carried
-- out
abbrev pub LeadsTo : State → Question → List ℕ → List Stamped → Type 0
LeadsTo s (refuses r) at expected = (at ≡ []) × (expected ≡ s.history)
LeadsTo s (reads reading) at expected =
    (m : ℕ) × (at ≡ m ∷ []) × (expected ≡ (turn s m reading).1.history)

-- What follows a question: the service goes on after a reply, or stops for a cause; and what is
-- kept then.
abbrev pub Answers : {K : Type 0} → Ghosts K → K → (old new : Option (List ℕ)) → State → Question
    → Reply × Next K → Type 0
Answers g keeper old new s q (told, next.Go after) =
    (at : List ℕ) × Gives old at new × MayReply s q at told after.state
    × KeptOn g s.history keeper after.state.history after.keeper
Answers g keeper old new s q (told, next.Stop why last) =
    (told ≡ last_reply why) × ((at : List ℕ) × Gives old at new
    × ((expected : List Stamped) × LeadsTo s q at expected
    × KeepsNext g s.history expected keeper (next.Stop why last)))

-- Where a connection leaves the registry: it goes on in a state; or the service stopped for a
-- cause, and its keeper may have this history.
pub data Outcome : Type 0 where
  goes : State → Outcome
  stops : Cause → List Stamped → Outcome

-- a message was answered, and a front of the response was written
pub record Breaks (before : Point) (call : Call) (written moments : Option (List ℕ))
    (after : State) : Type 0 where
  pub at : List ℕ
  pub told : Reply
  pub times : Gives before.moments at moments
  pub given : MayReply before.state (question_of call) at told after
  pub front : WritesFront before.written written (response_to (asked_of call) (closes call) told)

-- the response to a message that asked this, at which the service stopped: it says for what, and
-- that the connection closes
abbrev pub last_response : Asked → Cause → List ℕ
last_response a why = response_to a true (last_reply why)

-- The service stopped at a message, and a front of the last response was written. The keeper has
-- the history from before, or after a fault perhaps that to which the message leads.
pub record StopsAt (before : Point) (call : Call) (written moments : Option (List ℕ)) (why : Cause)
    (after : List Stamped) : Type 0 where
  pub at : List ℕ
  pub times : Gives before.moments at moments
  pub front : WritesFront before.written written (last_response (asked_of call) why)
  pub expected : List Stamped
  pub leads : LeadsTo before.state (question_of call) at expected
  pub began : Began why before.state.history expected after

-- How a connection ends at a message: that was answered whole and closes it; or not whole, for a
-- write that failed; or an accepted command's reply found no memory, and nothing of it was written;
-- or the service stopped, and said so whole, or not whole for a write that failed.
abbrev pub CallEnds : Point → Call → (written moments : Option (List ℕ)) → Ended → Outcome → Type 0
CallEnds p call w ms ended.Closed (goes s) =
    (closes call ≡ true) × Answered p (call ∷ []) (record { written = w; moments = ms; state = s })
CallEnds p call w ms ended.Failed (goes s) = Breaks p call w ms s
CallEnds p call w ms ended.NoMemory (goes s) =
    (b : Breaks p call w ms s) × (is_accepted b.told ≡ true) × (w ≡ p.written)
CallEnds p call w ms ended.Stopped (stops why after) =
    StopsAt p call w ms why after × (w ≡ append_known p.written (last_response (asked_of call) why))
CallEnds p call w ms ended.Failed (stops why after) = StopsAt p call w ms why after
CallEnds p call w ms ended.Closed (stops why after) = ⊥
CallEnds p call w ms ended.NoMemory (stops why after) = ⊥
CallEnds p call w ms ended.Stopped (goes s) = ⊥
CallEnds p call w ms ended.Silent to = ⊥
CallEnds p call w ms ended.Bad to = ⊥
CallEnds p call w ms ended.TooMuch to = ⊥
