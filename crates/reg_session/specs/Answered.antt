-- Lines that were answered: the turns from one point of a session to a later one.
use Rattle.std.specs.Prelude.{◌≡◌, ◌≢◌, ℕ, List, [], ◌∷◌, ◌++◌, All, Option, Result, map}
use Rattle.std.specs.Prelude.{option_map, length, IfSome}
use Rattle.std.specs.Io.KnownBytes.{append_known}
use Rattle.reg_outside.specs.Streams.{first_moment, later_moments}
use Rattle.reg_outside.specs.declared.sink.Sink as sink
use Rattle.reg_outside.specs.declared.clock.Clock as clock
use Rattle.reg_terms.specs.declared.command.Stamped.{Stamped}
use Rattle.reg_terms.specs.declared.refusal.Refusal.{Refusal}
use Rattle.reg_terms.specs.declared.request.Request.{Request}
use Rattle.reg_terms.specs.declared.reply.Reply.{Reply}
use Rattle.reg_terms.specs.declared.reply.Reply.TheVariants as reply
use Rattle.reg_machine.specs.History.{State}
use Rattle.reg_service.specs.Turn.{turn, Turns}
use Rattle.reg_session.specs.Lines.{readings, ended_from, pending_from}
use Rattle.reg_session.specs.Pending.{Holds}
use Rattle.reg_session.specs.Replies.{lines_of, new_numbers, places}
use Rattle.reg_session.specs.declared.pending.PendingLine.{PendingLine}

-- what was read, the moment at which it was answered, and the reply
pub record Answer : Type 0 where
  pub at : ℕ
  pub reading : Result Request Refusal
  pub told : Reply

abbrev pub moments_of : List Answer → List ℕ
moments_of answers = map (λ (a : Answer). a.at) answers

abbrev pub readings_of : List Answer → List (Result Request Refusal)
readings_of answers = map (λ (a : Answer). a.reading) answers

abbrev pub replies_of : List Answer → List Reply
replies_of answers = map (λ (a : Answer). a.told) answers

-- these answers may be given one after another, and lead to this last state
abbrev pub MayAnswer : State → List Answer → State → Type 0
MayAnswer s [] last = last ≡ s
MayAnswer s (a ∷ answers) last =
    (after : State) × Turns s a.at a.reading a.told after × MayAnswer after answers last

-- these are the moments that a clock gives, one after another, of those still to come
abbrev pub AreNext : List ℕ → List ℕ → Type 0
AreNext [] coming = Unit {0}
AreNext (at ∷ ats) coming = (at ≡ first_moment coming) × AreNext ats (later_moments coming)

-- the moments that are still to come after those
abbrev pub coming_after : List ℕ → List ℕ → List ℕ
coming_after [] coming = coming
coming_after (at ∷ ats) coming = coming_after ats (later_moments coming)

-- a clock gave these moments, where it tells what it gives
abbrev pub Gives : Option (List ℕ) → List ℕ → Option (List ℕ) → Type 0
Gives old ats new = IfSome old (AreNext ats) × (new ≡ option_map (coming_after ats) old)

-- where a session stands: what is written, the moments to come, and the state
pub record Point : Type 0 where
  pub written : Option (List ℕ)
  pub moments : Option (List ℕ)
  pub state : State

-- the point of this output, clock and state
abbrev pub point : {K C : Type 0} → sink.Ghosts K → clock.Ghosts C → K → C → State → Point
point k c out time state = record {
  written = k.written out;
  moments = c.moments time;
  state = state;
}

-- From one point to a later one these lines were answered: each that isn't skipped by one reply, at
-- the clock's next moment; and the replies were written, each with its LF.
pub record Answered (before : Point) (ls : List (List ℕ)) (after : Point) : Type 0 where
  pub answers : List Answer
  pub asked : readings_of answers ≡ readings ls
  pub given : MayAnswer before.state answers after.state
  pub times : Gives before.moments (moments_of answers) after.moments
  pub text : after.written ≡ append_known before.written (lines_of (replies_of answers))

-- bytes were taken from one point and pending line to another: the lines that they end were
-- answered
abbrev pub Feeds : Point → PendingLine → List ℕ → Point → PendingLine → Type 0
Feeds before pending taken after kept =
    (line : List ℕ) → Holds pending line
    → Holds kept (pending_from line taken) × Answered before (ended_from line taken) after

-- the replies where memory is never wanting
abbrev pub answers : State → List ℕ → List (Result Request Refusal) → List Reply
answers s coming [] = []
answers s coming (reading ∷ more) =
    (turn s (first_moment coming) reading).0
    ∷ answers (turn s (first_moment coming) reading).1 (later_moments coming) more

-- and the last state
abbrev pub last_state : State → List ℕ → List (Result Request Refusal) → State
last_state s coming [] = s
last_state s coming (reading ∷ more) =
    last_state (turn s (first_moment coming) reading).1 (later_moments coming) more

-- Lines were answered, and these commands accepted: their numbers are told in order, each as new,
-- and without want of memory the replies are one function of the state, the lines and the moments.
pub record Accepted (before : Point) (ls : List (List ℕ)) (after : Point)
    (accepted : List Stamped) : Type 0 where
  pub all : Answered before ls after
  pub grown : after.state.history ≡ before.state.history ++ accepted
  pub numbered : new_numbers (length before.state.history) (replies_of all.answers)
      ≡ places (length before.state.history) accepted
  pub exact : IfSome before.moments (λ coming. All (λ (told : Reply). told
      ≢ reply.NoMemory) (replies_of all.answers)
      → (replies_of all.answers ≡ answers before.state coming (readings ls))
      × (after.state ≡ last_state before.state coming (readings ls)))
