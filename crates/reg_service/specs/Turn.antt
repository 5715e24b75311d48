-- One request: the reply, and the registry after it.
use Rattle.std.specs.Prelude.{◌≡◌, ◌⊎◌, ℕ, List, [], ◌∷◌, ◌++◌, Option, Some, None, Result, Ok, Err}
use Rattle.std.specs.Prelude.{length, max, true, if◌then◌else◌}
use Rattle.reg_base.specs.Entities.{entity_of}
use Rattle.reg_base.specs.declared.entity.Entity.{Entity}
use Rattle.reg_terms.specs.declared.command.Command.{Command}
use Rattle.reg_terms.specs.declared.command.Stamped.{Stamped}
use Rattle.reg_terms.specs.declared.refusal.Refusal.{Refusal}
use Rattle.reg_terms.specs.declared.refusal.Refusal.TheVariants.{NoCaller, OtherCommand}
use Rattle.reg_machine.specs.History.{State, appended, facts}
use Rattle.reg_machine.specs.Refusals.{refusal}
use Rattle.reg_machine.specs.Loads.{load_outcome}
use Rattle.reg_view.specs.AtClock.{told}
use Rattle.reg_terms.specs.declared.query.Answer.{Answer}
use Rattle.reg_terms.specs.declared.request.Request.{Request}
use Rattle.reg_terms.specs.declared.request.Op.{Op}
use Rattle.reg_terms.specs.declared.request.Op.TheVariants as op
use Rattle.reg_terms.specs.declared.reply.LoadCounts.{LoadCounts}
use Rattle.reg_terms.specs.declared.reply.Reply.{Reply}
use Rattle.reg_terms.specs.declared.reply.Reply.TheVariants as reply
use Rattle.reg_ops.specs.Forms.{op_has_form, key_fits, op_takes_key}
use Rattle.reg_machine.specs.Ids.{made_id}
use Rattle.reg_machine.specs.Keys.{KeptCommand, keyed, same_command}
use Rattle.reg_service.specs.KeptAt.{IsKeptAt}
use Rattle.reg_service.specs.declared.service.Next.{Next}
use Rattle.reg_service.specs.declared.service.Next.TheVariants as next
use Rattle.reg_service.specs.declared.service.Cause.{Cause}
use Rattle.reg_service.specs.declared.service.Cause.TheVariants as cause

-- the clock moves to a moment, and never back
abbrev pub at_moment : State → ℕ → State
at_moment s m = record { history = s.history; clock = max s.clock m }

-- a command that isn't refused is appended, under its key if it has one, and answered with its
-- place in the history, and the id of what it made
abbrev pub decided : State → Entity → Option (List ℕ) → Command → Option Refusal → Reply × State
decided s by key command None = (
  reply.Number (length (appended s by key command).history)
      (made_id command (facts s.history s.clock)),
  appended s by key command,
)
decided s by key command (Some r) = (reply.Refused r, s)

-- the reply to a command under a key that its caller has: that of then, or that it was another
abbrev pub answered_again : KeptCommand → Command → Reply
answered_again k command =
    if same_command k.command command then reply.Number k.number k.id
    else reply.Refused (OtherCommand k.number)

-- what may be told of a command under a key, by what is kept under it: nothing where nothing is,
-- else the reply, or that there was no memory for it
abbrev pub MayTellAgain : Option KeptCommand → Command → Option Reply → Type 0
MayTellAgain None command told = told ≡ None
MayTellAgain (Some k) command told =
    (told ≡ Some (answered_again k command)) ⊎ (told ≡ Some reply.NoMemory)

-- an entity's command under a key, by what is kept under it: a command that is kept acts no more
abbrev pub ordered_again : State → Entity → List ℕ → Command → Option KeptCommand → Reply × State
ordered_again s by key command None =
    decided s by (Some key) command (refusal s.history s.clock by command)
ordered_again s by key command (Some k) = (answered_again k command, s)

-- an entity's command, by its key if it has one
abbrev pub ordered_by : State → Entity → Option (List ℕ) → Command → Reply × State
ordered_by s by None command =
    decided s by None command (refusal s.history s.clock by command)
ordered_by s by (Some key) command = ordered_again s by key command (keyed s.history by key)

-- the command of an entity, unless it is refused; the text of no entity is nobody's
abbrev pub ordered : State → Option Entity → Option (List ℕ) → Command → Reply × State
ordered s None key command = (reply.Refused NoCaller, s)
ordered s (Some by) key command = ordered_by s by key command

-- a load that isn't refused is the command of its plan: it is appended, and answered with its place
-- and what the plan counts
abbrev pub loaded : State → Entity → Result (Command × LoadCounts) Refusal → Reply × State
loaded s by (Ok plan) =
    (reply.Loaded (length (appended s by None plan.0).history) plan.1, appended s by None plan.0)
loaded s by (Err r) = (reply.Refused r, s)

-- an entity's load of a table for a job; the text of no entity is nobody's
abbrev pub load_ordered : State → Option Entity → List ℕ → List ℕ → Reply × State
load_ordered s None job table = (reply.Refused NoCaller, s)
load_ordered s (Some by) job table = loaded s by (load_outcome s.history s.clock by job table)

-- the reply to a query
abbrev pub answered : Result Answer Refusal → Reply
answered (Ok a) = reply.Answer a
answered (Err r) = reply.Refused r

-- the reply to what is asked at the clock, and the state after it
abbrev pub requested : State → List ℕ → Option (List ℕ) → Op → Reply × State
requested s by key (op.Command command) = ordered s (entity_of by) key command
requested s by key (op.Query query) = (answered (told s.history s.clock by query), s)
requested s by key (op.Load job table) = load_ordered s (entity_of by) job table

-- the reply to a reading at a moment, and the state after it
abbrev pub turn : State → ℕ → Result Request Refusal → Reply × State
turn s m (Err r) = (reply.Refused r, at_moment s m)
turn s m (Ok request) =
    requested (at_moment s m) request.by request.key request.op

-- there was no memory to answer: the history stays, and the clock moved or not
pub record WantsMemory (s : State) (m : ℕ) (told : Reply) (after : State) : Type 0 where
  pub fault : told ≡ reply.NoMemory
  pub history : after.history ≡ s.history
  pub clock : (after.clock ≡ s.clock) ⊎ (after.clock ≡ max s.clock m)

-- a reply that may be given to a reading, and the state after it
abbrev pub Turns : State → ℕ → Result Request Refusal → Reply → State → Type 0
Turns s m reading told after = ((told, after) ≡ turn s m reading) ⊎ WantsMemory s m told after

-- the reply of a service that stopped for this cause
abbrev pub last_reply : Cause → Reply
last_reply cause.Memory = reply.NoMemory
last_reply cause.Disk = reply.KeepFault

-- what follows at the clock: what is expected, or no memory with the state as it was
abbrev pub Carries : {K : Type 0} → State → Reply × State → Reply × Next K → Type 0
Carries s expected (told, next.Go after) =
    ((told, after.state) ≡ expected) ⊎ ((told ≡ reply.NoMemory) × (after.state ≡ s))
Carries s expected (told, next.Stop why keeper) = told ≡ last_reply why

-- what follows a reading: the service goes on after the turn, or stops for a cause
abbrev pub Follows : {K : Type 0} → State → ℕ → Result Request Refusal → Reply × Next K → Type 0
Follows s m reading (told, next.Go after) = Turns s m reading told after.state
Follows s m reading (told, next.Stop why keeper) = told ≡ last_reply why

-- the clock moved to a moment, and nothing was asked; or there was no memory to
abbrev pub MovesTo : {K : Type 0} → State → ℕ → Next K → Type 0
MovesTo s m (next.Go after) = after.state ≡ at_moment s m
MovesTo s m (next.Stop why keeper) = why ≡ cause.Memory

-- the reply to a load, by that to its command
abbrev pub counted : LoadCounts → Reply → Reply
counted counts (reply.Number n id) = reply.Loaded n counts
counted counts (reply.Loaded n other) = reply.Loaded n other
counted counts (reply.Answer a) = reply.Answer a
counted counts (reply.Refused r) = reply.Refused r
counted counts reply.NoMemory = reply.NoMemory
counted counts reply.KeepFault = reply.KeepFault

-- a new command goes into the history, at its end, and its number is its place; one that was kept
-- under its key is told of, and leaves the history as it was
abbrev pub KeepsNumber : State → ℕ → Option ℕ → State → Type 0
KeepsNumber s n id after =
    ((stamped : Stamped) × (after.history ≡ s.history ++ stamped ∷ []) × (n ≡ length after.history))
    ⊎ ((after.history ≡ s.history) × IsKeptAt n id s.history)

-- a command that is accepted goes into the history, unless it was kept before; whatever else is
-- answered leaves the history as it was
abbrev pub KeepsHistory : State → Reply → State → Type 0
KeepsHistory s (reply.Number n id) after = KeepsNumber s n id after
KeepsHistory s (reply.Loaded n counts) after =
    (stamped : Stamped) × (after.history ≡ s.history ++ stamped ∷ []) × (n ≡ length after.history)
KeepsHistory s (reply.Answer a) after = after.history ≡ s.history
KeepsHistory s (reply.Refused r) after = after.history ≡ s.history
KeepsHistory s reply.NoMemory after = after.history ≡ s.history
KeepsHistory s reply.KeepFault after = ⊥

-- the history after a request is the one before or that with one command more, and the clock
-- doesn't go back
abbrev pub GoesOn : {K : Type 0} → State → ℕ → Reply × Next K → Type 0
GoesOn s m (told, next.Go after) =
    KeepsHistory s told after.state
    × ((after.state.clock ≡ s.clock) ⊎ (after.state.clock ≡ max s.clock m))
GoesOn s m (told, next.Stop why keeper) = Unit {0}

-- the fields of what is asked have their forms, and its key, which a command alone has
pub record HasForm (request : Request) : Type 0 where
  pub fields : op_has_form request.op ≡ true
  pub key : key_fits (op_takes_key request.op) request.key ≡ true

-- a query is asked
abbrev pub IsQuery : Op → Type 0
IsQuery (op.Command command) = ⊥
IsQuery (op.Query query) = Unit {0}
IsQuery (op.Load job table) = ⊥

-- what was read asks for no change: it is refused, or a query
abbrev pub AsksNoChange : Result Request Refusal → Type 0
AsksNoChange (Ok request) = IsQuery request.op
AsksNoChange (Err r) = Unit {0}
