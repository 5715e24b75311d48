-- Lines that are answered together: of what a read gave so many at most, a batch.
use Rattle.std.specs.Prelude.{◌≡◌, ◌==◌, ◌⊎◌, ◌≤◌, ◌^◌, ◌++◌, ℕ, List, All, Option, length}
use Rattle.std.specs.Prelude.{count_by, IfSome}
use Rattle.reg_outside.specs.Streams.{WritesFront}
use Rattle.reg_terms.specs.declared.command.Stamped.{Stamped}
use Rattle.reg_terms.specs.declared.reply.Reply.{Reply}
use Rattle.reg_terms.specs.declared.reply.Reply.TheVariants as reply
use Rattle.reg_keep.specs.declared.keeper.Keeper.{Ghosts}
use Rattle.reg_service.specs.Kept.{HaltedBy, Stopped}
use Rattle.reg_service.specs.Marks.{AtEach, KeepsUpInPart, Output, Writing, texts}
use Rattle.reg_session.specs.Answered.{Point, Accepted, replies_of}
use Rattle.reg_session.specs.Input.{EndsInput, Takes}
use Rattle.reg_session.specs.Lines.{lines, IsCutAtLineFeeds}
use Rattle.reg_session.specs.Replies.{line_of, lines_of, IsLine}
use Rattle.reg_session.specs.Stops.{IsSaid}
use Rattle.reg_session.specs.declared.stop.Stop.{Stop}
use Rattle.reg_session.specs.declared.stop.Stop.TheVariants as stop

-- how many LFs stand in these bytes
abbrev pub line_feeds : List ℕ → ℕ
line_feeds bytes = count_by (λ b. b == 10) bytes

-- these bytes are lines of replies, which tell no numbers but those of this history's commands
pub record AreReplies (history : List Stamped) (bytes : List ℕ) : Type 0 where
  pub writings : List Writing
  pub replies : All IsLine writings
  pub text : bytes ≡ texts writings
  pub numbered : AtEach (λ at n. n ≤ length history) 0 writings

-- the line of a fault was written; or the output failed, and a front of it stands there
abbrev pub SaysFault : Reply → (old new : Option (List ℕ)) → (failed : Type 0) → Type 0
SaysFault fault old new failed =
    IsSaid fault old new failed × WritesFront old new (line_of fault)

-- How a batch ends that stops a session, whose lines stand behind this point: what was written, and
-- the history that was answered and that which may be kept. For want of memory nothing of it is
-- kept, and a line says so in place of all its replies. Where the keeper failed, a front of its
-- commands may be kept, and a line says so. Where the output failed, all of them are kept, and a
-- front of its replies stands there.
abbrev pub EndsBatch : Point → List (List ℕ) → Option (List ℕ) → (failed : Type 0)
    → (answered after : List Stamped) → Stop → Type 0
EndsBatch mid batch written failed answered after stop.Memory =
    SaysFault reply.NoMemory mid.written written failed
    × (answered ≡ mid.state.history) × (after ≡ mid.state.history)
EndsBatch mid batch written failed answered after stop.Disk =
    SaysFault reply.KeepFault mid.written written failed
    × (answered ≡ mid.state.history)
    × ((to : Point) × (more : List Stamped) × Accepted mid batch to more
    × (after ≡ to.state.history))
EndsBatch mid batch written failed answered after stop.Input = ⊥
EndsBatch mid batch written failed answered after stop.Output =
    (to : Point) × (more : List Stamped) × (a : Accepted mid batch to more)
    × WritesFront mid.written written (lines_of (replies_of a.all.answers))
    × (answered ≡ to.state.history) × (after ≡ to.state.history)
EndsBatch mid batch written failed answered after stop.TooMuch = ⊥

-- A session stopped at a batch of these lines, so many of them at most: those before it were
-- answered.
pub record StopsAtBatch (most : ℕ) (before : Point) (ls : List (List ℕ))
    (written : Option (List ℕ)) (failed : Type 0) (answered after : List Stamped) (why : Stop)
    : Type 0 where
  pub earlier : List (List ℕ)
  pub batch : List (List ℕ)
  pub later : List (List ℕ)
  pub cut : ls ≡ earlier ++ (batch ++ later)
  pub few : length batch ≤ most
  pub mid : Point
  pub accepted : List Stamped
  pub all : Accepted before earlier mid accepted
  pub ends : EndsBatch mid batch written failed answered after why

-- the same with its keeper, from this one on
abbrev pub HaltsAtBatch : {K : Type 0} → ℕ → Ghosts K → Point → K → List (List ℕ)
    → Option (List ℕ) → (failed : Type 0) → Stop → K → Type 0
HaltsAtBatch most g before old ls written failed why keeper =
    (h : HaltedBy most g before.state.history old keeper)
    × StopsAtBatch most before ls written failed h.answered h.after why

-- the same, and the output kept up from one state to another
abbrev pub HaltsTogether : {K : Type 0} → ℕ → Ghosts K → Point → K → List (List ℕ)
    → (from to : Output) → (failed : Type 0) → Stop → K → Type 0
HaltsTogether most g before old ls from to failed why keeper =
    (h : HaltsAtBatch most g before old ls to.written failed why keeper)
    × KeepsUpInPart g IsLine old from to h.0.after keeper

-- Why the session over these bytes stopped, that answers up to so many lines together: as one that
-- answers each by itself, or at a batch.
abbrev pub EndsTogether : ℕ → Point → List ℕ → Option (List ℕ) → Option (List ℕ) → Option ℕ
    → (failed : Type 0) → (answered after : List Stamped) → Stop → Type 0
EndsTogether most before taken left written flushed failed answered after why =
    EndsInput before taken left written flushed failed answered after why
    ⊎ StopsAtBatch most before (lines taken) written failed answered after why

-- such a session over an input stopped, from this point and keeper on
pub record StopsTogether {K : Type 0} (most : ℕ) (g : Ghosts K) (before : Point) (old : K)
    (left now written : Option (List ℕ)) (flushed : Option ℕ) (failed : Type 0) (why : Stop)
    (keeper : K) : Type 0 where
  pub taken : List ℕ
  pub input : Takes left taken now
  pub few : length taken ≤ 2 ^ 32
  pub cut : IsCutAtLineFeeds (lines taken) taken
  pub halted : HaltedBy most g before.state.history old keeper
  pub ends : EndsTogether most before taken now written flushed failed halted.answered halted.after
      why

-- the same, and the output kept up from one state to another
abbrev pub StopsTogetherKeepingUp : {K : Type 0} → ℕ → Ghosts K → Point → K
    → (left now : Option (List ℕ)) → (from to : Output) → Option ℕ → (failed : Type 0) → Stop → K
    → Type 0
StopsTogetherKeepingUp most g before old left now from to flushed failed why keeper =
    (s : StopsTogether most g before old left now to.written flushed failed why keeper)
    × KeepsUpInPart g IsLine old from to s.halted.after keeper

-- How keeping a batch's commands and writing its replies failed. Where the keeper did, each stop
-- leaves a history from the first to the second; where the output did, the second.
abbrev pub StopsKeeping : {K : Type 0} → Ghosts K → (first second : List Stamped) → List ℕ
    → Option (List (List ℕ)) → (old new : Option (List ℕ)) → (failed : Type 0) → Stop → K → Type 0
StopsKeeping g first second replies told old new failed stop.Memory keeper = ⊥
StopsKeeping g first second replies told old new failed stop.Disk keeper =
    SaysFault reply.KeepFault old new failed × IfSome told (λ ps. Stopped g first second keeper)
StopsKeeping g first second replies told old new failed stop.Input keeper = ⊥
StopsKeeping g first second replies told old new failed stop.Output keeper =
    WritesFront old new replies × IfSome told (λ ps. Stopped g second second keeper)
StopsKeeping g first second replies told old new failed stop.TooMuch keeper = ⊥
