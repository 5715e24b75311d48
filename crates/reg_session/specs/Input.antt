-- The input of a session, and how it ends.
use Rattle.std.specs.Prelude.{◌≡◌, ◌⊎◌, ◌≤◌, ◌^◌, ◌<◌, ◌∷◌, [], ℕ, List, Option, length, option_map}
use Rattle.std.specs.Io.KnownBytes.{prepend_known, IsAtEnd}
use Rattle.reg_outside.specs.Faults.{Rose}
use Rattle.reg_terms.specs.declared.command.Stamped.{Stamped}
use Rattle.reg_keep.specs.declared.keeper.Keeper.{Ghosts}
use Rattle.reg_service.specs.Kept.{Halted}
use Rattle.reg_service.specs.Marks.{Output, KeepsUpInPart}
use Rattle.reg_session.specs.Answered.{Point, Accepted, Feeds}
use Rattle.reg_session.specs.Lines.{lines, ended_lines, IsCutAtLineFeeds}
use Rattle.reg_session.specs.Replies.{IsLine}
use Rattle.reg_session.specs.Stops.{StopsIn}
use Rattle.reg_session.specs.declared.pending.PendingLine.{PendingLine}
use Rattle.reg_session.specs.declared.stop.Stop.{Stop}
use Rattle.reg_session.specs.declared.stop.Stop.TheVariants as stop

-- these bytes were taken from the front of those left
abbrev pub Takes : Option (List ℕ) → List ℕ → Option (List ℕ) → Type 0
Takes old taken new = old ≡ prepend_known taken new

-- these lines were answered, and nothing more was begun: this is written, and this history answered
-- and kept
pub record StopsBehind (before : Point) (ls : List (List ℕ)) (written : Option (List ℕ))
    (answered after : List Stamped) : Type 0 where
  pub last : Point
  pub accepted : List Stamped
  pub all : Accepted before ls last accepted
  pub same : written ≡ last.written
  pub done : answered ≡ last.state.history
  pub kept : after ≡ last.state.history

-- All bytes up to the input's end were taken, fewer than 2^32, and their lines answered.
pub record AnswersInput (before : Point) (left now : Option (List ℕ)) (after : Point) : Type 0 where
  pub taken : List ℕ
  pub input : Takes left taken now
  pub ended : IsAtEnd now
  pub few : length taken < 2 ^ 32
  pub cut : IsCutAtLineFeeds (lines taken) taken
  pub accepted : List Stamped
  pub all : Accepted before (lines taken) after accepted

-- A session stopped at its last line, or that was answered, and the output not flushed.
abbrev pub StopsLast : {K : Type 0} → Ghosts K → Point → K → List ℕ → Option (List ℕ)
    → (failed : Type 0) → Stop → K → Type 0
StopsLast g before old line written failed why keeper =
    (h : Halted g before.state.history old keeper)
    × (StopsIn before (line ∷ []) written failed h.answered h.after why
    ⊎ ((why ≡ stop.Output) × StopsBehind before (line ∷ []) written h.answered h.after))

-- the same, and the output kept up from one state to another
abbrev pub StopsLastKeepingUp : {K : Type 0} → Ghosts K → Point → K → List ℕ → (from to : Output)
    → (failed : Type 0) → Stop → K → Type 0
StopsLastKeepingUp g before old line from to failed why keeper =
    (h : StopsLast g before old line to.written failed why keeper)
    × KeepsUpInPart g IsLine old from to h.0.after keeper

-- all that was written is flushed
abbrev pub IsAllFlushed : Option (List ℕ) → Option ℕ → Type 0
IsAllFlushed written flushed = flushed ≡ option_map length written

-- a session that stops for this flushed, and so it did, with the output's count of faults as it
-- was; or the flush failed, and it stopped for that
abbrev pub FlushesFor : (why stopped : Stop) → Option (List ℕ) → Option ℕ → (before after : ℕ)
    → Type 0
FlushesFor why stopped written flushed before after =
    ((stopped ≡ why) × IsAllFlushed written flushed × (after ≡ before))
    ⊎ ((stopped ≡ stop.Output) × Rose before after)

-- Why the session over these bytes stopped, whose output failed or not. Where the input failed, or
-- there was too much of it, the lines that an LF ends were answered, and the replies flushed. Where
-- the output failed, a reply wasn't written; or all were, up to the input's end or to where it
-- failed or there was too much of it, and not flushed. Else it stopped at a line.
abbrev pub EndsInput : Point → List ℕ → Option (List ℕ) → Option (List ℕ) → Option ℕ
    → (failed : Type 0) → (answered after : List Stamped) → Stop → Type 0
EndsInput before taken left written flushed failed answered after stop.Memory =
    StopsIn before (lines taken) written failed answered after stop.Memory
EndsInput before taken left written flushed failed answered after stop.Disk =
    StopsIn before (lines taken) written failed answered after stop.Disk
EndsInput before taken left written flushed failed answered after stop.Input =
    StopsBehind before (ended_lines taken) written answered after × IsAllFlushed written flushed
EndsInput before taken left written flushed failed answered after stop.Output =
    StopsIn before (lines taken) written failed answered after stop.Output
    ⊎ ((StopsBehind before (lines taken) written answered after × IsAtEnd left)
    ⊎ StopsBehind before (ended_lines taken) written answered after)
EndsInput before taken left written flushed failed answered after stop.TooMuch =
    StopsBehind before (ended_lines taken) written answered after × IsAllFlushed written flushed
    × (length taken ≡ 2 ^ 32)

-- a session over an input stopped, from this point and keeper on
pub record StopsInput {K : Type 0} (g : Ghosts K) (before : Point) (old : K)
    (left now written : Option (List ℕ)) (flushed : Option ℕ) (failed : Type 0) (why : Stop)
    (keeper : K) : Type 0 where
  pub taken : List ℕ
  pub input : Takes left taken now
  pub few : length taken ≤ 2 ^ 32
  pub cut : IsCutAtLineFeeds (lines taken) taken
  pub halted : Halted g before.state.history old keeper
  pub ends : EndsInput before taken now written flushed failed halted.answered halted.after why

-- the same, and the output kept up from one state to another
abbrev pub StopsInputKeepingUp : {K : Type 0} → Ghosts K → Point → K → (left now : Option (List ℕ))
    → (from to : Output) → Option ℕ → (failed : Type 0) → Stop → K → Type 0
StopsInputKeepingUp g before old left now from to flushed failed why keeper =
    (s : StopsInput g before old left now to.written flushed failed why keeper)
    × KeepsUpInPart g IsLine old from to s.halted.after keeper

-- so many bytes were taken from the first point on, and the lines that they end were answered
pub record HasTaken (left now : Option (List ℕ)) (before after : Point) (pending kept : PendingLine)
    (count : ℕ) : Type 0 where
  pub taken : List ℕ
  pub input : Takes left taken now
  pub fed : Feeds before pending taken after kept
  pub counted : length taken ≡ count
