-- How answering an input ends.
use Rattle.std.specs.Prelude.{◌≡◌, ◌≤◌, ◌<◌, ◌^◌, ℕ, List, Option, length}
use Rattle.std.specs.Io.KnownBytes.{IsAtEnd}
use Rattle.reg_machine.specs.History.{State}
use Rattle.reg_session.specs.Input.{IsAllFlushed, Takes}
use Rattle.reg_session.specs.Lines.{IsCutAtLineFeeds, ended_from, ended_lines, lines, pending_from}
use Rattle.reg_session.specs.Pending.{Holds}
use Rattle.reg_session.specs.declared.pending.PendingLine.{PendingLine}
use Rattle.reg_session.specs.declared.stop.Stop.{Stop}
use Rattle.reg_session.specs.declared.stop.Stop.TheVariants as stop
use Rattle.reg_asof.specs.Told.{Told, ToldInPart}

-- all bytes up to the input's end were taken, fewer than 2^32, and their lines answered
pub record TellsInput (s : State) (left now old new : Option (List ℕ)) : Type 0 where
  pub taken : List ℕ
  pub input : Takes left taken now
  pub ended : IsAtEnd now
  pub few : length taken < 2 ^ 32
  pub cut : IsCutAtLineFeeds (lines taken) taken
  pub all : Told s (lines taken) old new

-- Why answering these bytes stopped. Where the input failed, or there was too much of it, the lines
-- that an LF ends were answered, and the replies flushed. Where the output failed, a front of the
-- replies was written. For want of memory it never stops.
abbrev pub EndsTelling : State → List ℕ → (old new : Option (List ℕ)) → Option ℕ → Stop → Type 0
EndsTelling s taken old new flushed stop.Memory = ⊥
EndsTelling s taken old new flushed stop.Disk = ⊥
EndsTelling s taken old new flushed stop.Input =
    Told s (ended_lines taken) old new × IsAllFlushed new flushed
EndsTelling s taken old new flushed stop.Output = ToldInPart s (lines taken) old new
EndsTelling s taken old new flushed stop.TooMuch =
    Told s (ended_lines taken) old new × IsAllFlushed new flushed × (length taken ≡ 2 ^ 32)

-- answering an input stopped, once these bytes were taken
pub record StopsTelling (s : State) (left now old new : Option (List ℕ)) (flushed : Option ℕ)
    (why : Stop) : Type 0 where
  pub taken : List ℕ
  pub input : Takes left taken now
  pub few : length taken ≤ 2 ^ 32
  pub cut : IsCutAtLineFeeds (lines taken) taken
  pub ends : EndsTelling s taken old new flushed why

-- ---- for private clauses

-- bytes were taken from one pending line to another: the lines that they end were answered
abbrev pub Tells : State → PendingLine → List ℕ → PendingLine → (old new : Option (List ℕ)) → Type 0
Tells s pending taken kept old new =
    (line : List ℕ) → Holds pending line
    → Holds kept (pending_from line taken) × Told s (ended_from line taken) old new

-- so many bytes were taken, and the lines that they end were answered
pub record HasTold (s : State) (left now old new : Option (List ℕ)) (pending kept : PendingLine)
    (count : ℕ) : Type 0 where
  pub taken : List ℕ
  pub input : Takes left taken now
  pub fed : Tells s pending taken kept old new
  pub counted : length taken ≡ count
