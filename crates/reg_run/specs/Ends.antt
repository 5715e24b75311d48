-- How a run ends: each end, its cause, and what was done.
use Rattle.std.specs.Prelude.{◌≡◌, ◌⊎◌, ◌<◌, ◌≤◌, ◌^◌, ◌+◌, ◌++◌, ℕ, List, [], true, false}
use Rattle.std.specs.Prelude.{Option, Some, None, Ok, Err, length, take, option_map, IfSome}
use Rattle.std.specs.Io.KnownBytes.{append_known, IsAtEnd}
use Rattle.reg_outside.specs.Faults.{Rose}
use Rattle.reg_outside.specs.declared.disk.Disk.{Ghosts}
use Rattle.reg_terms.specs.Limits.{max_line}
use Rattle.reg_terms.specs.declared.command.Stamped.{Stamped}
use Rattle.reg_terms.specs.declared.reply.Reply.TheVariants as reply
use Rattle.reg_machine.specs.History.{State}
use Rattle.reg_keep.specs.Begin.{is_taken}
use Rattle.reg_keep.specs.Frames.{begins_old, journal_bytes}
use Rattle.reg_keep.specs.declared.open.OpenFault.{OpenFault}
use Rattle.reg_keep.specs.declared.open.OpenFault.TheVariants as fault
use Rattle.reg_service.specs.Opening.{at_last}
use Rattle.reg_session.specs.Lines.{lines, IsCutAtLineFeeds}
use Rattle.reg_session.specs.Replies.{IsLine, line_of}
use Rattle.reg_session.specs.Answered.{Point, Accepted}
use Rattle.reg_session.specs.Input.{Takes, EndsInput}
use Rattle.reg_session.specs.Together.{EndsTogether}
use Rattle.reg_session.specs.declared.stop.Stop.{Stop}
use Rattle.reg_session.specs.declared.stop.Stop.TheVariants as stop
use Rattle.reg_run.specs.Crash.{Seen, seen, OpensTo, IsUntouched, DiskSurvives, DiskBegins}
use Rattle.reg_run.specs.KeepsUp.{DiskKeepsUp}
use Rattle.reg_run.specs.Status.{check_line, status_of}
use Rattle.reg_run.specs.Serving.{DidServe}
use Rattle.reg_run.specs.World.{World, IsFlushed, LookedOnce, SameClock, SameFaults}
use Rattle.reg_run.specs.World.{SameInput, SameNet, SameOutput, marked_output, output}
use Rattle.reg_sample.specs.Played.{summary, summary_text}
use Rattle.reg_run.specs.Once.{AsksOnce, IsTakenWhole, Printed, load_of}
use Rattle.reg_run.specs.Due.{Due, Replied, RepliedFront, AnswersTo, ReportsAt}
use Rattle.reg_run.specs.Providing.{DidProvision}
use Rattle.reg_run.specs.AsOf.{AnswersLines, DidAsOf, PrintsReport}
use Rattle.reg_run.specs.Listing.{DidCommands}
use Rattle.reg_run.specs.Migrating.{DidMigrate}
use Rattle.reg_run.specs.Questions.{asked_by}
use Rattle.reg_words.specs.declared.task.Task.{Task}
use Rattle.reg_words.specs.declared.task.Task.TheVariants as task
use Rattle.reg_run.specs.declared.status.End.{End}
use Rattle.reg_run.specs.declared.status.End.TheVariants as the_end

-- why the journal wasn't opened: there was no memory, the disk failed, the file is of format 1, or
-- it isn't and is damaged; the disk's count of faults changes only where it failed
abbrev pub OpenCaused : End → Option (List ℕ) → ℕ → ℕ → Type 0
OpenCaused the_end.Done held before after = ⊥
OpenCaused the_end.Usage held before after = ⊥
OpenCaused the_end.Memory held before after = after ≡ before
OpenCaused the_end.Disk held before after = Rose before after
OpenCaused the_end.Input held before after = ⊥
OpenCaused the_end.Output held before after = ⊥
OpenCaused (the_end.Damaged at) held before after =
    OpensTo held (Err at) × IfSome held (λ file. begins_old file ≡ false) × (after ≡ before)
OpenCaused the_end.Listener held before after = ⊥
OpenCaused the_end.TooMuch held before after = ⊥
OpenCaused the_end.Exists held before after = ⊥
OpenCaused the_end.Refused held before after = ⊥
OpenCaused the_end.OtherFormat held before after =
    IfSome held (λ file. begins_old file ≡ true) × (after ≡ before)

-- The journal wasn't opened: nothing was read but the disk, nothing was written, the clock not
-- looked at, and the listener not asked.
pub record NotOpened (d : Seen) (end : End) (before after : World) : Type 0 where
  pub cause : OpenCaused end before.held before.faults after.faults
  pub input : SameInput before after
  pub output : SameOutput before after
  pub clock : SameClock before after
  pub net : SameNet before after
  pub disk : IsUntouched d

-- what a run did over a journal: it wasn't opened; or it was, to a state from which this was done
abbrev pub OverJournal : Seen → (State → Type 0) → End → World → World → Type 0
OverJournal d Did end before after =
    NotOpened d end before after ⊎ ((from : State) × OpensTo before.held (Ok from) × Did from)

-- how beginning a journal ends: it was begun over a file that isn't taken; or the file is taken; or
-- the disk failed, and there alone its count of faults changes
abbrev pub InitEnds : End → Option (List ℕ) → ℕ → Option (List ℕ) → ℕ → Type 0
InitEnds the_end.Done held before new after =
    (new ≡ option_map (λ file. journal_bytes []) held) × IfSome held (λ file. is_taken file ≡ false)
    × (after ≡ before)
InitEnds the_end.Usage held before new after = ⊥
InitEnds the_end.Memory held before new after = ⊥
InitEnds the_end.Disk held before new after = Rose before after
InitEnds the_end.Input held before new after = ⊥
InitEnds the_end.Output held before new after = ⊥
InitEnds (the_end.Damaged at) held before new after = ⊥
InitEnds the_end.Listener held before new after = ⊥
InitEnds the_end.TooMuch held before new after = ⊥
InitEnds the_end.Exists held before new after =
    IfSome held (λ file. is_taken file ≡ true) × (after ≡ before)
InitEnds the_end.Refused held before new after = ⊥
InitEnds the_end.OtherFormat held before new after = ⊥

-- `init`: a journal was begun or not; beside the disk all is as it was
pub record DidInit (d : Seen) (end : End) (before after : World) : Type 0 where
  pub ends : InitEnds end before.held before.faults after.held after.faults
  pub disk : DiskBegins d (status_of end)
  pub input : SameInput before after
  pub output : SameOutput before after
  pub clock : SameClock before after
  pub net : SameNet before after

-- where a session begins
abbrev pub begins_at : World → State → Point
begins_at before from = record { written = before.written; moments = before.moments; state = from }

-- All lines of the bytes that were taken were answered, and the replies flushed; the input has
-- ended, the file opens to the last history, and no call failed.
pub record AppliedAll (from : State) (taken : List ℕ) (before after : World)
    (accepted : List Stamped) : Type 0 where
  pub to : Point
  pub all : Accepted (begins_at before from) (lines taken) to accepted
  pub written : after.written ≡ to.written
  pub moments : after.moments ≡ to.moments
  pub flushed : IsFlushed after
  pub ended : IsAtEnd after.left
  pub few : length taken < 2 ^ 32
  pub opens : OpensTo after.held (Ok (at_last to.state.history))
  pub still : SameFaults before after

-- How a session over an input may stop: from a point on, over the bytes that were taken, with what
-- is left of the input, the bytes that were written and how many of them were flushed, whether the
-- output failed, the histories that were answered and that may be kept, and why.
abbrev pub HowStopped : Type 1
HowStopped =
    Point → List ℕ → (left written : Option (List ℕ)) → (flushed : Option ℕ) → (failed : Type 0)
    → (answered after : List Stamped) → Stop → Type 0

-- the session of a run stopped so
abbrev pub StoppedSo : HowStopped → State → List ℕ → World → World → (accepted : List Stamped)
    → (answered : List Stamped) → Stop → Type 0
StoppedSo Stops from taken before after accepted answered why =
    Stops (begins_at before from) taken after.left after.written after.flushed (Rose before.writes
    after.writes) answered (from.history ++ accepted) why

-- How `apply` ends, over the bytes that it took: with its cause, and what was answered and kept.
abbrev pub ApplyEnds : HowStopped → End → State → List ℕ → World → World
    → (accepted : List Stamped) → (answered : List Stamped) → Type 0
ApplyEnds Stops the_end.Done from taken before after accepted answered =
    AppliedAll from taken before after accepted
ApplyEnds Stops the_end.Usage from taken before after accepted answered = ⊥
ApplyEnds Stops the_end.Memory from taken before after accepted answered =
    StoppedSo Stops from taken before after accepted answered stop.Memory
ApplyEnds Stops the_end.Disk from taken before after accepted answered =
    Rose before.faults after.faults
    × StoppedSo Stops from taken before after accepted answered stop.Disk
ApplyEnds Stops the_end.Input from taken before after accepted answered =
    Rose before.reads after.reads
    × StoppedSo Stops from taken before after accepted answered stop.Input
ApplyEnds Stops the_end.Output from taken before after accepted answered =
    Rose before.writes after.writes
    × StoppedSo Stops from taken before after accepted answered stop.Output
ApplyEnds Stops (the_end.Damaged at) from taken before after accepted answered = ⊥
ApplyEnds Stops the_end.Listener from taken before after accepted answered = ⊥
ApplyEnds Stops the_end.TooMuch from taken before after accepted answered =
    StoppedSo Stops from taken before after accepted answered stop.TooMuch
ApplyEnds Stops the_end.Exists from taken before after accepted answered = ⊥
ApplyEnds Stops the_end.Refused from taken before after accepted answered = ⊥
ApplyEnds Stops the_end.OtherFormat from taken before after accepted answered = ⊥

-- no call of the input, of the output and of the disk was counted as a fault
pub record NoFault (before after : World) : Type 0 where
  pub input : Rose before.reads after.reads → ⊥
  pub output : Rose before.writes after.writes → ⊥
  pub disk : Rose before.faults after.faults → ⊥

-- Status 9, exactly: where as many bytes were taken as a run takes at the most, and so before the
-- end of the input was found, and where no call failed. Without a fault and want of memory it comes
-- wherever so many were taken, and so wherever the input has so many.
pub record TooMuchExactly (end : End) (taken : List ℕ) (before after : World) : Type 0 where
  pub only : end ≡ the_end.TooMuch → (length taken ≡ 2 ^ 32) × SameFaults before after
  pub where_taken : NoFault before after → length taken ≡ 2 ^ 32
      → (end ≡ the_end.TooMuch) ⊎ (end ≡ the_end.Memory)
  pub where_given : NoFault before after
      → IfSome before.left (λ bytes. 2 ^ 32 ≤ length bytes
      → (end ≡ the_end.TooMuch) ⊎ (end ≡ the_end.Memory))

-- Lines of the input were answered from the state that the file opened to, in a session that stops
-- in one of these ways: the bytes that were taken, cut at each LF, the commands that were accepted,
-- of which all but so many at most were answered, how it ended, what it leaves of the disk, and
-- that each line of reply came behind what the disk has.
pub record DidAnswer (most : ℕ) (Stops : HowStopped) (d : Seen) (end : End) (before after : World)
    (from : State) : Type 0 where
  pub taken : List ℕ
  pub input : Takes before.left taken after.left
  pub few : length taken ≤ 2 ^ 32
  pub cut : IsCutAtLineFeeds (lines taken) taken
  pub accepted : List Stamped
  pub answered : ℕ
  pub ends : ApplyEnds Stops end from taken before after accepted (from.history
      ++ take answered accepted)
  pub too_much : TooMuchExactly end taken before after
  pub net : SameNet before after
  pub disk : DiskSurvives most d from.history accepted answered (status_of end)
  pub keeps_up : DiskKeepsUp d (from.history ++ accepted) IsLine (marked_output before)
      (marked_output after)

-- `apply`: each line was answered by itself
abbrev pub DidApply : Seen → End → World → World → State → Type 0
DidApply d end before after from = DidAnswer 1 EndsInput d end before after from

-- `apply --together`: of the lines that were read already up to so many were answered together
abbrev pub DidTogether : ℕ → Seen → End → World → World → State → Type 0
DidTogether most d end before after from =
    DidAnswer most (EndsTogether most) d end before after from

-- `check` from the state that the file opened to: it printed how many commands there are, and only
-- read the disk
pub record DidCheck (d : Seen) (end : End) (before after : World) (from : State) : Type 0 where
  pub printed : Printed the_end.Done (check_line from) end (output before) (output after)
  pub input : SameInput before after
  pub clock : SameClock before after
  pub net : SameNet before after
  pub same : IsUntouched d
  pub disk : DiskSurvives 1 d from.history [] 0 (status_of end)

-- why a journal doesn't open, as a run's end
abbrev pub end_of_open : OpenFault → End
end_of_open (fault.Damaged at) = the_end.Damaged at
end_of_open fault.Fault = the_end.Disk
end_of_open fault.NoMemory = the_end.Memory
end_of_open fault.OtherFormat = the_end.OtherFormat

-- why a run stopped, as its end
abbrev pub end_of_stop : Stop → End
end_of_stop stop.Memory = the_end.Memory
end_of_stop stop.Disk = the_end.Disk
end_of_stop stop.Input = the_end.Input
end_of_stop stop.Output = the_end.Output
end_of_stop stop.TooMuch = the_end.TooMuch

-- How a question ends: what is due at the clock's next moment was printed, with status 0 where it
-- doesn't refuse; or that there was no memory, or nothing, since there was none; or the output
-- failed, and a front of it stands there. The disk doesn't fail once the journal is open, nor the
-- output where what is due was printed.
abbrev pub AskEnds : (ℕ → Due → Type 0) → End → World → World → Type 0
AskEnds IsDue the_end.Done before after =
    Replied IsDue false before after × IsFlushed after × (after.writes ≡ before.writes)
AskEnds IsDue the_end.Usage before after = ⊥
AskEnds IsDue the_end.Memory before after =
    ((after.written ≡ append_known before.written (line_of reply.NoMemory)) × IsFlushed after)
    ⊎ SameOutput before after
AskEnds IsDue the_end.Disk before after = ⊥
AskEnds IsDue the_end.Input before after = ⊥
AskEnds IsDue the_end.Output before after =
    Rose before.writes after.writes × RepliedFront IsDue before after
    × (after.flushed ≡ before.flushed)
AskEnds IsDue (the_end.Damaged at) before after = ⊥
AskEnds IsDue the_end.Listener before after = ⊥
AskEnds IsDue the_end.TooMuch before after = ⊥
AskEnds IsDue the_end.Exists before after = ⊥
AskEnds IsDue the_end.Refused before after =
    Replied IsDue true before after × IsFlushed after × (after.writes ≡ before.writes)
AskEnds IsDue the_end.OtherFormat before after = ⊥

-- what is due was asked from the state that the file opened to; the clock was looked at once, and
-- the disk only read
pub record DidAsk (d : Seen) (IsDue : State → ℕ → Due → Type 0) (end : End) (before after : World)
    (from : State) : Type 0 where
  pub ends : AskEnds (IsDue from) end before after
  pub input : SameInput before after
  pub clock : LookedOnce before after
  pub net : SameNet before after
  pub same : IsUntouched d
  pub disk : DiskSurvives 1 d from.history [] 0 (status_of end)

-- The input wasn't taken whole: it failed, and nothing was asked or written.
abbrev pub LoadBroke : End → State → World → World → (answered kept : List Stamped) → Type 0
LoadBroke end from before after answered kept =
    (end ≡ the_end.Input) × Rose before.reads after.reads × SameOutput before after
    × SameClock before after × (answered ≡ from.history) × (kept ≡ from.history)

-- It was taken, to its end or to one byte more than a table may have, and the load of what was
-- taken was asked: at the clock's next moment, by GrouperSystem. Its reply was printed, or there
-- was no memory to, or the output failed. Where the keeper failed, so did the disk.
abbrev pub LoadAsked : End → State → (job taken : List ℕ) → World → World
    → (answered kept : List Stamped) → Type 0
LoadAsked end from job taken before after answered kept =
    IsTakenWhole taken after.left × LookedOnce before after
    × AsksOnce from before.moments (load_of job taken) end answered kept (output before)
    (output after) × (end ≡ the_end.Disk → Rose before.faults after.faults)

-- `load` from the state that the file opened to: the bytes that were taken, the commands that were
-- accepted and how many of them were answered, how it ended, what it leaves of the disk, and that
-- the reply came behind what the disk has.
pub record DidLoad (d : Seen) (job : List ℕ) (end : End) (before after : World)
    (from : State) : Type 0 where
  pub taken : List ℕ
  pub input : Takes before.left taken after.left
  pub few : length taken ≤ max_line + 1
  pub accepted : List Stamped
  pub answered : ℕ
  pub ends : LoadBroke end from before after (from.history ++ take answered accepted) (from.history
      ++ accepted)
      ⊎ LoadAsked end from job taken before after (from.history
      ++ take answered accepted) (from.history ++ accepted)
  pub net : SameNet before after
  pub disk : DiskSurvives 1 d from.history accepted answered (status_of end)
  pub keeps_up : DiskKeepsUp d (from.history ++ accepted) IsLine (marked_output before)
      (marked_output after)

-- `sample`: the summary of the seed and the size was printed, and nothing else was looked at; or
-- there was no memory, and nothing was written
pub record DidSample (d : Seen) (seed size : ℕ) (end : End) (before after : World) : Type 0 where
  pub printed : Printed the_end.Done (summary_text (summary seed size)) end (output before)
      (output after)
  pub input : SameInput before after
  pub clock : SameClock before after
  pub net : SameNet before after
  pub held : (after.held ≡ before.held) × (after.faults ≡ before.faults)
  pub disk : IsUntouched d

-- what a run of a task did that has to do with one disk; `migrate` has to do with two
abbrev pub Did : Seen → Task → End → World → World → Type 0
Did d task.Init end before after = DidInit d end before after
Did d task.Apply end before after = OverJournal d (DidApply d end before after) end before after
Did d (task.Together most) end before after =
    OverJournal d (DidTogether most d end before after) end before after
Did d (task.Serve port connections) end before after =
    OverJournal d (DidServe d port connections end before after) end before after
Did d task.Check end before after = OverJournal d (DidCheck d end before after) end before after
Did d (task.Ask question) end before after =
    OverJournal d (DidAsk d (AnswersTo (asked_by question)) end before after) end before after
Did d (task.Report asked) end before after =
    OverJournal d (DidAsk d (ReportsAt asked) end before after) end before after
Did d (task.Load job) end before after =
    OverJournal d (DidLoad d job end before after) end before after
Did d (task.Commands places) end before after =
    OverJournal d (DidCommands d places end before after) end before after
Did d (task.AsOf at) end before after =
    OverJournal d (DidAsOf d AnswersLines at end before after) end before after
Did d (task.ReportAsOf asked at) end before after =
    OverJournal d (DidAsOf d (PrintsReport asked) at end before after) end before after
Did d (task.Provision asked) end before after =
    OverJournal d (DidProvision d asked end before after) end before after
Did d (task.Sample seed size) end before after = DidSample d seed size end before after
Did d task.Migrate end before after = ⊥

-- what a run of a task did to its disk and to a second one: `migrate` fills the second, and every
-- other task leaves it as it was
abbrev pub DidBoth : {E : Type 0} → Ghosts E → Seen → Task → End → World → World → E → E → Type 0
DidBoth e d task.Migrate end before after second filled =
    DidMigrate e d end before after second filled
DidBoth e d asked end before after second filled =
    Did d asked end before after × (filled ≡ second)

-- nothing was done
abbrev pub IsIdle : {D E : Type 0} → World → World → D → D → E → E → Type 0
IsIdle before after old new second filled =
    (after ≡ before) × (new ≡ old) × (filled ≡ second)

-- what a run of these words did, over a disk and a second one; words that ask for nothing leave all
-- as it was, and so do words for which there was no memory
abbrev pub RunDid : {D E : Type 0} → Ghosts D → Ghosts E → Option Task → End → World → World
    → (old new : D) → (second filled : E) → Type 0
RunDid g e None end before after old new second filled =
    ((end ≡ the_end.Usage) ⊎ (end ≡ the_end.Memory)) × IsIdle before after old new second filled
RunDid g e (Some asked) end before after old new second filled =
    DidBoth e (seen g old new) asked end before after second filled
    ⊎ ((end ≡ the_end.Memory) × IsIdle before after old new second filled)

-- status 2 comes only where the words ask for nothing; and there it comes, unless there was no
-- memory to read them
abbrev pub IsUsage : Option Task → ℕ → Type 0
IsUsage asked status = (status ≡ 2 → asked ≡ None) × (asked ≡ None → (status ≡ 2) ⊎ (status ≡ 3))
