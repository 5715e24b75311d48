-- How asking the registry as it was at a moment ends: its answers to the lines of an input, or one
-- report of it.
use Rattle.std.specs.Prelude.{◌≡◌, ◌⊎◌, ⊤, ℕ, List, [], Option, Result, Ok, Err, IfSome, length, max}
use Rattle.std.specs.Prelude.{option_map}
use Rattle.reg_outside.specs.Faults.{Rose}
use Rattle.reg_outside.specs.Streams.{first_moment}
use Rattle.reg_outside.specs.declared.source.Source as source
use Rattle.reg_terms.specs.declared.refusal.Refusal.{Refusal}
use Rattle.reg_terms.specs.declared.reply.Reply.TheVariants as reply
use Rattle.reg_machine.specs.History.{State}
use Rattle.reg_session.specs.declared.stop.Stop.TheVariants as stop
use Rattle.reg_words.specs.declared.task.Report.{Report}
use Rattle.reg_report.specs.Asked.{moment_asked}
use Rattle.reg_asof.specs.Ends.{StopsTelling, TellsInput}
use Rattle.reg_asof.specs.Then.{state_at}
use Rattle.reg_run.specs.Crash.{DiskSurvives, IsUntouched, Seen}
use Rattle.reg_run.specs.Due.{TellsReport, Told, due_of}
use Rattle.reg_run.specs.Status.{status_of}
use Rattle.reg_run.specs.World.{LookedOnce, Out, SameNet, World, output}
use Rattle.reg_run.specs.declared.status.End.{End}
use Rattle.reg_run.specs.declared.status.End.TheVariants as the_end

-- what a run sees of an input: the bytes that are left, where they are told, and the count of
-- faults
pub record In : Type 0 where
  pub left : Option (List ℕ)
  pub reads : ℕ

-- the same of this input
abbrev pub input_of : {S : Type 0} → source.Ghosts S → S → In
input_of s input = record { left = s.left input; reads = s.read_faults input }

-- and of the input of a world
abbrev pub input : World → In
input w = record { left = w.left; reads = w.reads }

-- How answering the lines of an input by the registry of a state ends, which nothing changes: all
-- were answered; or the input or the output failed, or there was too much input. For want of memory
-- it never ends.
abbrev pub AnswersLines : State → End → In → In → Out → Out → Type 0
AnswersLines s the_end.Done from to old new =
    TellsInput s from.left to.left old.written new.written
    × (new.flushed ≡ option_map length new.written)
AnswersLines s the_end.Usage from to old new = ⊥
AnswersLines s the_end.Memory from to old new = ⊥
AnswersLines s the_end.Disk from to old new = ⊥
AnswersLines s the_end.Input from to old new =
    Rose from.reads to.reads
    × StopsTelling s from.left to.left old.written new.written new.flushed stop.Input
AnswersLines s the_end.Output from to old new =
    Rose old.writes new.writes
    × StopsTelling s from.left to.left old.written new.written new.flushed stop.Output
AnswersLines s (the_end.Damaged at) from to old new = ⊥
AnswersLines s the_end.Listener from to old new = ⊥
AnswersLines s the_end.TooMuch from to old new =
    StopsTelling s from.left to.left old.written new.written new.flushed stop.TooMuch
AnswersLines s the_end.Exists from to old new = ⊥
AnswersLines s the_end.Refused from to old new = ⊥
AnswersLines s the_end.OtherFormat from to old new = ⊥

-- how printing a report of the registry of a state ends, for which no line is taken
abbrev pub PrintsReport : Report → State → End → In → In → Out → Out → Type 0
PrintsReport asked s end from to old new = (to ≡ from) × Told (TellsReport asked s) end old new

-- Why there is no registry to ask of a file that opened: there was no memory for it, or the disk
-- failed when the file was read once more. A damage, or the other format, ends it only where the file
-- isn't told.
abbrev pub NotReread : End → Option (List ℕ) → (faults later : ℕ) → Type 0
NotReread the_end.Done held faults later = ⊥
NotReread the_end.Usage held faults later = ⊥
NotReread the_end.Memory held faults later = ⊤
NotReread the_end.Disk held faults later = Rose faults later
NotReread the_end.Input held faults later = ⊥
NotReread the_end.Output held faults later = ⊥
NotReread (the_end.Damaged at) held faults later = IfSome held (λ file. ⊥)
NotReread the_end.Listener held faults later = ⊥
NotReread the_end.TooMuch held faults later = ⊥
NotReread the_end.Exists held faults later = ⊥
NotReread the_end.Refused held faults later = ⊥
NotReread the_end.OtherFormat held faults later = IfSome held (λ file. ⊥)

-- The registry of a history as it was at a moment was asked, where the file is told; or there was
-- none to ask, and nothing was taken or written.
abbrev pub AsksThen : (State → End → In → In → Out → Out → Type 0) → State → ℕ → Option (List ℕ)
    → (faults later : ℕ) → End → In → In → Out → Out → Type 0
AsksThen Asks last at held faults later end from to old new =
    ((s : State) × IfSome held (λ file. s ≡ state_at last.history at) × Asks s end from to old new)
    ⊎ (NotReread end held faults later × (to ≡ from) × (new ≡ old))

-- The same by what the moment's text says: where there is none to ask at, no line is taken, and the
-- refusal was printed, or that there was no memory for it.
abbrev pub AsOfEnds : (State → End → In → In → Out → Out → Type 0) → Result ℕ Refusal → State
    → Option (List ℕ) → (faults later : ℕ) → End → In → In → Out → Out → Type 0
AsOfEnds Asks (Ok at) last held faults later end from to old new =
    AsksThen Asks last at held faults later end from to old new
AsOfEnds Asks (Err r) last held faults later end from to old new =
    (to ≡ from) × Told (λ due. due ≡ due_of (reply.Refused r)) end old new

-- The registry was asked as it was at the moment of this text, from the state that the file opened
-- to. The moment may not be later than the clock, which was looked at once, and the disk was only
-- read.
pub record DidAsOf (d : Seen) (Asks : State → End → In → In → Out → Out → Type 0) (text : List ℕ)
    (end : End) (before after : World) (from : State) : Type 0 where
  pub now : ℕ
  pub moment : IfSome before.moments (λ moments. now ≡ first_moment moments)
  pub ends : AsOfEnds Asks (moment_asked text (max from.clock now)) from before.held before.faults
      after.faults end (input before) (input after) (output before) (output after)
  pub clock : LookedOnce before after
  pub net : SameNet before after
  pub same : IsUntouched d
  pub disk : DiskSurvives 1 d from.history [] 0 (status_of end)
