-- What a word of the program that asks is due.
use Rattle.std.specs.Prelude.{◌≡◌, ◌⊎◌, ℕ, List, Bool, true, false, Option, Result, Ok, Err}
use Rattle.std.specs.Prelude.{if◌then◌else◌, IfSome}
use Rattle.std.specs.Io.KnownBytes.{append_known}
use Rattle.reg_outside.specs.Streams.{first_moment, WritesFront}
use Rattle.reg_terms.specs.declared.refusal.Refusal.{Refusal}
use Rattle.reg_terms.specs.declared.request.Request.{Request}
use Rattle.reg_terms.specs.declared.reply.Reply.{Reply}
use Rattle.reg_terms.specs.declared.reply.Reply.TheVariants as reply
use Rattle.reg_machine.specs.History.{State}
use Rattle.reg_service.specs.Turn.{at_moment, turn}
use Rattle.reg_session.specs.Replies.{line_of}
use Rattle.reg_words.specs.declared.task.Report.{Report}
use Rattle.reg_report.specs.Reported.{Reported}
use Rattle.reg_run.specs.World.{Out, World}
use Rattle.reg_run.specs.Once.{Printed}
use Rattle.reg_run.specs.declared.status.End.{End}
use Rattle.reg_run.specs.declared.status.End.TheVariants as the_end

-- a reply that refuses
abbrev pub is_refused : Reply → Bool
is_refused (reply.Number n id) = false
is_refused (reply.Loaded n counts) = false
is_refused (reply.Answer a) = false
is_refused (reply.Refused r) = true
is_refused reply.NoMemory = false
is_refused reply.KeepFault = false

-- the bytes that are due to a question, and whether they refuse it
pub record Due : Type 0 where
  pub bytes : List ℕ
  pub refused : Bool

-- a reply and its line end
abbrev pub due_of : Reply → Due
due_of r = record { bytes = line_of r; refused = is_refused r }

-- the end of a run that printed what was due
abbrev pub end_of_due : Due → End
end_of_due due = if due.refused then the_end.Refused else the_end.Done

-- to what was read the reply of the turn at a moment
abbrev pub AnswersTo : Result Request Refusal → State → ℕ → Due → Type 0
AnswersTo reading from m due = due ≡ due_of (turn from m reading).0

-- the bytes of a report, or that it is refused
abbrev pub due_of_report : Result (List ℕ) Refusal → Due
due_of_report (Ok bytes) = record { bytes = bytes; refused = false }
due_of_report (Err r) = due_of (reply.Refused r)

-- what is due to a report of a state
abbrev pub TellsReport : Report → State → Due → Type 0
TellsReport asked s due =
    (told : Result (List ℕ) Refusal) × Reported asked s told × (due ≡ due_of_report told)

-- a report tells of the state at a moment
abbrev pub ReportsAt : Report → State → ℕ → Due → Type 0
ReportsAt asked from m due = TellsReport asked (at_moment from m) due

-- what was due was printed, or that there was no memory for it, and the end is its
abbrev pub Told : (Due → Type 0) → End → Out → Out → Type 0
Told IsDue end old new =
    ((due : Due) × IsDue due × Printed (end_of_due due) due.bytes end old new)
    ⊎ Printed the_end.Memory (line_of reply.NoMemory) end old new

-- the same of what is due at the clock's next moment
pub record ToldOnce (IsDue : ℕ → Due → Type 0) (moments : Option (List ℕ)) (end : End)
    (old new : Out) : Type 0 where
  pub at : ℕ
  pub moment : IfSome moments (λ ms. at ≡ first_moment ms)
  pub told : Told (IsDue at) end old new

-- what is due at the next moment was written, and refuses or not
abbrev pub Replied : (ℕ → Due → Type 0) → Bool → World → World → Type 0
Replied IsDue refused before after = IfSome before.moments (λ moments.
    (due : Due) × IsDue (first_moment moments) due × (due.refused ≡ refused)
    × (after.written ≡ append_known before.written due.bytes))

-- a front of what is due at the next moment stands on the output, or one of that there was no
-- memory
abbrev pub RepliedFront : (ℕ → Due → Type 0) → World → World → Type 0
RepliedFront IsDue before after =
    IfSome before.moments (λ moments.
    (due : Due) × IsDue (first_moment moments) due
    × WritesFront before.written after.written due.bytes)
    ⊎ WritesFront before.written after.written (line_of reply.NoMemory)
