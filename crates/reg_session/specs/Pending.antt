-- What is kept of the line that is being read.
use Rattle.std.specs.Prelude.{◌≡◌, ◌<◌, ℕ, List, length, Result, Ok, Err}
use Rattle.reg_terms.specs.declared.refusal.Refusal.{Refusal}
use Rattle.reg_terms.specs.declared.request.Request.{Request}
use Rattle.reg_terms.specs.Limits.{max_line}
use Rattle.reg_json.specs.Reading.{reading_of}
use Rattle.reg_session.specs.Lines.{is_skipped}
use Rattle.reg_service.specs.Turn.{HasForm}
use Rattle.reg_session.specs.declared.pending.PendingLine.{PendingLine}
use Rattle.reg_session.specs.declared.pending.PendingLine.TheVariants as pending
use Rattle.reg_session.specs.declared.pending.LineReading.{LineReading}
use Rattle.reg_session.specs.declared.pending.LineReading.TheVariants as read

-- what is kept stands for this line: all its bytes, or that it is too long, or whether it is
-- skipped
abbrev pub Holds : PendingLine → List ℕ → Type 0
Holds (pending.Kept bytes) line = line ≡ bytes.items
Holds pending.TooLong line = max_line < length line
Holds (pending.Lost is_return) line = (0 < length line) × (is_skipped line ≡ is_return)

-- a line was read as this; where there was no memory it may be anything
abbrev pub ReadsAs : LineReading → Result Request Refusal → Type 0
ReadsAs (read.Asked request) reading = reading ≡ Ok request
ReadsAs (read.Refused refusal) reading = reading ≡ Err refusal
ReadsAs read.NoMemory reading = Unit {0}

-- this line, which isn't skipped, was read
abbrev pub ReadsLine : LineReading → List ℕ → Type 0
ReadsLine read_as line = ReadsAs read_as (reading_of line)

-- what was asked has its form
abbrev pub AsksFormed : LineReading → Type 0
AsksFormed (read.Asked request) = HasForm request
AsksFormed (read.Refused refusal) = Unit {0}
AsksFormed read.NoMemory = Unit {0}
