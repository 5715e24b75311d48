-- How printing the lines of a history's commands ends.
use Rattle.std.specs.Prelude.{◌≡◌, ◌⊎◌, ℕ, List, [], ◌∷◌, ◌++◌, Option, Some, option_map, length}
use Rattle.std.specs.Prelude.{⊤, IfSome, Result, Ok, Err}
use Rattle.std.specs.Io.KnownBytes.{append_known}
use Rattle.reg_outside.specs.Faults.{Rose}
use Rattle.reg_outside.specs.Streams.{WritesFront}
use Rattle.reg_terms.specs.declared.command.Stamped.{Stamped}
use Rattle.reg_wire.specs.Payload.{stamped_of}
use Rattle.reg_machine.specs.History.{State, facts}
use Rattle.reg_machine.specs.Ids.{made_id}
use Rattle.reg_keep.specs.Frames.{opened}
use Rattle.reg_export.specs.Listing.{Progress, Row, cleared, counted, listing, nothing_made}
use Rattle.reg_words.specs.declared.task.Places.{Places}
use Rattle.reg_run.specs.Crash.{DiskSurvives, IsUntouched, Seen}
use Rattle.reg_run.specs.Status.{status_of}
use Rattle.reg_run.specs.World.{Out, SameClock, SameInput, SameNet, World, output}
use Rattle.reg_run.specs.declared.status.End.{End}
use Rattle.reg_run.specs.declared.status.End.TheVariants as the_end

-- How printing bytes ends, where it is known which: they were written and flushed; or there was no
-- memory, or the output failed, and a front of them stands there and isn't flushed. A payload that
-- is no command's, or a file of the other format, ends it only where they aren't known.
abbrev pub Lists : Option (List ℕ) → End → Out → Out → Type 0
Lists due the_end.Done old new =
    IfSome due (λ bytes. new.written ≡ append_known old.written bytes)
    × (new.flushed ≡ option_map length new.written)
Lists due the_end.Usage old new = ⊥
Lists due the_end.Memory old new =
    IfSome due (WritesFront old.written new.written) × (new.flushed ≡ old.flushed)
Lists due the_end.Disk old new = ⊥
Lists due the_end.Input old new = ⊥
Lists due the_end.Output old new =
    Rose old.writes new.writes × IfSome due (WritesFront old.written new.written)
    × (new.flushed ≡ old.flushed)
Lists due (the_end.Damaged at) old new = IfSome due (λ bytes. ⊥) × (new.flushed ≡ old.flushed)
Lists due the_end.Listener old new = ⊥
Lists due the_end.TooMuch old new = ⊥
Lists due the_end.Exists old new = ⊥
Lists due the_end.Refused old new = ⊥
Lists due the_end.OtherFormat old new = IfSome due (λ bytes. ⊥) × (new.flushed ≡ old.flushed)

-- The same where a file is read for them: or the disk failed, and nothing was written.
abbrev pub PrintsLines : Option (List ℕ) → End → (faults later : ℕ) → Out → Out → Type 0
PrintsLines due end faults later old new =
    Lists due end old new ⊎ ((end ≡ the_end.Disk) × Rose faults later × (new ≡ old))

-- commands after others, each with the place of its record and the id that its reply told
abbrev pub rows_of : List Stamped → List (ℕ × List ℕ) → List Stamped → List Row
rows_of before [] history = []
rows_of before (r ∷ records) [] = []
rows_of before (r ∷ records) (s ∷ ss) =
    record { place = r.0; made = made_id s.command (facts before s.at); stamped = s }
    ∷ rows_of (before ++ s ∷ []) records ss

-- a history's commands, where a file has these records
abbrev pub rows_in : Result (List (ℕ × List ℕ)) ℕ → List Stamped → List Row
rows_in (Ok records) history = rows_of [] records history
rows_in (Err at) history = []

-- the lines of a history's commands of these numbers, each with the place at which its frame begins
-- in the file and the id that its reply told, where the disk tells its bytes
abbrev pub due_lines : Places → Option (List ℕ) → List Stamped → Option (List ℕ)
due_lines places held history =
    option_map (λ file. listing places.from places.to (rows_in (opened file) history)) held

-- `commands` from the state that the file opened to: the file was read once more, the lines of its
-- commands were printed, and the disk was only read
pub record DidCommands (d : Seen) (places : Places) (end : End) (before after : World)
    (from : State) : Type 0 where
  pub printed : PrintsLines (due_lines places before.held from.history) end before.faults
      after.faults (output before) (output after)
  pub input : SameInput before after
  pub clock : SameClock before after
  pub net : SameNet before after
  pub same : IsUntouched d
  pub disk : DiskSurvives 1 d from.history [] 0 (status_of end)

-- ---- for private clauses

-- records are read as these commands, one by one
abbrev pub AreRead : List (ℕ × List ℕ) → List Stamped → Type 0
AreRead [] [] = ⊤
AreRead [] (s ∷ ss) = ⊥
AreRead (r ∷ records) [] = ⊥
AreRead (r ∷ records) (s ∷ ss) = (stamped_of r.1 ≡ Some s) × AreRead records ss

-- commands, each with the place of its record
abbrev pub at_places : List (ℕ × List ℕ) → List Stamped → List (ℕ × Stamped)
at_places [] history = []
at_places (r ∷ records) [] = []
at_places (r ∷ records) (s ∷ ss) = (r.0, s) ∷ at_places records ss

-- the lines of the commands of a file's records, by what commands before made
abbrev pub counted_lines : Places → Option (List ℕ) → List (ℕ × List ℕ) → List Stamped
    → Option (List ℕ)
counted_lines places held records history =
    option_map (λ file. listing places.from places.to (counted nothing_made
    (at_places records history))) held

-- the lines of a listing were written and taken away, or nothing was done
abbrev pub HandsOn : Option (List ℕ) → Progress → Option (List ℕ) → Progress → Type 0
HandsOn old before new after =
    ((new ≡ old) × (after ≡ before))
    ⊎ ((new ≡ append_known old before.lines) × (after ≡ cleared before))
