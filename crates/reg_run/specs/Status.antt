-- The exit statuses of the program and its notes.
use Rattle.std.specs.Prelude.{◌≡◌, ◌⊎◌, ◌++◌, ℕ, List, [], ◌∷◌, Option, codes, length}
use Rattle.std.specs.Fmt.{decimal}
use Rattle.std.specs.Io.KnownBytes.{append_known}
use Rattle.reg_outside.specs.Faults.{Rose}
use Rattle.reg_outside.specs.Streams.{WritesFront}
use Rattle.reg_base.specs.MomentText.{text_of}
use Rattle.reg_machine.specs.History.{State}
use Rattle.reg_run.specs.declared.status.End.{End}
use Rattle.reg_run.specs.declared.status.End.TheVariants as the_end

-- the exit status of a run that ended so
abbrev pub status_of : End → ℕ
status_of the_end.Done = 0
status_of the_end.Usage = 2
status_of the_end.Memory = 3
status_of the_end.Disk = 4
status_of the_end.Input = 5
status_of the_end.Output = 6
status_of (the_end.Damaged at) = 7
status_of the_end.Listener = 8
status_of the_end.TooMuch = 9
status_of the_end.Exists = 10
status_of the_end.Refused = 11
status_of the_end.OtherFormat = 12

-- the note of a run that ended so
abbrev pub note_of : End → List ℕ
note_of the_end.Done = []
note_of the_end.Usage = codes "usage\n"
note_of the_end.Memory = codes "memory\n"
note_of the_end.Disk = codes "disk\n"
note_of the_end.Input = codes "input\n"
note_of the_end.Output = codes "output\n"
note_of (the_end.Damaged at) = codes "damaged at " ++ decimal at ++ 10 ∷ []
note_of the_end.Listener = codes "listener\n"
note_of the_end.TooMuch = codes "too much input\n"
note_of the_end.Exists = codes "exists\n"
note_of the_end.Refused = []
note_of the_end.OtherFormat = codes "other format\n"

-- the note was written; or the sink failed, and some front of it was
abbrev pub NotesOnce : End → Option (List ℕ) → ℕ → Option (List ℕ) → ℕ → Type 0
NotesOnce end old before new after =
    (new ≡ append_known old (note_of end)) ⊎ (Rose before after × WritesFront old new (note_of end))

-- the exit statuses that a run has
abbrev pub IsStatus : ℕ → Type 0
IsStatus n =
    (n ≡ 0) ⊎ (n ≡ 2) ⊎ (n ≡ 3) ⊎ (n ≡ 4) ⊎ (n ≡ 5) ⊎ (n ≡ 6) ⊎ (n ≡ 7) ⊎ (n ≡ 8) ⊎ (n ≡ 9)
    ⊎ (n ≡ 10) ⊎ (n ≡ 11) ⊎ (n ≡ 12)

-- what `check` prints: how many commands there are, and the last one's moment, or moment 0, at
-- which the journal opens
abbrev pub check_line : State → List ℕ
check_line s =
    codes "commands " ++ decimal (length s.history) ++ codes " moment " ++ text_of s.clock ++ 10
    ∷ []
