-- Finding the registry as it was at a moment, and asking it: for private clauses.
use Rattle.std.specs.Prelude.{◌≡◌, ◌⊎◌, ℕ, List, [], Option, Result, Ok, Err, IfSome, max}
use Rattle.std.specs.Prelude.{option_map}
use Rattle.reg_outside.specs.Streams.{first_moment, later_moments}
use Rattle.reg_terms.specs.declared.refusal.Refusal.{Refusal}
use Rattle.reg_terms.specs.declared.reply.Reply.TheVariants as reply
use Rattle.reg_machine.specs.History.{State}
use Rattle.reg_report.specs.Asked.{moment_asked}
use Rattle.reg_report.specs.Gives.{IsRefusal}
use Rattle.reg_asof.specs.Then.{state_at}
use Rattle.reg_run.specs.AsOf.{In, NotReread}
use Rattle.reg_run.specs.Crash.{DiskSurvives, IsUntouched, OpensTo, Seen}
use Rattle.reg_run.specs.Due.{Told, due_of}
use Rattle.reg_run.specs.Ends.{OpenCaused}
use Rattle.reg_run.specs.World.{Out}
use Rattle.reg_run.specs.declared.earlier.Unasked.{Unasked}
use Rattle.reg_run.specs.declared.earlier.Unasked.TheVariants as unasked
use Rattle.reg_run.specs.declared.status.End.{End}

-- the registry of a history as it was at a moment, where the file is told, or why there is none
abbrev pub FindsThen : State → ℕ → Option (List ℕ) → (faults later : ℕ) → Result State Unasked
    → Type 0
FindsThen last at held faults later (Ok s) = IfSome held (λ file. s ≡ state_at last.history at)
FindsThen last at held faults later (Err (unasked.Ended end)) = NotReread end held faults later
FindsThen last at held faults later (Err (unasked.Unreported why)) = ⊥

-- the same by what is said of the moment
abbrev pub FindsAt : Result ℕ Refusal → State → Option (List ℕ) → (faults later : ℕ)
    → Result State Unasked → Type 0
FindsAt (Ok at) last held faults later found = FindsThen last at held faults later found
FindsAt (Err r) last held faults later (Ok s) = ⊥
FindsAt (Err r) last held faults later (Err (unasked.Ended end)) = ⊥
FindsAt (Err r) last held faults later (Err (unasked.Unreported why)) = IsRefusal why r

-- it was looked for from the state that the file opened to
pub record FindsFrom (d : Seen) (text : List ℕ) (held : Option (List ℕ)) (faults later : ℕ)
    (moments left : Option (List ℕ)) (found : Result State Unasked) (from : State) : Type 0 where
  pub now : ℕ
  pub moment : IfSome moments (λ moments. now ≡ first_moment moments)
  pub finds : FindsAt (moment_asked text (max from.clock now)) from held faults later found
  pub clock : left ≡ option_map later_moments moments
  pub same : IsUntouched d
  pub disk : (status : ℕ) → DiskSurvives 1 d from.history [] 0 status

-- the file wasn't opened, and the clock not looked at
abbrev pub IsUnopened : Seen → Option (List ℕ) → (faults later : ℕ) → (moments left : Option (List ℕ))
    → Result State Unasked → Type 0
IsUnopened d held faults later moments left (Ok s) = ⊥
IsUnopened d held faults later moments left (Err (unasked.Ended end)) =
    OpenCaused end held faults later × (left ≡ moments) × IsUntouched d
IsUnopened d held faults later moments left (Err (unasked.Unreported why)) = ⊥

-- one or the other
abbrev pub FindsEarlier : Seen → List ℕ → Option (List ℕ) → (faults later : ℕ)
    → (moments left : Option (List ℕ)) → Result State Unasked → Type 0
FindsEarlier d text held faults later moments left found =
    IsUnopened d held faults later moments left found
    ⊎ ((from : State) × OpensTo held (Ok from)
    × FindsFrom d text held faults later moments left found from)

-- what is printed where there is none: nothing, where the run ends for it, and else the refusal
abbrev pub PrintsWhy : Unasked → End → Out → Out → Type 0
PrintsWhy (unasked.Ended why) end old new = (end ≡ why) × (new ≡ old)
PrintsWhy (unasked.Unreported why) end old new =
    (r : Refusal) → IsRefusal why r → Told (λ due. due ≡ due_of (reply.Refused r)) end old new

-- what was found was asked, and else no line was taken and it was printed why
abbrev pub AsksFound : (State → End → In → In → Out → Out → Type 0) → Result State Unasked → End → In
    → In → Out → Out → Type 0
AsksFound Asks (Ok s) end from to old new = Asks s end from to old new
AsksFound Asks (Err why) end from to old new = (to ≡ from) × PrintsWhy why end old new
