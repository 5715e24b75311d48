-- One request of a run, and its reply.
use Rattle.std.specs.Prelude.{◌≡◌, ◌⊎◌, ◌≤◌, ◌+◌, ℕ, List, Bool, true, false, Option, None}
use Rattle.std.specs.Prelude.{Result, Ok, Err, codes, length, nat_lt, option_map, if◌then◌else◌, IfSome}
use Rattle.std.specs.Io.KnownBytes.{append_known, IsAtEnd}
use Rattle.reg_outside.specs.Faults.{Rose}
use Rattle.reg_outside.specs.Streams.{first_moment, later_moments, WritesFront}
use Rattle.reg_base.specs.Names.{is_extension}
use Rattle.reg_terms.specs.Limits.{max_line}
use Rattle.reg_terms.specs.declared.command.Stamped.{Stamped}
use Rattle.reg_terms.specs.declared.refusal.Refusal.{Refusal}
use Rattle.reg_terms.specs.declared.refusal.Refusal.TheVariants.{BadName, TooLong}
use Rattle.reg_terms.specs.declared.reply.Reply.{Reply}
use Rattle.reg_terms.specs.declared.reply.Reply.TheVariants as reply
use Rattle.reg_terms.specs.declared.request.Op.TheVariants as op
use Rattle.reg_terms.specs.declared.request.Request.{Request}
use Rattle.reg_keep.specs.declared.keeper.Keeper.{Ghosts}
use Rattle.reg_machine.specs.History.{State}
use Rattle.reg_service.specs.Kept.{Halted}
use Rattle.reg_service.specs.Turn.{turn, Turns}
use Rattle.reg_session.specs.Input.{Takes}
use Rattle.reg_session.specs.Pending.{Holds}
use Rattle.reg_session.specs.Replies.{line_of}
use Rattle.reg_session.specs.declared.pending.PendingLine.{PendingLine}
use Rattle.reg_run.specs.World.{Out}
use Rattle.reg_run.specs.declared.status.End.{End}
use Rattle.reg_run.specs.declared.status.End.TheVariants as the_end

-- How writing these bytes ends: they were written and flushed, no call failed, and the end is this
-- one; or the output failed, a front of them stands there and isn't flushed.
abbrev pub Put : End → List ℕ → End → Out → Out → Type 0
Put good bytes end old new =
    ((end ≡ good) × (new.written ≡ append_known old.written bytes)
    × (new.flushed ≡ option_map length new.written) × (new.writes ≡ old.writes))
    ⊎ ((end ≡ the_end.Output) × Rose old.writes new.writes
    × WritesFront old.written new.written bytes × (new.flushed ≡ old.flushed))

-- How printing them ends: in the same way; or there was no memory, and nothing was written.
abbrev pub Printed : End → List ℕ → End → Out → Out → Type 0
Printed good bytes end old new =
    Put good bytes end old new ⊎ ((end ≡ the_end.Memory) × (new ≡ old))

-- the end of a run that printed this one reply
abbrev pub end_of_reply : Reply → End
end_of_reply (reply.Number n id) = the_end.Done
end_of_reply (reply.Loaded n counts) = the_end.Done
end_of_reply (reply.Answer a) = the_end.Done
end_of_reply (reply.Refused r) = the_end.Refused
end_of_reply reply.NoMemory = the_end.Memory
end_of_reply reply.KeepFault = the_end.Disk

-- whether a reply is printed without memory, since its text is constant: that of a fault
abbrev pub is_constant : Reply → Bool
is_constant (reply.Number n id) = false
is_constant (reply.Loaded n counts) = false
is_constant (reply.Answer a) = false
is_constant (reply.Refused r) = false
is_constant reply.NoMemory = true
is_constant reply.KeepFault = true

-- What follows a reading at a moment, by its reply: the history that was answered, and the one that
-- may be kept. The registry went on; or there was no memory to go on; or the keeper failed, and the
-- command may be kept or not.
abbrev pub TurnsOnce : State → ℕ → Result Request Refusal → Reply → (answered kept : List Stamped)
    → Type 0
TurnsOnce s at reading told answered kept =
    ((last : State) × Turns s at reading told last × (answered ≡ last.history)
    × (kept ≡ last.history))
    ⊎ (((told ≡ reply.NoMemory) × (answered ≡ s.history) × (kept ≡ s.history))
    ⊎ ((told ≡ reply.KeepFault) × (answered ≡ s.history)
    × ((kept ≡ s.history) ⊎ (kept ≡ (turn s at reading).1.history))))

-- What is read was asked at the clock's next moment, and its reply printed, or the output failed;
-- or there was no memory to, which no fault needs.
pub record AsksOnce (s : State) (moments : Option (List ℕ)) (reading : Result Request Refusal)
    (end : End) (answered kept : List Stamped) (old new : Out) : Type 0 where
  pub at : ℕ
  pub moment : IfSome moments (λ ms. at ≡ first_moment ms)
  pub told : Reply
  pub turn : TurnsOnce s at reading told answered kept
  pub printed : Printed (end_of_reply told) (line_of told) end old new
  pub sure : is_constant told ≡ true → Put (end_of_reply told) (line_of told) end old new

-- ---- a table

-- a load that GrouperSystem asks
abbrev pub load_request : List ℕ → List ℕ → Request
load_request job table =
    record { by = codes "g:isa/GrouperSystem"; key = None; op = op.Load job table }

-- what the load of a table asks, or why it is refused: it is too long, or the job's name is none
abbrev pub load_of : List ℕ → List ℕ → Result Request Refusal
load_of job table =
    if nat_lt max_line (length table) then Err (TooLong max_line)
    else (if is_extension job then Ok (load_request job table) else Err (BadName (codes "job")))

-- an input was taken to its end, or to one byte more than a table may have
abbrev pub IsTakenWhole : List ℕ → Option (List ℕ) → Type 0
IsTakenWhole taken left = IsAtEnd left ⊎ (length taken ≡ max_line + 1)

-- so many bytes were taken from an input, for which this stands
pub record HasTable (left now : Option (List ℕ)) (kept : PendingLine) (count : ℕ) : Type 0 where
  pub taken : List ℕ
  pub input : Takes left taken now
  pub held : Holds kept taken
  pub counted : length taken ≡ count

-- a whole table was taken, or as much of it as is needed to see that it is too long
pub record TakesTable (left now : Option (List ℕ)) (kept : PendingLine) : Type 0 where
  pub taken : List ℕ
  pub input : Takes left taken now
  pub held : Holds kept taken
  pub few : length taken ≤ max_line + 1
  pub whole : IsTakenWhole taken now

-- A service ran a job over an input. The input failed, and nothing was asked; or it was taken
-- whole, and the load of what was taken was asked. Where it ended for the disk, the keeper failed.
pub record LoadsOnce {K : Type 0} (g : Ghosts K) (from : State) (old : K) (job : List ℕ)
    (left now moments later : Option (List ℕ)) (out after : Out) (reads more_reads : ℕ) (end : End)
    (keeper : K) : Type 0 where
  pub taken : List ℕ
  pub input : Takes left taken now
  pub few : length taken ≤ max_line + 1
  pub halted : Halted g from.history old keeper
  pub ends : ((end ≡ the_end.Input) × Rose reads more_reads × (after ≡ out) × (later ≡ moments)
      × (halted.answered ≡ from.history) × (halted.after ≡ from.history))
      ⊎ (IsTakenWhole taken now × (later ≡ option_map later_moments moments)
      × AsksOnce from moments (load_of job taken) end halted.answered halted.after out after)
  pub disk : end ≡ the_end.Disk → Rose (g.keep_faults old) (g.keep_faults keeper)

-- some of it was taken
abbrev pub TakesSome : Option (List ℕ) → Option (List ℕ) → Type 0
TakesSome left now = (taken : List ℕ) × Takes left taken now × (length taken ≤ max_line + 1)
