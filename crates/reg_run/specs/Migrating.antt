-- How migrating ends: a journal of format 1, on one disk, was written anew on a second one as a
-- journal of format 2.
use Rattle.std.specs.Prelude.{◌≡◌, ◌⊎◌, ℕ, List, Option, true, false, Result, Ok, Err, IfSome}
use Rattle.reg_outside.specs.Faults.{Rose}
use Rattle.reg_outside.specs.declared.disk.Disk.{Ghosts}
use Rattle.reg_keep.specs.Begin.{is_unfit}
use Rattle.reg_keep.specs.Frames.{begins_new}
use Rattle.reg_service.specs.Migrating.{IsDamagedOld, OpensOld, WasOrMigrated}
use Rattle.reg_service.specs.Opening.{opens, opens_old}
use Rattle.reg_service.specs.declared.migration.MigrateFault.{MigrateFault}
use Rattle.reg_service.specs.declared.migration.MigrateFault.TheVariants as fault
use Rattle.reg_run.specs.Crash.{IsUntouched, Seen, seen}
use Rattle.reg_run.specs.Status.{status_of}
use Rattle.reg_run.specs.World.{SameClock, SameInput, SameNet, SameOutput, World}
use Rattle.reg_run.specs.declared.status.End.{End}
use Rattle.reg_run.specs.declared.status.End.TheVariants as the_end

-- that a journal was migrated or why it wasn't, as a run's end
abbrev pub end_of_migrate : {T : Type 0} → Result T MigrateFault → End
end_of_migrate (Ok done) = the_end.Done
end_of_migrate (Err fault.OtherFormat) = the_end.OtherFormat
end_of_migrate (Err (fault.Damaged at)) = the_end.Damaged at
end_of_migrate (Err fault.Exists) = the_end.Exists
end_of_migrate (Err fault.Disk) = the_end.Disk
end_of_migrate (Err fault.Memory) = the_end.Memory

-- How migrating ends, by the bytes of the journal and of the second file, where they are told: it
-- was done; or there was no memory; or a disk failed; or the journal is damaged; or it opens, and
-- the second file isn't fit to be filled; or the journal is of format 2. Where the journal wasn't
-- read, nothing was asked of the second disk.
abbrev pub MigrateEnds : End → (held second : Option (List ℕ)) → (failed unasked : Type 0) → Type 0
MigrateEnds the_end.Done held second failed unasked =
    OpensOld held × IfSome second (λ file. is_unfit file ≡ false)
MigrateEnds the_end.Usage held second failed unasked = ⊥
MigrateEnds the_end.Memory held second failed unasked = unasked
MigrateEnds the_end.Disk held second failed unasked = failed
MigrateEnds the_end.Input held second failed unasked = ⊥
MigrateEnds the_end.Output held second failed unasked = ⊥
MigrateEnds (the_end.Damaged at) held second failed unasked = IsDamagedOld at held × unasked
MigrateEnds the_end.Listener held second failed unasked = ⊥
MigrateEnds the_end.TooMuch held second failed unasked = ⊥
MigrateEnds the_end.Exists held second failed unasked =
    OpensOld held × IfSome second (λ file. is_unfit file ≡ true)
MigrateEnds the_end.Refused held second failed unasked = ⊥
MigrateEnds the_end.OtherFormat held second failed unasked =
    IfSome held (λ file. begins_new file ≡ true) × unasked

-- One of two disks failed, by their counts of faults: the first, and nothing was asked of the
-- second; or the second alone.
abbrev pub FailedOne : (faults later : ℕ) → (second more : ℕ) → (unasked : Type 0) → Type 0
FailedOne faults later second more unasked =
    (Rose faults later × unasked) ⊎ (Rose second more × (later ≡ faults))

-- `migrate`: how it ended, and what it left of both disks; nothing was read but the first, nothing
-- was printed, the clock not looked at, and the listener not asked.
pub record DidMigrate {E : Type 0} (e : Ghosts E) (d : Seen) (end : End) (before after : World)
    (second filled : E) : Type 0 where
  pub ends : MigrateEnds end before.held (e.contents second) (FailedOne before.faults after.faults
      (e.faults second) (e.faults filled) (filled ≡ second)) (filled ≡ second)
  -- the journal's bytes stay, and each image of it since the start is one from before
  pub kept : IsUntouched d
  -- each image of the second disk since the start is one from before, or is damaged, or opens to
  -- the empty history or to what the journal holds
  pub filled_in : IfSome d.held (λ file. (c : List ℕ) → e.left_since filled (e.moment second) c
      → WasOrMigrated file (e.may_leave second) c)
  -- at status 0 each image of it opens to what the journal holds
  pub done : status_of end ≡ 0 → IfSome d.held (λ file. (c : List ℕ) → e.may_leave filled c
      → opens c ≡ opens_old file)
  -- and so do its bytes
  pub whole : status_of end ≡ 0 → IfSome d.held (λ file. IfSome (e.contents filled)
      (λ bytes. opens bytes ≡ opens_old file))
  -- at status 10 it is as it was
  pub unfit : status_of end ≡ 10 → IfSome (e.contents second)
      (λ bytes. IsUntouched (seen e second filled))
  -- at each status but 4 no count of faults rose
  pub still : (status_of end ≡ 4 → ⊥)
      → (after.faults ≡ before.faults) × (e.faults filled ≡ e.faults second)
  pub input : SameInput before after
  pub output : SameOutput before after
  pub clock : SameClock before after
  pub net : SameNet before after
