-- A journal of format 1 written as one of format 2: how that ends, and what it leaves.
use Rattle.std.specs.Prelude.{◌≡◌, ◌⊎◌, ℕ, List, true, false, Option, Result, Ok, Err, IfSome}
use Rattle.reg_outside.specs.Disk.{Changes, Same}
use Rattle.reg_outside.specs.Faults.{Rose}
use Rattle.reg_outside.specs.declared.disk.Disk.{Ghosts}
use Rattle.reg_machine.specs.History.{State, start}
use Rattle.reg_keep.specs.Begin.{is_unfit}
use Rattle.reg_keep.specs.Frames.{begins_new}
use Rattle.reg_keep.specs.declared.begin.InitFault.{InitFault}
use Rattle.reg_keep.specs.declared.begin.InitFault.TheVariants as init_fault
use Rattle.reg_keep.specs.declared.open.OpenFault.{OpenFault}
use Rattle.reg_keep.specs.declared.open.OpenFault.TheVariants as open_fault
use Rattle.reg_recode.specs.Recoded.{AreRecoded}
use Rattle.reg_service.specs.Opening.{opens, opens_old}
use Rattle.reg_service.specs.declared.migration.MigrateFault.{MigrateFault}
use Rattle.reg_service.specs.declared.migration.MigrateFault.TheVariants as fault

-- an image of before, or a file that is damaged, or opens to the empty history, or to what a file of
-- format 1 opens to
abbrev pub WasOrMigrated : List ℕ → (List ℕ → Type 0) → List ℕ → Type 0
WasOrMigrated file was c =
    was c ⊎ (((at : ℕ) × (opens c ≡ Err at)) ⊎ ((opens c ≡ Ok start)
    ⊎ (opens c ≡ opens_old file)))

-- the file isn't of format 2, and opens as one of format 1, where it is told
abbrev pub OpensOld : Option (List ℕ) → Type 0
OpensOld held =
    IfSome held (λ file. (begins_new file ≡ false) × ((s : State) × (opens_old file ≡ Ok s)))

-- these are the recoded records of a file that opens as one of format 1, where it is told
abbrev pub AreMigrated : Option (List ℕ) → List (ℕ × List ℕ) → Type 0
AreMigrated held records = AreRecoded held records × OpensOld held

-- the file isn't of format 2, and as one of format 1 it is damaged at this place, where it is told
abbrev pub IsDamagedOld : ℕ → Option (List ℕ) → Type 0
IsDamagedOld at held =
    IfSome held (λ file. (begins_new file ≡ false) × (opens_old file ≡ Err at))

-- How it ended to open a file as one of format 1. Its disk's count of faults was and is such.
abbrev pub OpenedOld : {T : Type 0} → Result T OpenFault → Option (List ℕ) → (was is : ℕ) → Type 0
OpenedOld (Ok done) held was is = OpensOld held × (is ≡ was)
OpenedOld (Err (open_fault.Damaged at)) held was is = IsDamagedOld at held × (is ≡ was)
OpenedOld (Err open_fault.OtherFormat) held was is =
    IfSome held (λ file. begins_new file ≡ true) × (is ≡ was)
OpenedOld (Err open_fault.Fault) held was is = Rose was is
OpenedOld (Err open_fault.NoMemory) held was is = is ≡ was

-- nothing of a disk changed, where it is told
abbrev pub IsSame : {D : Type 0} → Ghosts D → D → D → Type 0
IsSame g old new =
    IfSome (g.contents old) (λ file. (g.contents new ≡ g.contents old)
    × Changes g.moment g.may_leave g.left_since Same old new)

-- How it ended to migrate this file of a first disk, whose count of faults was and is such, to a
-- second disk. What wasn't begun to be written to is the very disk from before.
abbrev pub MigrateEnds : {T E : Type 0} → Ghosts E → Result T MigrateFault → Option (List ℕ)
    → (was is : ℕ) → (old new : E) → Type 0
MigrateEnds g (Ok done) held was is old new =
    OpensOld held × IfSome (g.contents old) (λ file. is_unfit file ≡ false) × (is ≡ was)
    × (g.faults new ≡ g.faults old)
MigrateEnds g (Err fault.OtherFormat) held was is old new =
    IfSome held (λ file. begins_new file ≡ true) × (is ≡ was) × (new ≡ old)
MigrateEnds g (Err (fault.Damaged at)) held was is old new =
    IsDamagedOld at held × (is ≡ was) × (new ≡ old)
MigrateEnds g (Err fault.Exists) held was is old new =
    OpensOld held × IfSome (g.contents old) (λ file. is_unfit file ≡ true) × (is ≡ was)
    × (g.faults new ≡ g.faults old) × IsSame g old new
MigrateEnds g (Err fault.Disk) held was is old new =
    (Rose was is × (new ≡ old)) ⊎ (Rose (g.faults old) (g.faults new) × (is ≡ was))
MigrateEnds g (Err fault.Memory) held was is old new = (is ≡ was) × (new ≡ old)

-- why migrating ended, where the first file wasn't read
abbrev pub fault_of_open : OpenFault → MigrateFault
fault_of_open (open_fault.Damaged at) = fault.Damaged at
fault_of_open open_fault.OtherFormat = fault.OtherFormat
fault_of_open open_fault.Fault = fault.Disk
fault_of_open open_fault.NoMemory = fault.Memory

-- the same, where the second file wasn't filled
abbrev pub fault_of_fill : InitFault → MigrateFault
fault_of_fill init_fault.Exists = fault.Exists
fault_of_fill init_fault.Fault = fault.Disk
