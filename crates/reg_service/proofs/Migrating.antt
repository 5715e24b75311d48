-- What a file of format 1 opens to, and what its recoded payloads open to.
use Rattle.std.proofs.Common.{◌≡◌, ◌∷◌, [], List, ℕ, Option, Some, None, Result, Ok, Err, true, false, refl, ap, sym, ◌∙◌, subst, arith, inl, inr}
use Rattle.std.specs.Prelude.{IfSome, ⊤}
use Rattle.reg_outside.specs.Disk.{Changes, Leaves, Same}
use Rattle.reg_outside.specs.Faults.{Rose}
use Rattle.reg_outside.specs.declared.disk.Disk.{Ghosts}
use Rattle.reg_terms.specs.declared.command.Stamped.{Stamped}
use Rattle.reg_machine.specs.History.{State, start}
use Rattle.reg_wire.specs.Payload.{stamped_of}
use Rattle.reg_wire.specs.OldPayload.{stamped_of_old}
use Rattle.reg_keep.specs.Begin.{is_unfit}
use Rattle.reg_keep.specs.Frames.{opened, opened_old, begins_new, payloads_in, only_payloads, payloads_of_records}
use Rattle.reg_keep.specs.declared.begin.InitFault.{InitFault}
use Rattle.reg_keep.specs.declared.begin.InitFault.TheVariants as init_fault
use Rattle.reg_keep.specs.declared.open.OpenFault.{OpenFault}
use Rattle.reg_keep.specs.declared.open.OpenFault.TheVariants as open_fault
use Rattle.reg_recode.specs.Recoded.{recoded_payload, recoded, all_recoded, payloads_recoded, WasOrRecoded}
use Rattle.reg_service.specs.Opening.{after_stamped, after_payload, after_old_payload, or_place, and_then, judged, judged_old, judged_all, judged_all_old, opens, opens_old}
use Rattle.reg_service.specs.Migrating.{WasOrMigrated, OpensOld, IsDamagedOld, OpenedOld, MigrateEnds, fault_of_fill, fault_of_open}
use Rattle.reg_service.specs.declared.migration.MigrateFault.{MigrateFault}
use Rattle.reg_service.proofs.Keeping.{leaves_by}
use Rattle.reg_service.proofs.Opens.{Records, judged_same}

-- recoded bytes are read in format 2 as they were in format 1
abbrev pub SaysTheSame : Type 0
SaysTheSame = (bytes : List ℕ) → stamped_of (recoded_payload bytes) ≡ stamped_of_old bytes

after_recoded : SaysTheSame → (s : State) (bytes : List ℕ) → after_payload s (recoded_payload bytes) ≡ after_old_payload s bytes
unfolding after_payload after_old_payload
after_recoded law s bytes = ap (λ (o : Option Stamped). after_stamped s o) (law bytes)

same_then : (o : Result State ℕ) (f g : State → Result State ℕ) → ((a : State) → f a ≡ g a) → and_then o f ≡ and_then o g
same_then (Ok a) f g same = same a
same_then (Err place) f g same = refl

-- recoded records are judged as they were
pub judged_recoded : SaysTheSame → (s : State) (old : Records) → judged s (recoded old) ≡ judged_old s old
judged_recoded law s [] = refl
judged_recoded law s (r ∷ rs) =
    ap (λ (o : Option State). and_then (or_place r.0 o) (λ a. judged a (recoded rs))) (after_recoded law s r.1)
    ∙ same_then (or_place r.0 (after_old_payload s r.1)) (λ a. judged a (recoded rs)) (λ a. judged_old a rs) (λ a. judged_recoded law a rs)

damaged_frames : (at : ℕ) (held : Option (List ℕ)) → IfSome held (λ bytes. opened_old bytes ≡ Err at) → IfSome held (λ bytes. begins_new bytes ≡ false) → IsDamagedOld at held
damaged_frames at None is own = tt
damaged_frames at (Some file) is own = (own, ap judged_all_old is)

-- a file that isn't read
pub opened_not : (f : OpenFault) (held : Option (List ℕ)) (was is : ℕ) → ((at : ℕ) → f ≡ open_fault.Damaged at → IfSome held (λ bytes. opened_old bytes ≡ Err at))
    → ((at : ℕ) → f ≡ open_fault.Damaged at → IfSome held (λ bytes. begins_new bytes ≡ false)) → (f ≡ open_fault.OtherFormat → IfSome held (λ bytes. begins_new bytes ≡ true)) → (f ≡ open_fault.Fault → Rose was is)
    → ((at : ℕ) → f ≡ open_fault.Damaged at → is ≡ was) → (f ≡ open_fault.OtherFormat → is ≡ was) → (f ≡ open_fault.NoMemory → is ≡ was) → OpenedOld {T = ⊤} (Err f) held was is
opened_not (open_fault.Damaged at) held was is damaged own other rose still still_other still_memory = (damaged_frames at held (damaged at refl) (own at refl), still at refl)
opened_not open_fault.OtherFormat held was is damaged own other rose still still_other still_memory = (other refl, still_other refl)
opened_not open_fault.Fault held was is damaged own other rose still still_other still_memory = rose refl
opened_not open_fault.NoMemory held was is damaged own other rose still still_other still_memory = still_memory refl

recoded_opens : SaysTheSame → (o p : Result Records ℕ) (s : State) → judged_all_old p ≡ Ok s → only_payloads o ≡ only_payloads (all_recoded p) → judged_all o ≡ Ok s
recoded_opens law (Ok records) (Ok old) s is same =
    let texts_same : payloads_of_records records ≡ payloads_of_records (recoded old) = cc in
    judged_same start s (recoded old) records texts_same (judged_recoded law start old ∙ is)
recoded_opens law (Err place) (Ok old) s is same = absurd (cc)
recoded_opens law o (Err place) s is same = absurd (cc)

-- a file with the payloads of one of format 1, recoded, opens to what that opens to
opens_as : SaysTheSame → (c file : List ℕ) → ((s : State) × (opens_old file ≡ Ok s)) → payloads_in c ≡ payloads_recoded file → opens c ≡ opens_old file
opens_as law c file found same = recoded_opens law (opened c) (opened_old file) found.0 found.1 same ∙ sym found.1

no_records : (r : Result Records ℕ) → only_payloads r ≡ Ok [] → r ≡ Ok []
no_records (Ok []) e = refl
no_records (Ok (r ∷ rs)) e = absurd (cc)
no_records (Err place) e = absurd (cc)

opens_empty : (c : List ℕ) → payloads_in c ≡ Ok [] → opens c ≡ Ok start
opens_empty c e = ap judged_all (no_records (opened c) e)

migrated : SaysTheSame → (file : List ℕ) (was : List ℕ → Type 0) → ((s : State) × (opens_old file ≡ Ok s)) → (c : List ℕ) → WasOrRecoded was (Some file) c → WasOrMigrated file was c
migrated law file was found c (inl before) = inl before
migrated law file was found c (inr (inl damaged)) = inr (inl (damaged.0, ap judged_all damaged.1))
migrated law file was found c (inr (inr (inl empty))) = inr (inr (inl (opens_empty c empty)))
migrated law file was found c (inr (inr (inr whole))) = inr (inr (inr (opens_as law c file found whole)))

-- what a crash may leave of a disk to which a file was recoded
pub told_images : {E : Type 0} → SaysTheSame → (moment : E → ℕ) (since : E → ℕ → List ℕ → Type 0) (was : List ℕ → Type 0) (held : Option (List ℕ)) (old new : E) → OpensOld held
    → Leaves moment since (WasOrRecoded was held) old new → IfSome held (λ file. Leaves moment since (WasOrMigrated file was) old new)
told_images law moment since was None old new found images = tt
told_images law moment since was (Some file) old new found images =
    leaves_by moment since (WasOrRecoded was (Some file)) (WasOrMigrated file was) old new (migrated law file was found.1) images

-- and of one that wasn't touched
pub same_images : {E : Type 0} (moment : E → ℕ) (since : E → ℕ → List ℕ → Type 0) (was : List ℕ → Type 0) (held : Option (List ℕ)) (old : E) → ((c : List ℕ) → since old (moment old) c → was c)
    → IfSome held (λ file. Leaves moment since (WasOrMigrated file was) old old)
same_images moment since was None old only = tt
same_images moment since was (Some file) old only = record { later = omega arith; each = λ c left. inl (only c left); since = λ t c le left. inl left }

pub told_done : SaysTheSame → (leaves : List ℕ → Type 0) (held : Option (List ℕ)) → OpensOld held → ((c : List ℕ) → leaves c → IfSome held (λ bytes. payloads_in c ≡ payloads_recoded bytes))
    → IfSome held (λ file. (c : List ℕ) → leaves c → opens c ≡ opens_old file)
told_done law leaves None found after = tt
told_done law leaves (Some file) found after = λ c here. opens_as law c file found.1 (after c here)

pub told_bytes : SaysTheSame → (held now : Option (List ℕ)) → OpensOld held → IfSome held (λ bytes. IfSome now (λ file. payloads_in file ≡ payloads_recoded bytes)) → IfSome held (λ file. IfSome now (λ c. opens c ≡ opens_old file))
told_bytes law None now found same = tt
told_bytes law (Some file) None found same = tt
told_bytes law (Some file) (Some c) found same = opens_as law c file found.1 same

same_both : (P Q : Type 0) (held : Option (List ℕ)) → IfSome held (λ file. is_unfit file ≡ true) → IfSome held (λ file. is_unfit file ≡ true → P) → IfSome held (λ file. is_unfit file ≡ true → Q) → IfSome held (λ file. Q × P)
same_both P Q None unfit p q = tt
same_both P Q (Some file) unfit p q = (q unfit, p unfit)

-- a file that opens as one of format 1, where a second one wasn't filled
pub ended_writing : {E : Type 0} (g : Ghosts E) (f : InitFault) (held : Option (List ℕ)) (count : ℕ) (old new : E) → OpensOld held
    → (f ≡ init_fault.Exists → IfSome (g.contents old) (λ bytes. is_unfit bytes ≡ true)) → (f ≡ init_fault.Fault → Rose (g.faults old) (g.faults new)) → (f ≡ init_fault.Exists → g.faults new ≡ g.faults old)
    → IfSome (g.contents old) (λ bytes. is_unfit bytes ≡ true → Changes g.moment g.may_leave g.left_since Same old new) → IfSome (g.contents old) (λ bytes. is_unfit bytes ≡ true → g.contents new ≡ g.contents old)
    → MigrateEnds {T = ⊤} g (Err (fault_of_fill f)) held count count old new
ended_writing g init_fault.Exists held count old new found exists fault still untouched same =
    (found, exists refl, refl, still refl, same_both (Changes g.moment g.may_leave g.left_since Same old new) (g.contents new ≡ g.contents old) (g.contents old) (exists refl) untouched same)
ended_writing g init_fault.Fault held count old new found exists fault still untouched same = inr (fault refl, refl)

-- one that doesn't open
pub ended_opening : {E : Type 0} (g : Ghosts E) (f : OpenFault) (held : Option (List ℕ)) (was is : ℕ) (old : E) → OpenedOld {T = ⊤} (Err f) held was is → MigrateEnds {T = ⊤} g (Err (fault_of_open f)) held was is old old
ended_opening g (open_fault.Damaged at) held was is old o = (o.0, o.1, refl)
ended_opening g open_fault.OtherFormat held was is old o = (o.0, o.1, refl)
ended_opening g open_fault.Fault held was is old o = inl (o, refl)
ended_opening g open_fault.NoMemory held was is old o = (o, refl)

-- the first disk's count of faults stayed
pub ended_still : {T E : Type 0} (g : Ghosts E) (r : Result T MigrateFault) (held : Option (List ℕ)) (was is : ℕ) (old new : E) → is ≡ was → MigrateEnds g r held is is old new → MigrateEnds g r held was is old new
ended_still g r held was is old new still ends = subst (λ (n : ℕ). MigrateEnds g r held n is old new) still ends
