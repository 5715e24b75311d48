-- What migrating did, from how its call ended.
use Rattle.std.proofs.Common.{MutBor, ◌≡◌, List, ℕ, Option, Some, None, Result, Ok, Err, refl, ap, subst, inl, inr, arith}
use Rattle.std.specs.Prelude.{IfSome, OnOk}
use Rattle.reg_outside.specs.Disk.{Changes, Leaves, Same}
use Rattle.reg_outside.specs.declared.disk.Disk.{Ghosts}
use Rattle.reg_service.specs.Migrating.{WasOrMigrated}
use Rattle.reg_service.specs.Migrating as call
use Rattle.reg_service.specs.Opening.{opens, opens_old}
use Rattle.reg_service.specs.declared.migration.MigrateFault.{MigrateFault}
use Rattle.reg_service.specs.declared.migration.MigrateFault.TheVariants as fault
use Rattle.reg_run.specs.Crash.{IsUntouched, Seen, seen}
use Rattle.reg_run.specs.Migrating.{DidMigrate, FailedOne, MigrateEnds, end_of_migrate}
use Rattle.reg_run.specs.Status.{status_of}
use Rattle.reg_run.specs.World.{World, holding}
use Rattle.reg_run.specs.declared.status.End.{End}
use Rattle.reg_run.specs.declared.status.End.TheVariants as the_end
use Rattle.reg_run.proofs.Crashing.{untouched_same}

-- how it ended
ends_so : {T E : Type 0} (h : Ghosts E) (r : Result T MigrateFault) (held : Option (List ℕ)) (was is : ℕ) (second filled : E) → call.MigrateEnds h r held was is second filled
    → MigrateEnds (end_of_migrate r) held (h.contents second) (FailedOne was is (h.faults second) (h.faults filled) (filled ≡ second)) (filled ≡ second)
ends_so h (Ok done) held was is second filled (opened, fit, still, still2) = (opened, fit)
ends_so h (Err fault.OtherFormat) held was is second filled (other, still, stays) = (other, stays)
ends_so h (Err (fault.Damaged at)) held was is second filled (damaged, still, stays) = (damaged, stays)
ends_so h (Err fault.Exists) held was is second filled (opened, unfit, still, still2, same) = (opened, unfit)
ends_so h (Err fault.Disk) held was is second filled failed = failed
ends_so h (Err fault.Memory) held was is second filled (still, stays) = stays

-- what holds after Ok holds at status 0
done_so : {T : Type 0} (r : Result T MigrateFault) (P : Type 0) → OnOk r P → status_of (end_of_migrate r) ≡ 0 → P
done_so (Ok done) P p is = p
done_so (Err fault.OtherFormat) P p is = absurd (omega (arith, is))
done_so (Err (fault.Damaged at)) P p is = absurd (omega (arith, is))
done_so (Err fault.Exists) P p is = absurd (omega (arith, is))
done_so (Err fault.Disk) P p is = absurd (omega (arith, is))
done_so (Err fault.Memory) P p is = absurd (omega (arith, is))

-- a second disk of whose bytes nothing changed is untouched
untouched_told : {E : Type 0} (h : Ghosts E) (second filled : E) (held : Option (List ℕ)) → ((c : List ℕ) → h.left_since second (h.moment second) c → h.may_leave second c)
    → IfSome held (λ bytes. (h.contents filled ≡ h.contents second) × Changes h.moment h.may_leave h.left_since Same second filled) → IfSome held (λ bytes. IsUntouched (seen h second filled))
untouched_told h second filled None only same = tt
untouched_told h second filled (Some bytes) only same = let stays = same in untouched_same h second filled stays.1 only stays.0

-- so is one that isn't fit
unfit_so : {T E : Type 0} (h : Ghosts E) (r : Result T MigrateFault) (held : Option (List ℕ)) (was is : ℕ) (second filled : E) → ((c : List ℕ) → h.left_since second (h.moment second) c → h.may_leave second c)
    → call.MigrateEnds h r held was is second filled → status_of (end_of_migrate r) ≡ 10 → IfSome (h.contents second) (λ bytes. IsUntouched (seen h second filled))
unfit_so h (Ok done) held was is second filled only ends ten = absurd (omega (arith, ten))
unfit_so h (Err fault.OtherFormat) held was is second filled only ends ten = absurd (omega (arith, ten))
unfit_so h (Err (fault.Damaged at)) held was is second filled only ends ten = absurd (omega (arith, ten))
unfit_so h (Err fault.Exists) held was is second filled only (opened, unfit, still, still2, same) ten = untouched_told h second filled (h.contents second) only same
unfit_so h (Err fault.Disk) held was is second filled only ends ten = absurd (omega (arith, ten))
unfit_so h (Err fault.Memory) held was is second filled only ends ten = absurd (omega (arith, ten))

-- no count of faults rose, unless a disk failed
still_so : {T E : Type 0} (h : Ghosts E) (r : Result T MigrateFault) (held : Option (List ℕ)) (was is : ℕ) (second filled : E) → call.MigrateEnds h r held was is second filled → (status_of (end_of_migrate r) ≡ 4 → ⊥)
    → (is ≡ was) × (h.faults filled ≡ h.faults second)
still_so h (Ok done) held was is second filled (opened, fit, still, still2) not = (still, still2)
still_so h (Err fault.OtherFormat) held was is second filled (other, still, stays) not = (still, rw stays refl)
still_so h (Err (fault.Damaged at)) held was is second filled (damaged, still, stays) not = (still, rw stays refl)
still_so h (Err fault.Exists) held was is second filled (opened, unfit, still, still2, same) not = (still, still2)
still_so h (Err fault.Disk) held was is second filled ends not = absurd (not refl)
still_so h (Err fault.Memory) held was is second filled (still, stays) not = (still, rw stays refl)

-- each image of the second disk since the call is what migrating may leave
each_so : {E : Type 0} (h : Ghosts E) (held : Option (List ℕ)) (second filled : E) → IfSome held (λ file. Leaves h.moment h.left_since (WasOrMigrated file (h.may_leave second)) second filled)
    → IfSome held (λ file. (c : List ℕ) → h.left_since filled (h.moment second) c → WasOrMigrated file (h.may_leave second) c)
each_so h None second filled leaves = tt
each_so h (Some file) second filled leaves = leaves.each

-- What migrating did over a first disk and a second one.
migrated : {T D E : Type 0} (g : Ghosts D) (h : Ghosts E) (w : World) (r : Result T MigrateFault) (first read : D) (second filled : E) → ((c : List ℕ) → g.left_since first (g.moment first) c → g.may_leave first c)
    → ((c : List ℕ) → h.left_since second (h.moment second) c → h.may_leave second c) → call.MigrateEnds h r (g.contents first) (g.faults first) (g.faults read) second filled
    → Changes g.moment g.may_leave g.left_since Same first read → g.contents read ≡ g.contents first
    → IfSome (g.contents first) (λ file. Leaves h.moment h.left_since (WasOrMigrated file (h.may_leave second)) second filled)
    → OnOk r (IfSome (g.contents first) (λ file. (c : List ℕ) → h.may_leave filled c → opens c ≡ opens_old file))
    → OnOk r (IfSome (g.contents first) (λ file. IfSome (h.contents filled) (λ bytes. opens bytes ≡ opens_old file)))
    → DidMigrate h (seen g first read) (end_of_migrate r) (holding g w first) (holding g w read) second filled
migrated g h w r first read second filled only only2 ends crash same leaves done whole = record {
  ends = ends_so h r (g.contents first) (g.faults first) (g.faults read) second filled ends;
  kept = untouched_same g first read crash only same;
  filled_in = each_so h (g.contents first) second filled leaves;
  done = done_so r (IfSome (g.contents first) (λ file. (c : List ℕ) → h.may_leave filled c → opens c ≡ opens_old file)) done;
  whole = done_so r (IfSome (g.contents first) (λ file. IfSome (h.contents filled) (λ bytes. opens bytes ≡ opens_old file))) whole;
  unfit = unfit_so h r (g.contents first) (g.faults first) (g.faults read) second filled only2 ends;
  still = still_so h r (g.contents first) (g.faults first) (g.faults read) second filled ends;
  input = (refl, refl);
  output = (refl, refl, refl);
  clock = refl;
  net = refl;
}

-- what a loan of a disk tells is what the disk does
abbrev pub loan : {E : Type 0} → Ghosts E → Ghosts (MutBor E)
loan h = record {
  contents = λ d. h.contents d.now;
  may_leave = λ d. h.may_leave d.now;
  moment = λ d. h.moment d.now;
  left_since = λ d. h.left_since d.now;
  faults = λ d. h.faults d.now;
  name = λ d. d.ghost_name;
}

-- what a disk that was lent ended as, of the disk itself
ends_lent : {unasked too failed failed2 : Type 0} (end : End) (held second : Option (List ℕ)) → (unasked → too) → (failed → failed2) → MigrateEnds end held second failed unasked → MigrateEnds end held second failed2 too
ends_lent the_end.Done held second stays fails ends = ends
ends_lent the_end.Usage held second stays fails ends = ends
ends_lent the_end.Memory held second stays fails ends = stays ends
ends_lent the_end.Disk held second stays fails ends = fails ends
ends_lent the_end.Input held second stays fails ends = ends
ends_lent the_end.Output held second stays fails ends = ends
ends_lent (the_end.Damaged at) held second stays fails ends = (ends.0, stays ends.1)
ends_lent the_end.Listener held second stays fails ends = ends
ends_lent the_end.TooMuch held second stays fails ends = ends
ends_lent the_end.Exists held second stays fails ends = ends
ends_lent the_end.Refused held second stays fails ends = ends
ends_lent the_end.OtherFormat held second stays fails ends = (ends.0, stays ends.1)

failed_lent : {unasked too : Type 0} (faults later second more : ℕ) → (unasked → too) → FailedOne faults later second more unasked → FailedOne faults later second more too
failed_lent faults later second more stays (inl failed) = inl (failed.0, stays failed.1)
failed_lent faults later second more stays (inr failed) = inr failed

same_lent : {E : Type 0} (a b : MutBor E) → b ≡ a → b.now ≡ a.now
same_lent {E = E} a b is = ap (λ (d : MutBor E). d.now) is

did_lent : {E : Type 0} (h : Ghosts E) (d : Seen) (end : End) (before after : World) (a b : MutBor E) → DidMigrate (loan h) d end before after a b → DidMigrate h d end before after a.now b.now
did_lent h d end before after a b did = record {
  ends = ends_lent end before.held (h.contents a.now) (same_lent a b) (failed_lent before.faults after.faults (h.faults a.now) (h.faults b.now) (same_lent a b)) did.ends;
  kept = did.kept;
  filled_in = did.filled_in;
  done = did.done;
  whole = did.whole;
  unfit = did.unfit;
  still = did.still;
  input = did.input;
  output = did.output;
  clock = did.clock;
  net = did.net;
}

-- What migrating did over a first disk and a second one that was lent, and that ended as the loan.
pub migrated_lent : {T D E : Type 0} (g : Ghosts D) (h : Ghosts E) (w : World) (r : Result T MigrateFault) (first read : D) (a b : MutBor E) (filled : E) → b.now ≡ filled
    → ((c : List ℕ) → g.left_since first (g.moment first) c → g.may_leave first c) → ((c : List ℕ) → h.left_since a.now (h.moment a.now) c → h.may_leave a.now c)
    → call.MigrateEnds (loan h) r (g.contents first) (g.faults first) (g.faults read) a b
    → Changes g.moment g.may_leave g.left_since Same first read → g.contents read ≡ g.contents first
    → IfSome (g.contents first) (λ file. Leaves (λ (d : MutBor E). h.moment d.now) (λ (d : MutBor E). h.left_since d.now) (WasOrMigrated file (h.may_leave a.now)) a b)
    → OnOk r (IfSome (g.contents first) (λ file. (c : List ℕ) → h.may_leave b.now c → opens c ≡ opens_old file))
    → OnOk r (IfSome (g.contents first) (λ file. IfSome (h.contents b.now) (λ bytes. opens bytes ≡ opens_old file)))
    → DidMigrate h (seen g first read) (end_of_migrate r) (holding g w first) (holding g w read) a.now filled
migrated_lent {E = E} g h w r first read a b filled is only only2 ends crash same leaves done whole =
    subst (λ (v : E). DidMigrate h (seen g first read) (end_of_migrate r) (holding g w first) (holding g w read) a.now v) is
    (did_lent h (seen g first read) (end_of_migrate r) (holding g w first) (holding g w read) a b (migrated g (loan h) w r first read a b only only2 ends crash same leaves done whole))
