-- What a recoded payload says.
use Rattle.std.proofs.Common.{◌≡◌, ℕ, List, [], Option, Some, None, refl}
use Rattle.reg_terms.specs.declared.command.Stamped.{Stamped}
use Rattle.reg_wire.specs.Reading.{moment_at, number_at}
use Rattle.reg_wire.specs.Payload.{payload, stamped_of, IsWritable}
use Rattle.reg_wire.specs.OldPayload.{old_payload, stamped_of_old, IsOld}
use Rattle.reg_recode.specs.Recoded.{payload_or_none, recoded_payload}

abbrev pub ReadsBack : Type 0
ReadsBack = (stamped : Stamped) → IsWritable stamped → stamped_of (payload stamped) ≡ Some stamped

abbrev pub ReadsOld : Type 0
ReadsOld = (bytes : List ℕ) (stamped : Stamped) → stamped_of_old bytes ≡ Some stamped → (old_payload stamped ≡ bytes) × IsWritable stamped × IsOld stamped

-- the empty payload is no command's
nothing : stamped_of [] ≡ None
unfolding stamped_of moment_at number_at
nothing = refl

same_found : ReadsBack → ReadsOld → (bytes : List ℕ) (found : Option Stamped) → stamped_of_old bytes ≡ found → stamped_of (payload_or_none found) ≡ found
same_found back old bytes None is = nothing
same_found back old bytes (Some stamped) is = back stamped (old bytes stamped is).1

pub same : ReadsBack → ReadsOld → (bytes : List ℕ) → stamped_of (recoded_payload bytes) ≡ stamped_of_old bytes
unfolding recoded_payload
same back old bytes = same_found back old bytes (stamped_of_old bytes) refl
