-- What a report prints after a history at its clock, or why it is refused.
use Rattle.std.specs.Prelude.{◌≡◌, ℕ, List, Result, Ok, Err, Vec}
use Rattle.reg_terms.specs.declared.refusal.Refusal.{Refusal}
use Rattle.reg_machine.specs.History.{State}
use Rattle.reg_access.specs.Reminders.{reminders_of}
use Rattle.reg_words.specs.declared.task.Report.{Report}
use Rattle.reg_words.specs.declared.task.Report.TheVariants as report
use Rattle.reg_report.specs.Attestations.{AttestationTold, AttestedTold}
use Rattle.reg_report.specs.Permissions.{PermitTold, PermittedTold}
use Rattle.reg_report.specs.Whys.{WhyTold}

-- what a report prints, or why it is refused: there is one such answer
unfoldable pub Reported : Report → State → Result (List ℕ) Refusal → Type 0
Reported (report.Permit subject resource action) s told =
    PermitTold s subject resource action told
Reported (report.Permitted resource action) s told = PermittedTold s resource action told
Reported (report.Attested group at) s told = AttestedTold s group at told
Reported (report.Attestation group) s told = AttestationTold s group told
Reported report.Reminders s told = told ≡ Ok (reminders_of s.history s.clock)
Reported (report.Why subject group) s told = WhyTold s subject group told

-- what is told, by its bytes
abbrev pub bytes_told : {Z : Type 0} → Result (Vec ℕ Z) Refusal → Result (List ℕ) Refusal
bytes_told (Ok bytes) = Ok bytes.items
bytes_told (Err refusal) = Err refusal
