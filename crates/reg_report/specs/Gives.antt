-- What a function gives that may find no memory.
use Rattle.std.specs.Prelude.{◌≡◌, Result, Ok, Err}
use Rattle.reg_terms.specs.declared.refusal.Refusal.{Refusal}
use Rattle.reg_report.specs.declared.asked.Unreported.{Unreported}
use Rattle.reg_report.specs.declared.asked.Unreported.TheVariants as unreported

-- it is this refusal, unless there was no memory
abbrev pub IsRefusal : Unreported → Refusal → Type 0
IsRefusal unreported.Memory refusal = Unit {0}
IsRefusal (unreported.Refused told) refusal = told ≡ refusal

-- why nothing is given is what is due, unless there was no memory
abbrev pub Fails : {T : Type 0} → Unreported → Result T Refusal → Type 0
Fails unreported.Memory due = Unit {0}
Fails (unreported.Refused told) due = due ≡ Err told

-- what a function gives is what is due, unless there was no memory
abbrev pub Gives : {T : Type 0} → Result T Unreported → Result T Refusal → Type 0
Gives (Ok x) due = due ≡ Ok x
Gives (Err e) due = Fails e due
