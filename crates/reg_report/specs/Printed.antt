-- What is printed of what is asked, or why it is refused.
use Rattle.std.specs.Prelude.{◌≡◌, ℕ, List, Result, Ok, Err, Vec}
use Rattle.reg_terms.specs.declared.refusal.Refusal.{Refusal}
use Rattle.reg_report.specs.declared.asked.Unreported.{Unreported}
use Rattle.reg_report.specs.declared.asked.Unreported.TheVariants as unreported

-- what is asked is refused, or these bytes are printed of it
abbrev pub Printed : {A : Type 0} → Result A Refusal → (A → List ℕ → Type 0)
    → Result (List ℕ) Refusal → Type 0
Printed (Err refusal) prints told = told ≡ Err refusal
Printed (Ok asked) prints (Ok bytes) = prints asked bytes
Printed (Ok asked) prints (Err refusal) = ⊥

-- what a function gives is told so, unless there was no memory
abbrev pub Tells : {Z : Type 0} → Result (Vec ℕ Z) Unreported
    → (Result (List ℕ) Refusal → Type 0) → Type 0
Tells (Ok bytes) told = told (Ok bytes.items)
Tells (Err unreported.Memory) told = Unit {0}
Tells (Err (unreported.Refused refusal)) told = told (Err refusal)
