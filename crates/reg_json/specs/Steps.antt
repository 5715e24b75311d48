-- Reading in steps, with the first fault that is met.
use Rattle.std.specs.Prelude.{◌≡◌, ℕ, List, Bool, true, Result, Ok, Err, if◌then◌else◌}
use Rattle.reg_terms.specs.declared.refusal.Refusal.{Refusal}
use Rattle.reg_terms.specs.declared.refusal.Refusal.TheVariants.{BadRequest, BadName, BadMoment}
use Rattle.reg_json.specs.declared.fault.ReadFault.{ReadFault}
use Rattle.reg_json.specs.declared.fault.ReadFault.TheVariants.{Memory, Refused}

-- a step and what follows it, up to the first refusal
infixl 10 ◌>>=◌
abbrev pub ◌>>=◌ : {A B : Type 0} → Result A Refusal → (A → Result B Refusal) → Result B Refusal
(Ok x) >>= f = f x
(Err e) >>= f = Err e

-- a condition on a field
abbrev pub ensured : Bool → List ℕ → Result Bool Refusal
ensured b field = if b then Ok true else Err (BadRequest field)

-- why a function failed is what reading gives, unless memory ran out
abbrev pub Fails : {Y : Type 0} → ReadFault → Result Y Refusal → Type 0
Fails Memory read = Unit {0}
Fails (Refused r) read = read ≡ Err r

-- what a function returned, seen by view, is what reading gives, unless memory ran out
abbrev pub Gives : {X Y : Type 0} → (X → Y) → Result X ReadFault → Result Y Refusal → Type 0
Gives view (Ok x) read = read ≡ Ok (view x)
Gives view (Err e) read = Fails e read

-- a fault is BadRequest of this field, or memory ran out
abbrev pub IsBad : ReadFault → List ℕ → Type 0
IsBad Memory field = Unit {0}
IsBad (Refused r) field = r ≡ BadRequest field

-- a fault is BadName of this field, or memory ran out
abbrev pub IsBadName : ReadFault → List ℕ → Type 0
IsBadName Memory field = Unit {0}
IsBadName (Refused r) field = r ≡ BadName field

-- a fault is BadMoment of this field, or memory ran out
abbrev pub IsBadMoment : ReadFault → List ℕ → Type 0
IsBadMoment Memory field = Unit {0}
IsBadMoment (Refused r) field = r ≡ BadMoment field
