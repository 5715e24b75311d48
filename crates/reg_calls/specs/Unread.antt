-- What reading gives, and what a function returned of it.
use Rattle.std.specs.Prelude.{◌≡◌, ℕ, List, Result, Ok, Err}
use Rattle.reg_terms.specs.declared.refusal.Refusal.{Refusal}
use Rattle.reg_terms.specs.declared.refusal.Refusal.TheVariants.{BadRequest, BadName, BadMoment}
use Rattle.reg_calls.specs.declared.unread.Unread.{Unread}
use Rattle.reg_calls.specs.declared.unread.Unread.TheVariants.{Memory, Refused}

-- why a function failed is what reading gives, unless memory ran out
abbrev pub Fails : {Y : Type 0} → Unread → Result Y Refusal → Type 0
Fails Memory read = Unit {0}
Fails (Refused r) read = read ≡ Err r

-- what a function returned is what reading gives, unless memory ran out
abbrev pub Gives : {X : Type 0} → Result X Unread → Result X Refusal → Type 0
Gives (Ok x) read = read ≡ Ok x
Gives (Err e) read = Fails e read

-- a fault is BadRequest of this field, or memory ran out
abbrev pub IsBad : Unread → List ℕ → Type 0
IsBad Memory field = Unit {0}
IsBad (Refused r) field = r ≡ BadRequest field

-- a fault is BadName of this field, or memory ran out
abbrev pub IsBadName : Unread → List ℕ → Type 0
IsBadName Memory field = Unit {0}
IsBadName (Refused r) field = r ≡ BadName field

-- a fault is BadMoment of this field, or memory ran out
abbrev pub IsBadMoment : Unread → List ℕ → Type 0
IsBadMoment Memory field = Unit {0}
IsBadMoment (Refused r) field = r ≡ BadMoment field
