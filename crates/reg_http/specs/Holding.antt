-- What is held of the bytes of a connection.
use Rattle.std.specs.Prelude.{◌≡◌, ℕ, ◌*◌, ◌≤◌, List, length, drop, Option, Some, None, IsSome, IfSome}
use Rattle.reg_http.specs.declared.call.Call.{Call}
use Rattle.reg_http.specs.declared.head.Head.{Head}
use Rattle.reg_http.specs.declared.held.Look.{Look}
use Rattle.reg_http.specs.declared.held.Look.TheVariants as look
use Rattle.reg_http.specs.Messages.{HasFault, AwaitsHead, AwaitsBody, IsMessage}
use Rattle.reg_http.specs.Fronts.{IsHeadAt}

-- the bytes that aren't given yet, how many are held with those that are, and the head at the front
-- once it was found
pub record Holding : Type 0 where
  pub rest : List ℕ
  pub held : ℕ
  pub head : Option Head

-- the bytes that aren't given begin at start, and with the head that was found
pub record IsHeld (bytes : List ℕ) (start : ℕ) (head : Option Head) : Type 0 where
  pub within : start ≤ length bytes
  pub front : IfSome head (IsHeadAt (drop start bytes))

-- the bytes that were given, and are held still, are no more than the others
abbrev pub HoldsFew : ℕ → List ℕ → Type 0
HoldsFew held rest = held ≤ 2 * length rest

-- a head was found at the front of the bytes, or none is there yet, or a fault
abbrev pub IsLook : List ℕ → Look → Option Head → Type 0
IsLook bytes look.Found head = IsSome head
IsLook bytes look.NeedMore head = (head ≡ None) × AwaitsHead bytes
IsLook bytes (look.Bad fault) head = (head ≡ None) × HasFault bytes fault

-- the message of the head that was found is taken out; or its body isn't whole, and all is kept, the
-- head too
abbrev pub IsTake : Holding → Option Call → Holding → Type 0
IsTake before (Some call) after =
    (after.head ≡ None) × HoldsFew after.held after.rest × IsMessage before.rest call after.rest
IsTake before None after = (after ≡ before) × AwaitsBody before.rest
