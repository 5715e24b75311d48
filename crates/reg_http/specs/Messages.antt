-- What stands at the front of the bytes of a connection: a message, a fault, or neither yet.
use Rattle.std.specs.Prelude.{◌≡◌, ℕ, ◌<◌, ◌≤◌, ◌⊎◌, List, ◌++◌, length, take, Ok, Err}
use Rattle.httparse.specs.Grammar.{RequestHead, print_request, ReadsRequest, HasNoRequest}
use Rattle.httparse.specs.Grammar.{NeverHasRequest, MayBecomeRequest}
use Rattle.reg_http.specs.declared.call.HeadFault.{HeadFault}
use Rattle.reg_http.specs.declared.call.HeadFault.TheVariants.{HeadTooLong, BadHead}
use Rattle.reg_http.specs.declared.call.Call.{Call}
use Rattle.reg_http.specs.Heads.{body_after, call_of}

-- the bytes in which a head must end
abbrev pub window : List ℕ → List ℕ
window bytes = take 16384 bytes

-- the bytes begin with the head, which ends in the first 16,384, and go on with the rest
pub record BeginsWith (bytes : List ℕ) (head : RequestHead) (rest : List ℕ) : Type 0 where
  pub reads : ReadsRequest bytes head rest
  pub small : length (print_request head) ≤ 16384

-- no head yet, and some continuation may be one; inside a target `httparse` may still ask for more
pub record IsOpen (bytes : List ℕ) : Type 0 where
  pub none : HasNoRequest (window bytes)
  pub coming : MayBecomeRequest (window bytes)

-- a head, its body, and then other bytes
pub record IsMessage (bytes : List ℕ) (call : Call) (later : List ℕ) : Type 0 where
  pub head : RequestHead
  pub body : List ℕ
  pub begins : BeginsWith bytes head (body ++ later)
  pub length_is : body_after head ≡ Ok (length body)
  pub call_is : call ≡ call_of head body

-- a head that isn't taken
pub record IsRefused (bytes : List ℕ) (fault : HeadFault) : Type 0 where
  pub head : RequestHead
  pub rest : List ℕ
  pub begins : BeginsWith bytes head rest
  pub fault_is : body_after head ≡ Err fault

-- 16,384 bytes without a head that could still become one
pub record IsEndless (bytes : List ℕ) (fault : HeadFault) : Type 0 where
  pub fault_is : fault ≡ HeadTooLong
  pub long : 16384 ≤ length bytes
  pub open_still : IsOpen bytes

-- no continuation is a head
pub record IsHopeless (bytes : List ℕ) (fault : HeadFault) : Type 0 where
  pub fault_is : fault ≡ BadHead
  pub never : NeverHasRequest (window bytes)

-- the bytes begin with this fault
abbrev pub HasFault : List ℕ → HeadFault → Type 0
HasFault bytes fault = IsRefused bytes fault ⊎ (IsEndless bytes fault ⊎ IsHopeless bytes fault)

-- fewer than 16,384 bytes, and no head yet
pub record AwaitsHead (bytes : List ℕ) : Type 0 where
  pub short : length bytes < 16384
  pub open_still : IsOpen bytes

-- a head whose body isn't whole
pub record AwaitsBody (bytes : List ℕ) : Type 0 where
  pub head : RequestHead
  pub rest : List ℕ
  pub needed : ℕ
  pub begins : BeginsWith bytes head rest
  pub length_is : body_after head ≡ Ok needed
  pub short : length rest < needed

-- no whole message, and no fault
abbrev pub IsUnfinished : List ℕ → Type 0
IsUnfinished bytes = AwaitsHead bytes ⊎ AwaitsBody bytes
