-- What is read at the front of bytes.
use Rattle.std.specs.Prelude.{◌≡◌, ℕ, ◌+◌, ◌≤◌, List, length, drop, Option, Some, None, Ok, Err}
use Rattle.httparse.specs.Grammar.{RequestHead, print_request}
use Rattle.reg_http.specs.declared.head.Head.{Head}
use Rattle.reg_http.specs.declared.head.Front.{Front}
use Rattle.reg_http.specs.declared.head.Front.TheVariants as front
use Rattle.reg_http.specs.declared.call.Call.{Call}
use Rattle.reg_http.specs.Heads.{body_after, caller_in, closes_after, fields_of}
use Rattle.reg_http.specs.Messages.{BeginsWith, HasFault, AwaitsHead, AwaitsBody, IsMessage}

-- what was read is what the head says
pub record IsReadOf (read : Head) (head : RequestHead) : Type 0 where
  pub method : read.method ≡ head.method
  pub target : read.target ≡ head.target
  pub caller : read.caller ≡ caller_in (fields_of head)
  pub close : read.close ≡ closes_after head.minor (fields_of head)
  pub length_is : read.length ≡ length (print_request head)
  pub body_is : body_after head ≡ Ok read.body

-- a whole head is taken, or it has a fault
abbrev pub IsJudged : RequestHead → Front → Type 0
IsJudged head (front.Head read) = IsReadOf read head
IsJudged head front.NeedMore = ⊥
IsJudged head (front.Bad fault) = body_after head ≡ Err fault

-- the bytes begin with a head of which this was read
pub record IsHeadAt (bytes : List ℕ) (read : Head) : Type 0 where
  pub head : RequestHead
  pub rest : List ℕ
  pub begins : BeginsWith bytes head rest
  pub read_is : IsReadOf read head

-- what stands at the front of the bytes
abbrev pub IsFront : List ℕ → Front → Type 0
IsFront bytes (front.Head read) = IsHeadAt bytes read
IsFront bytes front.NeedMore = AwaitsHead bytes
IsFront bytes (front.Bad fault) = HasFault bytes fault

-- the message of the head that was read and this body
abbrev pub call_read : Head → List ℕ → Call
call_read read body = record {
  method = read.method;
  target = read.target;
  caller = read.caller;
  body = body;
  close = read.close;
}

-- the body after the head that was read, or more of it has to come
abbrev pub IsBody : List ℕ → Head → Option (List ℕ) → Type 0
IsBody bytes read (Some body) =
    (read.length + read.body ≤ length bytes)
    × IsMessage bytes (call_read read body) (drop (read.length + read.body) bytes)
IsBody bytes read None = AwaitsBody bytes
