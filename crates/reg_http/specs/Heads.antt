-- What a head says of its message, and why it isn't taken.
use Rattle.std.specs.Prelude.{ℕ, Bool, not, ◌&&◌, ◌||◌, List, [], ◌∷◌, map, length, Option, is_some}
use Rattle.std.specs.Prelude.{Result, Ok, Err, ◌==◌, nat_lt, bytes_eq, codes, if◌then◌else◌}
use Rattle.std.specs.Str.Parse.{digits_value}
use Rattle.httparse.specs.Grammar.{RequestHead}
use Rattle.httparse.specs.Spans.{name_and_value}
use Rattle.reg_http.specs.declared.call.HeadFault.{HeadFault}
use Rattle.reg_http.specs.declared.call.HeadFault.TheVariants.{HeadTooLong, BadHead, Coding}
use Rattle.reg_http.specs.declared.call.HeadFault.TheVariants.{TooLong, NoLength}
use Rattle.reg_http.specs.declared.call.Call.{Call}
use Rattle.reg_http.specs.Fields.{Field, values_named, only, closes, is_length}

-- the length that one `Content-Length` states
abbrev pub stated_length : List ℕ → Result ℕ HeadFault
stated_length text =
    let number = digits_value 10 text in
    if is_length text then (if nat_lt 8388608 number then Err TooLong else Ok number)
    else Err BadHead

-- the length by all values of `Content-Length`
abbrev pub length_by : List ℕ → List (List ℕ) → Result ℕ HeadFault
length_by method [] = if bytes_eq method (codes "POST") then Err NoLength else Ok 0
length_by method (text ∷ []) = stated_length text
length_by method (text ∷ other ∷ more) = Err BadHead

-- the length of the body after a head of this minor version, method and fields, or why it isn't
-- taken
abbrev pub body_length : ℕ → List ℕ → List Field → Result ℕ HeadFault
body_length minor method fields =
    if nat_lt 64 (length fields) then Err HeadTooLong
    else (if (minor == 1) && not (is_some (only (values_named (codes "host") fields)))
    then Err BadHead
    else (if nat_lt 0 (length (values_named (codes "transfer-encoding") fields)) then Err Coding
    else length_by method (values_named (codes "content-length") fields)))

-- the names and the values of a head's fields, in order
abbrev pub fields_of : RequestHead → List Field
fields_of head = map name_and_value head.fields

-- the same of a head
unfoldable pub body_after : RequestHead → Result ℕ HeadFault
body_after head = body_length head.minor head.method (fields_of head)

-- the caller, where that field stands exactly once
abbrev pub caller_in : List Field → Option (List ℕ)
caller_in fields = only (values_named (codes "x-registry-caller") fields)

-- the connection is closed after the response
abbrev pub closes_after : ℕ → List Field → Bool
closes_after minor fields = (minor == 0) || closes fields

-- the message of this head and body
unfoldable pub call_of : RequestHead → List ℕ → Call
call_of head body = record {
  method = head.method;
  target = head.target;
  caller = caller_in (fields_of head);
  body = body;
  close = closes_after head.minor (fields_of head);
}
