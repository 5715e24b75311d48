-- The response to a message.
use Rattle.std.specs.Prelude.{ℕ, List, [], ◌∷◌, ◌++◌, Bool, true, Option, Some, None}
use Rattle.reg_terms.specs.declared.refusal.Refusal.{Refusal}
use Rattle.reg_terms.specs.declared.refusal.Refusal.TheVariants.{BadRequest, BadName, BadMoment}
use Rattle.reg_terms.specs.declared.refusal.Refusal.TheVariants.{BadWindow, WrongKind, BadTable}
use Rattle.reg_terms.specs.declared.refusal.Refusal.TheVariants.{WrongValue, NoCaller, Denied}
use Rattle.reg_terms.specs.declared.refusal.Refusal.TheVariants.{NotFound, NoSuch, TooLong, NoRoute}
use Rattle.reg_terms.specs.declared.refusal.Refusal.TheVariants.{NoMethod, NoLength, Coding}
use Rattle.reg_terms.specs.declared.refusal.Refusal.TheVariants.{HeadTooLong, NoCallerHeader}
use Rattle.reg_terms.specs.declared.refusal.Refusal.TheVariants.{BadHead}
use Rattle.reg_terms.specs.declared.reply.Reply.{Reply}
use Rattle.reg_terms.specs.declared.reply.Reply.TheVariants as reply
use Rattle.reg_http.specs.Responses.{response}
use Rattle.reg_json.specs.Replies.{text}
use Rattle.reg_http.specs.Routes.{method_of}
use Rattle.reg_calls.specs.declared.asked.Asked.{Asked}
use Rattle.reg_calls.specs.declared.asked.Asked.TheVariants as asked

-- the status of a refusal
abbrev pub refusal_status : Refusal → ℕ
refusal_status (BadRequest field) = 400
refusal_status (BadName field) = 400
refusal_status (BadMoment field) = 400
refusal_status BadWindow = 400
refusal_status (WrongKind field) = 400
refusal_status (BadTable row) = 400
refusal_status WrongValue = 400
refusal_status NoCallerHeader = 400
refusal_status BadHead = 400
refusal_status NoCaller = 403
refusal_status (Denied object privilege) = 403
refusal_status (NotFound object) = 404
refusal_status NoSuch = 404
refusal_status NoRoute = 404
refusal_status NoMethod = 405
refusal_status NoLength = 411
refusal_status (TooLong limit) = 413
refusal_status HeadTooLong = 431
refusal_status Coding = 501
refusal_status _ = 409

-- the status of a reply
abbrev pub status_of : Reply → ℕ
status_of (reply.Number n id) = 200
status_of (reply.Loaded n counts) = 200
status_of (reply.Answer a) = 200
status_of (reply.Refused r) = refusal_status r
status_of reply.NoMemory = 503
status_of reply.KeepFault = 500

-- the method that is told as allowed, where another was asked for
abbrev pub allow_of : Reply → Asked → Option (List ℕ)
allow_of (reply.Refused NoMethod) (asked.NoMethod route) = Some (method_of route)
allow_of told a = None

-- a reply's text, and LF
abbrev pub line_of : Reply → List ℕ
line_of told = text told ++ 10 ∷ []

-- the response to a message that asked this
abbrev pub response_to : Asked → Bool → Reply → List ℕ
response_to a close told = response (status_of told) (allow_of told a) close (line_of told)

-- the response to a head that isn't taken
abbrev pub fault_response : Reply → List ℕ
fault_response told = response (status_of told) None true (line_of told)
