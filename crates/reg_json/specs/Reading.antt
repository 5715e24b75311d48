-- What a line asks: a JSON object (RFC 8259) with `op`, `by` and the op's fields, with `key` where
-- the op is a command that may have one, and nothing else. A body has no `by`: who asks is told
-- beside it.
use Rattle.std.specs.Prelude.{ℕ, List, [], Option, Some, None, Result, Ok, Err, length, nat_le}
use Rattle.std.specs.Prelude.{codes, if◌then◌else◌, ok_or}
use Rattle.std.specs.Str.{is_utf8}
use Rattle.serde_json.specs.Data.{Data}
use Rattle.serde_json.specs.Read.{read}
use Rattle.serde_json.specs.Find.{as_object}
use Rattle.reg_terms.specs.declared.request.Request.{Request}
use Rattle.reg_ops.specs.declared.table.OpKind.{OpKind}
use Rattle.reg_terms.specs.declared.refusal.Refusal.{Refusal}
use Rattle.reg_terms.specs.declared.refusal.Refusal.TheVariants.{BadRequest, TooLong}
use Rattle.reg_terms.specs.Limits.{max_line}
use Rattle.reg_ops.specs.Table.{kind_named}
use Rattle.reg_json.specs.declared.fields.Carrier.TheVariants.{Line, Body}
use Rattle.reg_json.specs.Steps.{◌>>=◌}
use Rattle.reg_json.specs.Fields.{text_at}
use Rattle.reg_json.specs.Ops.{asked_in}

-- a JSON text that is an object
abbrev pub object_of : Option Data → Result Data Refusal
object_of None = Err (BadRequest [])
object_of (Some d) = elim (as_object d) [ None ↦ Err (BadRequest []) | Some ms ↦ Ok d ]

-- the object that a line of any length is
abbrev pub json_of : List ℕ → Result Data Refusal
json_of line = if is_utf8 line then object_of (read line) else Err (BadRequest [])

-- the object that a line is
unfoldable pub data_of : List ℕ → Result Data Refusal
data_of line = if nat_le (length line) max_line then json_of line else Err (TooLong max_line)

-- the kind of op that a word names, which has to be known
abbrev pub known_kind : List ℕ → Result OpKind Refusal
known_kind word = ok_or (kind_named word) (BadRequest (codes "op"))

-- what an object asks, or why it is refused: the first fault in the order of op, by, key, the op's
-- fields, other keys, and the forms of the key and of the fields; by may be any text
unfoldable pub request_in : Data → Result Request Refusal
request_in d = do
  word ← text_at (codes "op") d
  known ← known_kind word
  by ← text_at (codes "by") d
  asked ← asked_in Line known d
  Ok (record { by = by; key = asked.key; op = asked.op })

-- what a line asks, or why it is refused: first its length and its bytes count
unfoldable pub reading_of : List ℕ → Result Request Refusal
reading_of line = do
  d ← data_of line
  request_in d

-- what an object without `by` asks for this caller, or why it is refused: as that of a line, but
-- `by` is a key that isn't known
unfoldable pub body_in : List ℕ → Data → Result Request Refusal
body_in by d = do
  word ← text_at (codes "op") d
  known ← known_kind word
  asked ← asked_in Body known d
  Ok (record { by = by; key = asked.key; op = asked.op })

-- what a body asks for this caller, or why it is refused
unfoldable pub body_reading_of : List ℕ → List ℕ → Result Request Refusal
body_reading_of by body = do
  d ← data_of body
  body_in by d
