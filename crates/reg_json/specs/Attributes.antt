-- The fields of requests about attributes: kinds of owner, truth values, kinds of definition, and
-- values.
use Rattle.std.specs.Prelude.{ℕ, List, [], ◌∷◌, Bool, true, not, ◌&&◌, Option, Some, None, Result}
use Rattle.std.specs.Prelude.{Ok, codes, is_some, option_and_then, option_map, if◌then◌else◌, ok_or}
use Rattle.std.specs.List.{list_any}
use Rattle.std.specs.Str.{bytes_eq}
use Rattle.serde_json.specs.Data.{Data}
use Rattle.serde_json.specs.Find.{get, as_bool, as_i64, as_number, as_str}
use Rattle.reg_ops.specs.Forms.{is_value, suits_some}
use Rattle.reg_terms.specs.declared.kinds.DefKind.{DefKind}
use Rattle.reg_terms.specs.declared.kinds.DefKind.TheVariants.{Marker, Integer, Text, Timestamp}
use Rattle.reg_terms.specs.declared.kinds.Owners.{Owners}
use Rattle.reg_terms.specs.declared.kinds.Value.{Value}
use Rattle.reg_terms.specs.declared.kinds.Value.TheVariants as value
use Rattle.reg_terms.specs.declared.refusal.Refusal.{Refusal}
use Rattle.reg_terms.specs.declared.refusal.Refusal.TheVariants.{BadRequest}
use Rattle.reg_json.specs.Fields.{text_at}
use Rattle.reg_json.specs.Steps.{◌>>=◌, ensured}
use Rattle.reg_json.specs.Taking.{texts_in}

-- ---- kinds of owner

-- a word stands among words
abbrev pub stands : List ℕ → List (List ℕ) → Bool
stands word words = list_any (λ w. bytes_eq word w) words

-- the words of the kinds of owner
abbrev pub owner_words : List (List ℕ)
owner_words = codes "folder" ∷ codes "group" ∷ codes "subject" ∷ []

-- each word is that of a kind of owner, and none stands twice
abbrev pub are_owners : List (List ℕ) → Bool
are_owners [] = true
are_owners (w ∷ ws) = stands w owner_words && (not (stands w ws) && are_owners ws)

-- the kinds of owner whose words stand among these
abbrev pub owners_among : List (List ℕ) → Owners
owners_among words = record {
  folder = stands (codes "folder") words;
  group = stands (codes "group") words;
  subject = stands (codes "subject") words;
}

-- the kinds of owner that words name, one at least and none twice
abbrev pub owners_named : List (List ℕ) → Option Owners
owners_named words =
    if are_owners words && suits_some (owners_among words) then Some (owners_among words) else None

-- the kinds of owner that a definition suits
unfoldable pub owners_at : List ℕ → Data → Result Owners Refusal
owners_at key d = ok_or (option_and_then owners_named (texts_in key d)) (BadRequest key)

-- for a private clause: kinds of owner with that of one more word, unless it is no such word or its
-- kind is there
unfoldable pub with_owner : Owners → List ℕ → Option Owners
with_owner owners word =
    if bytes_eq word (codes "folder")
    then (if owners.folder then None else Some (record owners { folder = true })) else
    (if bytes_eq word (codes "group")
    then (if owners.group then None else Some (record owners { group = true })) else
    (if bytes_eq word (codes "subject")
    then (if owners.subject then None else Some (record owners { subject = true })) else None))

-- ---- definitions and values

-- a truth value
unfoldable pub flag_at : List ℕ → Data → Result Bool Refusal
flag_at key d = ok_or (option_and_then as_bool (get key d)) (BadRequest key)

-- the kind of values that a word names
abbrev pub def_kind : List ℕ → Option DefKind
def_kind word =
    if bytes_eq word (codes "marker") then Some Marker else
    (if bytes_eq word (codes "integer") then Some Integer else
    (if bytes_eq word (codes "text") then Some Text else
    (if bytes_eq word (codes "timestamp") then Some Timestamp else None)))

-- the kind of values that attributes of a definition take
unfoldable pub def_kind_at : List ℕ → Data → Result DefKind Refusal
def_kind_at key d = do
  word ← text_at key d
  ok_or (def_kind word) (BadRequest key)

-- a text, or a whole number; a fraction, an exponent and `-0` make none
abbrev pub value_of : Data → Option Value
value_of d =
    if is_some (as_str d) then option_map (λ text. value.Text text) (as_str d)
    else option_map (λ n. value.Int n) (option_and_then as_i64 (as_number d))

-- the value of an assignment: a text of at most 255 bytes, or a number of 64 bits
abbrev pub value_from : List ℕ → Data → Result Value Refusal
value_from key d = do
  given ← ok_or (value_of d) (BadRequest key)
  fits ← ensured (is_value given) key
  Ok given

unfoldable pub value_at : List ℕ → Data → Result Value Refusal
value_at key d = do
  found ← ok_or (get key d) (BadRequest key)
  value_from key found
