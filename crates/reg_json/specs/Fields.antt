-- The fields of a request: first that they are texts that may stand there, and later that the texts
-- have their forms.
use Rattle.std.specs.Prelude.{ℕ, List, [], ◌∷◌, Bool, true, false, Option, Some, None, Result, Ok}
use Rattle.std.specs.Prelude.{Err, codes, option_and_then, option_map, map, ◌&&◌, nat_le, ok_or}
use Rattle.std.specs.Prelude.{if◌then◌else◌}
use Rattle.std.specs.List.{list_any}
use Rattle.std.specs.Str.{bytes_eq}
use Rattle.serde_json.specs.Data.{Data, Members, no_members, member}
use Rattle.serde_json.specs.Find.{get, as_str, as_number, as_u64}
use Rattle.reg_base.specs.Names.{is_extension, is_source, name_of}
use Rattle.reg_base.specs.Entities.{entity_of}
use Rattle.reg_base.specs.MomentText.{moment_of}
use Rattle.reg_base.specs.declared.entity.Entity.{Entity}
use Rattle.reg_base.specs.declared.privilege.Privilege.{Privilege}
use Rattle.reg_ops.specs.Forms.{is_display, is_folder_text, is_object_text}
use Rattle.reg_terms.specs.Privileges.{privilege_named}
use Rattle.reg_ops.specs.declared.field.FieldKind.{FieldKind}
use Rattle.reg_terms.specs.declared.kinds.InheritKind.{InheritKind}
use Rattle.reg_terms.specs.declared.kinds.InheritKind.TheVariants.{Folder, Group, Definition}
use Rattle.reg_terms.specs.declared.kinds.Scope.{Scope}
use Rattle.reg_terms.specs.declared.kinds.Scope.TheVariants.{One, Sub}
use Rattle.reg_terms.specs.declared.kinds.SetOp.{SetOp}
use Rattle.reg_terms.specs.declared.kinds.SetOp.TheVariants.{Intersection, Complement, Union}
use Rattle.reg_terms.specs.declared.refusal.Refusal.{Refusal}
use Rattle.reg_terms.specs.declared.refusal.Refusal.TheVariants.{BadRequest, BadName, BadMoment}
use Rattle.reg_json.specs.declared.fields.Carrier.{Carrier}
use Rattle.reg_json.specs.declared.fields.Carrier.TheVariants.{Line, Body}
use Rattle.reg_json.specs.Steps.{◌>>=◌, ensured}

-- an object's keys
abbrev pub key_list : Members → List (List ℕ)
key_list no_members = []
key_list (member k d ms) = k ∷ key_list ms

-- the keys of fields
abbrev pub keys : List (List ℕ × FieldKind) → List (List ℕ)
keys fields = map (λ (f : List ℕ × FieldKind). f.0) fields

-- `key` in front of these keys, where it may stand
abbrev pub with_key : Bool → List (List ℕ) → List (List ℕ)
with_key true ks = codes "key" ∷ ks
with_key false ks = ks

-- the keys that an object of these fields may have, `key` where it may stand: a line names its
-- caller too, a body doesn't
unfoldable pub known_keys : Carrier → Bool → List (List ℕ × FieldKind) → List (List ℕ)
known_keys Line takes fields = codes "by" ∷ codes "op" ∷ with_key takes (keys fields)
known_keys Body takes fields = codes "op" ∷ with_key takes (keys fields)

-- the first key that isn't known
abbrev pub other_key : List (List ℕ) → List (List ℕ) → Option (List ℕ)
other_key known [] = None
other_key known (k ∷ ks) =
    if list_any (λ word. bytes_eq word k) known then other_key known ks else Some k

-- no key but these
unfoldable pub no_other : List (List ℕ) → Option Members → Result Bool Refusal
no_other known None = Ok true
no_other known (Some ms) =
    elim (other_key known (key_list ms)) [ None ↦ Ok true | Some k ↦ Err (BadRequest k) ]

-- a text that has to be there
unfoldable pub text_at : List ℕ → Data → Result (List ℕ) Refusal
text_at key d = ok_or (option_and_then as_str (get key d)) (BadRequest key)

-- a text that may be left out, and is then empty
unfoldable pub text_or_empty : List ℕ → Option Data → Result (List ℕ) Refusal
text_or_empty key None = Ok []
text_or_empty key (Some d) = ok_or (as_str d) (BadRequest key)

-- what stands at a key, if anything does, is a text
abbrev pub text_if_some : List ℕ → Option Data → Result (Option (List ℕ)) Refusal
text_if_some key None = Ok None
text_if_some key (Some d) = ok_or (option_map Some (as_str d)) (BadRequest key)

-- a text that may be left out
unfoldable pub optional_text_at : List ℕ → Data → Result (Option (List ℕ)) Refusal
optional_text_at key d = text_if_some key (get key d)

-- the text under `key`, where it may stand, which may be left out
unfoldable pub key_at : Bool → Data → Result (Option (List ℕ)) Refusal
key_at true d = optional_text_at (codes "key") d
key_at false d = Ok None

-- the display text
unfoldable pub display_at : List ℕ → Data → Result (List ℕ) Refusal
display_at key d = do
  display ← text_or_empty key (get key d)
  short ← ensured (is_display display) key
  Ok display

-- the kind of composite that a word names
abbrev pub composite_kind : List ℕ → Option SetOp
composite_kind word =
    if bytes_eq word (codes "intersection") then Some Intersection else
    (if bytes_eq word (codes "complement") then Some Complement else
    (if bytes_eq word (codes "union") then Some Union else None))

-- how a composite is made
unfoldable pub set_op_at : List ℕ → Data → Result SetOp Refusal
set_op_at key d = do
  word ← text_at key d
  ok_or (composite_kind word) (BadRequest key)

-- the kind of objects that a word names
abbrev pub inherit_kind : List ℕ → Option InheritKind
inherit_kind word =
    if bytes_eq word (codes "folder") then Some Folder else
    (if bytes_eq word (codes "group") then Some Group else
    (if bytes_eq word (codes "definition") then Some Definition else None))

-- the kind of objects that an inherit is for
unfoldable pub inherit_kind_at : List ℕ → Data → Result InheritKind Refusal
inherit_kind_at key d = do
  word ← text_at key d
  ok_or (inherit_kind word) (BadRequest key)

-- the scope that a word names
abbrev pub scope : List ℕ → Option Scope
scope word =
    if bytes_eq word (codes "ONE") then Some One else
    (if bytes_eq word (codes "SUB") then Some Sub else None)

-- how far an inherit reaches
unfoldable pub scope_at : List ℕ → Data → Result Scope Refusal
scope_at key d = do
  word ← text_at key d
  ok_or (scope word) (BadRequest key)

-- the privilege that a word names
unfoldable pub privilege_at : List ℕ → Data → Result Privilege Refusal
privilege_at key d = do
  word ← text_at key d
  ok_or (privilege_named word) (BadRequest key)

-- a whole number of 64 bits; a fraction, an exponent and `-0` make none
abbrev pub whole_number : Data → Option ℕ
whole_number d = option_and_then as_u64 (as_number d)

-- a number is at least the one and at most the other
abbrev pub is_within : ℕ → ℕ → ℕ → Bool
is_within least most n = nat_le least n && nat_le n most

-- a whole number from `least` to `most`, which has to be there
unfoldable pub number_at : ℕ → ℕ → List ℕ → Data → Result ℕ Refusal
number_at least most key d = do
  value ← ok_or (option_and_then whole_number (get key d)) (BadRequest key)
  within ← ensured (is_within least most value) key
  Ok value

-- the name that a field's text is
unfoldable pub name_from : List ℕ → List ℕ → Result (List ℕ) Refusal
name_from field text = ok_or (name_of text) (BadName field)

-- the name of a folder, or `:`, that a field's text is
unfoldable pub folder_from : List ℕ → List ℕ → Result (List ℕ) Refusal
folder_from field text = if is_folder_text text then Ok text else Err (BadName field)

-- the extension that a field's text is
unfoldable pub extension_from : List ℕ → List ℕ → Result (List ℕ) Refusal
extension_from field text = if is_extension text then Ok text else Err (BadName field)

-- the request's key that a text is, if there is one: it has the form of an extension
unfoldable pub key_from : Option (List ℕ) → Result (Option (List ℕ)) Refusal
key_from None = Ok None
key_from (Some text) = do
  key ← extension_from (codes "key") text
  Ok (Some key)

-- the source of persons that a field's text is
unfoldable pub source_from : List ℕ → List ℕ → Result (List ℕ) Refusal
source_from field text = if is_source text then Ok text else Err (BadName field)

-- the object that a field's text names
unfoldable pub object_from : List ℕ → List ℕ → Result (List ℕ) Refusal
object_from field text = if is_object_text text then Ok text else Err (BadName field)

-- the entity that a field's text names
unfoldable pub entity_from : List ℕ → List ℕ → Result Entity Refusal
entity_from field text = ok_or (entity_of text) (BadName field)

-- the moment that a field's text names, if the field stands there
unfoldable pub moment_from : List ℕ → Option (List ℕ) → Result (Option ℕ) Refusal
moment_from field None = Ok None
moment_from field (Some text) = ok_or (option_map Some (moment_of text)) (BadMoment field)
