-- The members of a line as they are gathered: keys, each with what is lent by the command.
use Rattle.std.specs.Prelude.{◌≡◌, ◌<◌, ◌^◌, ⊤}
use Rattle.std.specs.Prelude.{ℕ, suc, List, [], ◌∷◌, Bool, true, false, Option, None}
use Rattle.std.specs.Prelude.{map}
use Rattle.std.specs.Borrow.{Bor}
use Rattle.std.specs.Ordering.{match_ordering, nat_cmp}
use Rattle.std.specs.Cmp.Lexicographic.{slice_cmp}
use Rattle.json.specs.Token as json
use Rattle.serde_json.specs.Data.{Data, Members, array, boolean, member, no_members, string}
use Rattle.reg_terms.specs.declared.kinds.Value.TheVariants as value
use Rattle.reg_ops.specs.Forms.{is_i64}
use Rattle.reg_ops.specs.Parts.{seen}
use Rattle.reg_ops.specs.declared.field.Field.{Field}
use Rattle.reg_ops.specs.declared.field.Field.TheVariants as field
use Rattle.reg_ops.specs.declared.parts.FieldRef.{FieldRef}
use Rattle.reg_json.specs.Replies.{strings}
use Rattle.reg_export.specs.Fields.{entity_text, field_data, moment_data, owner_words, row_items}
use Rattle.reg_export.specs.Fields.{value_data, word_if}
use Rattle.reg_export.specs.Lines.{count_data}
use Rattle.reg_export.specs.declared.members.Part.{Part}
use Rattle.reg_export.specs.declared.members.Part.TheVariants as part

-- the first field as data, unless there is none or it is left out
abbrev pub first_data : List Field → Option Data
first_data [] = None
first_data (f ∷ fs) = field_data f

-- a field that is seen as data, unless it is left out
abbrev pub reference_data : FieldRef → Option Data
reference_data v = first_data (seen v)

-- a part as data
abbrev pub part_data : Part → Data
part_data (part.Text text) = string text.now
part_data (part.Entity entity) = string (entity_text entity.now)
part_data (part.Moment moment) = moment_data moment.now
part_data (part.Owners owners) = array (strings (owner_words owners))
part_data (part.Flag flag) = boolean flag
part_data (part.Value v) = value_data v.now
part_data (part.Number n) = count_data n
part_data (part.Names names) = array (strings names.now)
part_data (part.Rows rows) = array (row_items rows.now)

-- a key that is lent, and its part
abbrev pub Placed : Type 0
Placed = Bor (List ℕ) × Part

-- the members that parts are
abbrev pub members_of : List Placed → Members
members_of [] = no_members
members_of (p ∷ ps) = member p.0.now (part_data p.1) (members_of ps)

-- how many keys at the front come before a key
abbrev pub keys_before : List ℕ → List Placed → ℕ
keys_before key [] = 0
keys_before key (p ∷ ps) =
    match_ordering (slice_cmp nat_cmp key p.0.now) 0 0 (suc (keys_before key ps))

-- whether the key behind them is this one
abbrev pub is_there : List ℕ → List Placed → Bool
is_there key [] = false
is_there key (p ∷ ps) =
    match_ordering (slice_cmp nat_cmp key p.0.now) false true (is_there key ps)

-- ---- for private clauses

-- the tokens of a word, where it holds
abbrev pub word_tokens : Bool → List ℕ → List json.Token
word_tokens holds word = map (λ (text : List ℕ). json.string text) (word_if holds word)

-- numbers have 64 bits
abbrev pub IsWhole : Field → Type 0
IsWhole (field.Number n least most) = n < 2 ^ 64
IsWhole (field.Value (value.Int n)) = is_i64 n ≡ true
IsWhole _ = ⊤

abbrev pub AreWhole : List Field → Type 0
AreWhole [] = ⊤
AreWhole (f ∷ fs) = IsWhole f × AreWhole fs
