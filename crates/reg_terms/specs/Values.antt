-- Values of assignments: when two of them are one, how a definition takes one, and how assignments
-- change.
use Rattle.std.specs.Prelude.{ℕ, ◌==◌, ◌++◌, ◌∷◌, [], List, Bool, false, Option, Some, None}
use Rattle.std.specs.Prelude.{option_map, if◌then◌else◌}
use Rattle.std.specs.Ordering.{int_eq}
use Rattle.std.specs.List.{list_any, position, remove}
use Rattle.std.specs.Str.{bytes_eq}
use Rattle.reg_base.specs.MomentText.{moment_of}
use Rattle.reg_terms.specs.declared.kinds.AttrValue.{AttrValue}
use Rattle.reg_terms.specs.declared.kinds.AttrValue.TheVariants as attr
use Rattle.reg_terms.specs.declared.kinds.DefKind.{DefKind}
use Rattle.reg_terms.specs.declared.kinds.DefKind.TheVariants.{Marker, Integer, Text, Timestamp}
use Rattle.reg_terms.specs.declared.kinds.Object.{Object}
use Rattle.reg_terms.specs.declared.kinds.Object.TheVariants as object
use Rattle.reg_terms.specs.declared.kinds.Owners.{Owners}
use Rattle.reg_terms.specs.declared.kinds.Value.{Value}
use Rattle.reg_terms.specs.declared.kinds.Value.TheVariants as given
use Rattle.reg_terms.specs.declared.rows.AssignRow.{AssignRow}

-- the two values are one
abbrev pub same_value : AttrValue → AttrValue → Bool
same_value (attr.Int a) (attr.Int b) = int_eq a b
same_value (attr.Text a) (attr.Text b) = bytes_eq a b
same_value (attr.Moment a) (attr.Moment b) = a == b
same_value _ _ = false

-- a value as a definition of this kind takes it, if it does: a timestamp is the text of a moment,
-- and a marker has none
abbrev pub taken : DefKind → Value → Option AttrValue
taken Marker v = None
taken Integer (given.Int n) = Some (attr.Int n)
taken Integer (given.Text t) = None
taken Text (given.Int n) = None
taken Text (given.Text t) = Some (attr.Text t)
taken Timestamp (given.Int n) = None
taken Timestamp (given.Text t) = option_map (λ m. attr.Moment m) (moment_of t)

-- whether attributes of a definition that suits these owners may be assigned to an object
abbrev pub suits : Owners → Object → Bool
suits owners (object.Folder d) = owners.folder
suits owners (object.Group g) = owners.group
suits owners (object.Def a) = false
suits owners (object.Attr a) = false
suits owners (object.Subject s) = owners.subject

-- ---- assignments as they change

-- values without the first of those that are this one
abbrev pub without_first : AttrValue → List AttrValue → List AttrValue
without_first v xs = elim (position (λ x. same_value x v) xs) [ None ↦ xs | Some n ↦ remove xs n ]

-- whether a value is among some
abbrev pub has_value : AttrValue → List AttrValue → Bool
has_value v xs = list_any (λ x. same_value x v) xs

-- an assignment with a value behind the others, if it is the one of this id
abbrev pub with_value : ℕ → AttrValue → AssignRow → AssignRow
with_value id v row = if row.id == id then record row { values = row.values ++ v ∷ [] } else row

-- and without the first of its values that are this one
abbrev pub without_value : ℕ → AttrValue → AssignRow → AssignRow
without_value id v row =
    if row.id == id then record row { values = without_first v row.values } else row
