-- A line doesn't nest deep.
use Rattle.std.proofs.Common.{ℕ, ◌≤◌, List, [], ◌∷◌, codes, Option, Some, None, IfSome, arith, lit≤}
use Rattle.serde_json.specs.Data.{Data, Members, array, depth, members_depth, object, put, string}
use Rattle.serde_json.specs.Read.{max_depth}
use Rattle.reg_terms.specs.declared.command.Stamped.{Stamped}
use Rattle.reg_terms.specs.declared.kinds.Value.{Value}
use Rattle.reg_terms.specs.declared.kinds.Value.TheVariants as value
use Rattle.reg_terms.specs.declared.lists.LoadRow.{LoadRow}
use Rattle.reg_ops.specs.Table.{command_row, fields_of, kind_of}
use Rattle.reg_ops.specs.declared.field.Field.{Field}
use Rattle.reg_ops.specs.declared.field.Field.TheVariants as field
use Rattle.reg_json.specs.Replies.{strings}
use Rattle.reg_json.proofs.Plain.{all_flat}
use Rattle.reg_export.specs.Fields.{entity_text, field_data, moment_data, owner_words, row_data, row_items, value_data}
use Rattle.reg_export.specs.Lines.{Keyed, count_data, caller_and_op, front, id_data, key_data, line_members, request_members, with_data, with_fields}
use Rattle.reg_export.proofs.Putting.{depth_put}

-- ---- data

-- two levels at most
abbrev IsFlat : Data → Type 0
IsFlat d = depth d ≤ 2

strings_low : (texts : List (List ℕ)) → depth (array (strings texts)) ≤ 2
strings_low texts = omega (arith, all_flat 0 string (λ t. lit≤ tt) texts)

rows_low : (rows : List LoadRow) → depth (array (row_items rows)) ≤ 2
rows_low rows = omega (arith, all_flat 1 row_data (λ r. lit≤ tt) rows)

value_flat : (v : Value) → IsFlat (value_data v)
value_flat (value.Int n) = lit≤ tt
value_flat (value.Text text) = lit≤ tt

moment_flat : (moment : Option ℕ) → IfSome (field_data (field.OptionalMoment moment)) IsFlat
moment_flat None = tt
moment_flat (Some t) = lit≤ tt

field_flat : (f : Field) → IfSome (field_data f) IsFlat
field_flat (field.Owners owners) = strings_low (owner_words owners)
field_flat (field.Names names) = strings_low names
field_flat (field.LoadRows rows) = rows_low rows
field_flat (field.Value v) = value_flat v
field_flat (field.OptionalMoment moment) = moment_flat moment
field_flat (field.Table table) = tt
field_flat _ = lit≤ tt

-- ---- members

abbrev AreFlat : Members → Type 0
AreFlat ms = members_depth ms ≤ 2

flat_data : (key : List ℕ) (found : Option Data) (ms : Members) → IfSome found IsFlat → AreFlat ms → AreFlat (with_data key found ms)
flat_data key None ms one all = all
flat_data key (Some d) ms one all = depth_put 2 key d ms one all

flat_fields : (fs : List Field) (keyed : List Keyed) (ms : Members) → AreFlat ms → AreFlat (with_fields fs keyed ms)
flat_fields [] keyed ms all = all
flat_fields (f ∷ fs) [] ms all = all
flat_fields (f ∷ fs) (k ∷ keyed) ms all = flat_fields fs keyed (with_data k.0 (field_data f) ms) (flat_data k.0 (field_data f) ms (field_flat f) all)

flat_id : (made : Option ℕ) → IfSome (id_data made) IsFlat
flat_id None = tt
flat_id (Some id) = lit≤ tt

flat_key : (key : Option (List ℕ)) → IfSome (key_data key) IsFlat
flat_key None = tt
flat_key (Some text) = lit≤ tt

flat_front : (by : List ℕ) (key : Option (List ℕ)) (word : List ℕ) → AreFlat (front by key word)
flat_front by key word = flat_data (codes "key") (key_data key) (caller_and_op by word) (flat_key key) (lit≤ tt)

pub line_flat : (nth place : ℕ) (made : Option ℕ) (s : Stamped) → members_depth (line_members nth place made s) ≤ 2
unfolding line_members request_members
line_flat nth place made s =
    let c = s.command in
    let row = (command_row (kind_of c)).op in
    let ms = with_fields (fields_of c) row.fields (front (entity_text s.by) s.key row.word) in
    let fields : AreFlat ms = flat_fields (fields_of c) row.fields (front (entity_text s.by) s.key row.word) (flat_front (entity_text s.by) s.key row.word) in
    let more = with_data (codes "id") (id_data made) ms in
    let with_id : AreFlat more = flat_data (codes "id") (id_data made) ms (flat_id made) fields in
    let numbered = put (codes "number") (count_data nth) more in
    let with_number : AreFlat numbered = depth_put 2 (codes "number") (count_data nth) more (lit≤ tt) with_id in
    let with_place : AreFlat (put (codes "place") (count_data place) numbered) = depth_put 2 (codes "place") (count_data place) numbered (lit≤ tt) with_number in
    depth_put 2 (codes "at") (moment_data s.at) (put (codes "place") (count_data place) numbered) (lit≤ tt) with_place

pub low_enough : (ms : Members) → members_depth ms ≤ 2 → depth (object ms) ≤ max_depth
low_enough ms h = omega (arith, h)
