-- A line tells its number, its place, its moment, its caller, its key and its command.
use Rattle.std.proofs.Common.{◌≡◌, ◌<◌, ◌≤◌, ◌^◌, ℕ, Bool, true, false, List, [], ◌∷◌, map, codes, Option, Some, None, Ok, refl, sym, subst, ◌∙◌, ◌⊎◌, arith}
use Rattle.std.specs.List.{list_all}
use Rattle.std.proofs.lemmas.Bool.{and_from, and_parts, le-leb, leb-true}
use Rattle.serde_json.specs.Data.{Data, Members, object, put, string}
use Rattle.serde_json.specs.Find.{get, get_member}
use Rattle.serde_json.proofs.Views.{get_member-put, get_member-put_other}
use Rattle.reg_base.specs.MomentText.{text_of}
use Rattle.reg_base.specs.declared.entity.Entity.{Entity}
use Rattle.reg_base.proofs.Texts.{text_of_reads}
use Rattle.reg_terms.specs.declared.command.Command.{Command}
use Rattle.reg_terms.specs.declared.command.Stamped.{Stamped}
use Rattle.reg_ops.specs.Forms.{is_entity, is_field, is_moment, key_fits, takes_key}
use Rattle.reg_ops.specs.Parts.{field_kind}
use Rattle.reg_ops.specs.Table.{command_row, fields_of, kind_of, made_command}
use Rattle.reg_ops.specs.declared.field.Field.{Field}
use Rattle.reg_ops.specs.declared.field.FieldKind.{FieldKind}
use Rattle.reg_ops.specs.declared.table.CommandKind.{CommandKind}
use Rattle.reg_json.specs.Fields.{entity_from, is_within, number_at, text_at}
use Rattle.reg_export.specs.Fields.{entity_text, field_data, moment_data}
use Rattle.reg_export.specs.Lines.{Keyed, count_data, front, has_id, id_data, key_data, line_members, request_members, with_data, with_fields}
use Rattle.reg_export.specs.Telling.{IsTold, all_told, caller_at, command_worded, line_in, line_key, moment_at, told_at}
use Rattle.reg_export.proofs.Again.{told_again}
use Rattle.reg_export.proofs.Callers.{entity_again}
use Rattle.reg_export.proofs.Filling.{AllThere, kept_data, there_kept}
use Rattle.reg_export.proofs.Putting.{differ}
use Rattle.reg_export.proofs.Requests.{TableTakes, all_fit, by_there, fields_there, first_kind, key_again, key_stood, key_there, kinds_of, no_id, no_kind, no_more, op_there, text_there}
use Rattle.reg_export.proofs.Rows.{is_told, keys_fit, told_row}

-- ---- the fields of an op, one by one

told : (k : FieldKind) (f : Field) (key : List ℕ) (d : Data) → field_kind f ≡ k → is_field f ≡ true → is_told k ≡ true → get key d ≡ field_data f → told_at k key d ≡ Ok f
told k f key d is fits tells there = subst (λ (l : FieldKind). told_at l key d ≡ Ok f) is (told_again f key d fits (subst (λ (l : FieldKind). is_told l ≡ true) (sym is) tells) there)

tell_all : (fs : List Field) (keyed : List Keyed) (ms : Members) → map field_kind fs ≡ kinds_of keyed → list_all is_field fs ≡ true → list_all is_told (kinds_of keyed) ≡ true → AllThere fs keyed ms → all_told keyed (object ms) ≡ Ok fs
tell_all [] [] ms e fit tells there = refl
tell_all [] (k ∷ keyed) ms e fit tells there = absurd (no_more k.1 (kinds_of keyed) e)
tell_all (f ∷ fs) [] ms e fit tells there = absurd (no_kind (field_kind f) (map field_kind fs) e)
tell_all (f ∷ fs) (k ∷ keyed) ms e fit tells there =
    let kinds = first_kind (field_kind f) k.1 (map field_kind fs) (kinds_of keyed) e in
    let fits = and_parts (is_field f) (list_all is_field fs) fit in
    let each = and_parts (is_told k.1) (list_all is_told (kinds_of keyed)) tells in
    rw (told k.1 f k.0 (object ms) kinds.0 fits.0 each.0 there.0, tell_all fs keyed ms kinds.1 fits.1 each.1 there.1) refl

-- ---- the number, the place, the moment, the caller and the key

count_within : (n : ℕ) → n < 2 ^ 64 → is_within 0 18446744073709551615 n ≡ true
count_within n small =
    let low : 0 ≤ n = omega arith in
    let high : n ≤ 18446744073709551615 = omega (arith, small) in
    and_from _ _ (le-leb 0 n low) (le-leb n 18446744073709551615 high)

count_told : (key : List ℕ) (n : ℕ) (ms : Members) → n < 2 ^ 64 → get_member key ms ≡ Some (count_data n) → number_at 0 18446744073709551615 key (object ms) ≡ Ok n
unfolding number_at
count_told key n ms small there = rw (there, count_within n small) refl

moment_told : (moment : ℕ) (ms : Members) → is_moment moment ≡ true → get_member (codes "at") ms ≡ Some (moment_data moment) → moment_at (object ms) ≡ Ok moment
unfolding moment_at
moment_told moment ms fits there = rw (text_there (codes "at") (text_of moment) ms there, text_of_reads moment (leb-true _ _ fits)) refl

caller_told : (by : Entity) (ms : Members) → is_entity by ≡ true → get_member (codes "by") ms ≡ Some (string (entity_text by)) → caller_at (object ms) ≡ Ok by
unfolding caller_at entity_from
caller_told by ms fits there = rw (text_there (codes "by") (entity_text by) ms there, entity_again by fits) refl

key_told : (key : Option (List ℕ)) (takes : Bool) (ms : Members) → key_fits takes key ≡ true → get_member (codes "key") ms ≡ key_data key → line_key (object ms) ≡ Ok key
unfolding line_key
key_told key takes ms fits there = rw (key_stood key ms there) (key_again takes key fits)

line_so : (d : Data) (s : Stamped) (nth place : ℕ) (word : List ℕ) (k : CommandKind) (fs : List Field) → number_at 0 18446744073709551615 (codes "number") d ≡ Ok nth → number_at 0 18446744073709551615 (codes "place") d ≡ Ok place → moment_at d ≡ Ok s.at → caller_at d ≡ Ok s.by → line_key d ≡ Ok s.key → text_at (codes "op") d ≡ Ok word → command_worded word ≡ Some k → all_told (command_row k).op.fields d ≡ Ok fs → made_command k fs ≡ Some s.command → line_in d ≡ Ok (nth, place, s)
unfolding line_in
line_so d s nth place word k fs at_number at_place at_moment at_by at_key at_op named tells makes = rw (at_number, at_place, at_moment, at_by, at_key, at_op, named, tells, makes) refl

-- ---- the line

-- what the request has stands in the line
line_keeps : (q : List ℕ) (nth place : ℕ) (made : Option ℕ) (s : Stamped) → (q ≡ codes "at" → ⊥) → (q ≡ codes "place" → ⊥) → (q ≡ codes "number" → ⊥) → (q ≡ codes "id" → ⊥) → get_member q (line_members nth place made s) ≡ get_member q (request_members (entity_text s.by) s.key s.command)
unfolding line_members
line_keeps q nth place made s no_at no_place no_number no_id =
    let asks = request_members (entity_text s.by) s.key s.command in
    let more = with_data (codes "id") (id_data made) asks in
    let numbered = put (codes "number") (count_data nth) more in
    get_member-put_other q (codes "at") (moment_data s.at) (put (codes "place") (count_data place) numbered) no_at ∙ (get_member-put_other q (codes "place") (count_data place) numbered no_place ∙ (get_member-put_other q (codes "number") (count_data nth) more no_number ∙ kept_data q (codes "id") (id_data made) asks no_id))

number_there : (nth place : ℕ) (made : Option ℕ) (s : Stamped) → get_member (codes "number") (line_members nth place made s) ≡ Some (count_data nth)
unfolding line_members
number_there nth place made s =
    let more = with_data (codes "id") (id_data made) (request_members (entity_text s.by) s.key s.command) in
    let numbered = put (codes "number") (count_data nth) more in
    get_member-put_other (codes "number") (codes "at") (moment_data s.at) (put (codes "place") (count_data place) numbered) (differ (codes "number") (codes "at") refl) ∙ (get_member-put_other (codes "number") (codes "place") (count_data place) numbered (differ (codes "number") (codes "place") refl) ∙ get_member-put (codes "number") (count_data nth) more)

place_there : (nth place : ℕ) (made : Option ℕ) (s : Stamped) → get_member (codes "place") (line_members nth place made s) ≡ Some (count_data place)
unfolding line_members
place_there nth place made s =
    let more = with_data (codes "id") (id_data made) (request_members (entity_text s.by) s.key s.command) in
    let numbered = put (codes "number") (count_data nth) more in
    get_member-put_other (codes "place") (codes "at") (moment_data s.at) (put (codes "place") (count_data place) numbered) (differ (codes "place") (codes "at") refl) ∙ get_member-put (codes "place") (count_data place) numbered

moment_there : (nth place : ℕ) (made : Option ℕ) (s : Stamped) → get_member (codes "at") (line_members nth place made s) ≡ Some (moment_data s.at)
unfolding line_members
moment_there nth place made s =
    let more = with_data (codes "id") (id_data made) (request_members (entity_text s.by) s.key s.command) in
    get_member-put (codes "at") (moment_data s.at) (put (codes "place") (count_data place) (put (codes "number") (count_data nth) more))

-- the id that was made hides no field
id_there : (made : Option ℕ) (c : Command) (ms : Members) → (made ≡ None) ⊎ (has_id c ≡ false) → AllThere (fields_of c) (command_row (kind_of c)).op.fields ms → AllThere (fields_of c) (command_row (kind_of c)).op.fields (with_data (codes "id") (id_data made) ms)
id_there None c ms one there = there
id_there (Some id) c ms one there = there_kept (fields_of c) (command_row (kind_of c)).op.fields (codes "id") (Some (count_data id)) ms (no_id (Some id) c one id refl) there

fields_in_line : (nth place : ℕ) (made : Option ℕ) (s : Stamped) → (made ≡ None) ⊎ (has_id s.command ≡ false) → AllThere (fields_of s.command) (command_row (kind_of s.command)).op.fields (line_members nth place made s)
unfolding line_members request_members
fields_in_line nth place made s one =
    let c = s.command in
    let row = (command_row (kind_of c)).op in
    let fs = fields_of c in
    let keys = keys_fit (kind_of c) in
    let ms = with_fields fs row.fields (front (entity_text s.by) s.key row.word) in
    let more = with_data (codes "id") (id_data made) ms in
    let numbered = put (codes "number") (count_data nth) more in
    let first = id_there made c ms one (fields_there fs row.fields (entity_text s.by) s.key row.word keys) in
    let second = there_kept fs row.fields (codes "number") (Some (count_data nth)) more keys.no_number first in
    let third = there_kept fs row.fields (codes "place") (Some (count_data place)) numbered keys.no_place second in
    there_kept fs row.fields (codes "at") (Some (moment_data s.at)) (put (codes "place") (count_data place) numbered) keys.no_at third

op_in_line : (nth place : ℕ) (made : Option ℕ) (s : Stamped) → get_member (codes "op") (line_members nth place made s) ≡ Some (string (command_row (kind_of s.command)).op.word)
unfolding request_members
op_in_line nth place made s =
    let row = (command_row (kind_of s.command)).op in
    line_keeps (codes "op") nth place made s (differ (codes "op") (codes "at") refl) (differ (codes "op") (codes "place") refl) (differ (codes "op") (codes "number") refl) (differ (codes "op") (codes "id") refl)
    ∙ op_there (fields_of s.command) row.fields (entity_text s.by) s.key row.word (keys_fit (kind_of s.command))

by_in_line : (nth place : ℕ) (made : Option ℕ) (s : Stamped) → get_member (codes "by") (line_members nth place made s) ≡ Some (string (entity_text s.by))
unfolding request_members
by_in_line nth place made s =
    let row = (command_row (kind_of s.command)).op in
    line_keeps (codes "by") nth place made s (differ (codes "by") (codes "at") refl) (differ (codes "by") (codes "place") refl) (differ (codes "by") (codes "number") refl) (differ (codes "by") (codes "id") refl)
    ∙ by_there (fields_of s.command) row.fields (entity_text s.by) s.key row.word (keys_fit (kind_of s.command))

key_in_line : (nth place : ℕ) (made : Option ℕ) (s : Stamped) → get_member (codes "key") (line_members nth place made s) ≡ key_data s.key
unfolding request_members
key_in_line nth place made s =
    let row = (command_row (kind_of s.command)).op in
    line_keeps (codes "key") nth place made s (differ (codes "key") (codes "at") refl) (differ (codes "key") (codes "place") refl) (differ (codes "key") (codes "number") refl) (differ (codes "key") (codes "id") refl)
    ∙ key_there (fields_of s.command) row.fields (entity_text s.by) s.key row.word (keys_fit (kind_of s.command))

pub line_again : TableTakes → (nth place : ℕ) (made : Option ℕ) (s : Stamped) → nth < 2 ^ 64 → place < 2 ^ 64 → IsTold made s → line_in (object (line_members nth place made s)) ≡ Ok (nth, place, s)
line_again table nth place made s few small tells =
    let c = s.command in
    let row = (command_row (kind_of c)).op in
    let ms = line_members nth place made s in
    let apart = table c in
    let words = told_row (kind_of c) in
    line_so (object ms) s nth place row.word (kind_of c) (fields_of c)
    (count_told (codes "number") nth ms few (number_there nth place made s))
    (count_told (codes "place") place ms small (place_there nth place made s))
    (moment_told s.at ms tells.moment (moment_there nth place made s))
    (caller_told s.by ms tells.caller (by_in_line nth place made s))
    (key_told s.key (takes_key c) ms tells.key (key_in_line nth place made s))
    (text_there (codes "op") row.word ms (op_in_line nth place made s))
    words.named
    (tell_all (fields_of c) row.fields ms apart.kinds (all_fit c tells.form) words.kinds (fields_in_line nth place made s tells.one_id))
    apart.again
