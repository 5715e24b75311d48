-- The members of the request for a command are read as that request.
use Rattle.std.proofs.Common.{◌≡◌, ℕ, Bool, true, false, List, [], ◌∷◌, map, codes, Option, Some, None, Ok, refl, sym, subst, ap, ◌∙◌, inl, inr, ◌⊎◌, option_map}
use Rattle.std.specs.List.{list_all}
use Rattle.std.specs.Str.{bytes_eq}
use Rattle.std.proofs.lemmas.Bool.{and_parts}
use Rattle.serde_json.specs.Data.{Data, Members, no_members, number, object, put, string, unsigned}
use Rattle.serde_json.specs.Find.{as_object, get, get_member}
use Rattle.serde_json.proofs.Views.{get_member-put_other}
use Rattle.reg_base.specs.Names.{is_extension}
use Rattle.reg_terms.specs.declared.command.Command.{Command}
use Rattle.reg_terms.specs.declared.command.Stamped.{Stamped}
use Rattle.reg_terms.specs.declared.request.Op.{Op}
use Rattle.reg_terms.specs.declared.request.Op.TheVariants as asked
use Rattle.reg_ops.specs.Forms.{has_form, is_field, key_fits, takes_key}
use Rattle.reg_ops.specs.Parts.{field_kind}
use Rattle.reg_ops.specs.Table.{IsApart, command_row, fields_of, kind_named, kind_of, made, row_of}
use Rattle.reg_ops.specs.declared.field.Field.{Field}
use Rattle.reg_ops.specs.declared.field.FieldKind.{FieldKind}
use Rattle.reg_ops.specs.declared.table.CommandKind.TheVariants as command
use Rattle.reg_ops.specs.declared.table.OpKind.{OpKind}
use Rattle.reg_ops.specs.declared.table.OpKind.TheVariants as op
use Rattle.reg_json.specs.Fields.{extension_from, key_at, key_from, known_keys, no_other, optional_text_at, text_at}
use Rattle.reg_json.specs.Ops.{all_forms, all_stand, asked_in, form_at, kind_takes_key, op_in, stand_alone, stands_at}
use Rattle.reg_json.specs.Reading.{known_kind, request_in}
use Rattle.reg_json.specs.declared.fields.Carrier.TheVariants.{Line}
use Rattle.reg_export.specs.Fields.{entity_text, field_data, moment_data}
use Rattle.reg_export.specs.Lines.{Keyed, caller_and_op, count_data, front, has_id, has_key, id_data, key_data, line_members, request_members, with_data, with_fields}
use Rattle.reg_export.specs.Telling.{IsTold, request_part, without, without_id}
use Rattle.reg_export.proofs.Again.{form_again, stand_again}
use Rattle.reg_export.proofs.Filling.{AllAbsent, AllThere, absent_kept, all_absent, all_there, found_data, kept_data, kept_fields, known_data, known_fields}
use Rattle.reg_export.proofs.Putting.{AreKnown, differ, without_put}
use Rattle.reg_export.proofs.Rows.{KeysFit, asked_row, is_asked, keys_fit}

-- what the table of ops says of each command
abbrev pub TableTakes : Type 0
TableTakes = (c : Command) → IsApart c

-- ---- the fields of an op, one by one

abbrev pub kinds_of : List Keyed → List FieldKind
kinds_of keyed = map (λ (k : Keyed). k.1) keyed

pub first_kind : (k l : FieldKind) (ks ls : List FieldKind) → k ∷ ks ≡ l ∷ ls → (k ≡ l) × (ks ≡ ls)
first_kind k l ks ls e =
    let first : k ≡ l = cc in
    let others : ks ≡ ls = cc in
    (first, others)

pub no_kind : (k : FieldKind) (ks : List FieldKind) → k ∷ ks ≡ [] → ⊥
no_kind k ks e = cc

pub no_more : (k : FieldKind) (ks : List FieldKind) → [] ≡ k ∷ ks → ⊥
no_more k ks e = cc

stands : (k : FieldKind) (f : Field) (key : List ℕ) (d : Data) → field_kind f ≡ k → is_field f ≡ true → is_asked k ≡ true → get key d ≡ field_data f → stands_at k key d ≡ Ok true
stands k f key d is fits ask there = subst (λ (l : FieldKind). stands_at l key d ≡ Ok true) is (stand_again f key d fits (subst (λ (l : FieldKind). is_asked l ≡ true) (sym is) ask) there)

formed : (k : FieldKind) (f : Field) (key : List ℕ) (d : Data) → field_kind f ≡ k → is_field f ≡ true → is_asked k ≡ true → get key d ≡ field_data f → form_at k key d ≡ Ok f
formed k f key d is fits ask there = subst (λ (l : FieldKind). form_at l key d ≡ Ok f) is (form_again f key d fits (subst (λ (l : FieldKind). is_asked l ≡ true) (sym is) ask) there)

stand_all : (fs : List Field) (keyed : List Keyed) (ms : Members) → map field_kind fs ≡ kinds_of keyed → list_all is_field fs ≡ true → list_all is_asked (kinds_of keyed) ≡ true → AllThere fs keyed ms → all_stand keyed (object ms) ≡ Ok true
stand_all [] [] ms e fit ask there = refl
stand_all [] (k ∷ keyed) ms e fit ask there = absurd (no_more k.1 (kinds_of keyed) e)
stand_all (f ∷ fs) [] ms e fit ask there = absurd (no_kind (field_kind f) (map field_kind fs) e)
stand_all (f ∷ fs) (k ∷ keyed) ms e fit ask there =
    let kinds = first_kind (field_kind f) k.1 (map field_kind fs) (kinds_of keyed) e in
    let fits = and_parts (is_field f) (list_all is_field fs) fit in
    let asks = and_parts (is_asked k.1) (list_all is_asked (kinds_of keyed)) ask in
    rw (stands k.1 f k.0 (object ms) kinds.0 fits.0 asks.0 there.0) (stand_all fs keyed ms kinds.1 fits.1 asks.1 there.1)

form_all : (fs : List Field) (keyed : List Keyed) (ms : Members) → map field_kind fs ≡ kinds_of keyed → list_all is_field fs ≡ true → list_all is_asked (kinds_of keyed) ≡ true → AllThere fs keyed ms → all_forms keyed (object ms) ≡ Ok fs
form_all [] [] ms e fit ask there = refl
form_all [] (k ∷ keyed) ms e fit ask there = absurd (no_more k.1 (kinds_of keyed) e)
form_all (f ∷ fs) [] ms e fit ask there = absurd (no_kind (field_kind f) (map field_kind fs) e)
form_all (f ∷ fs) (k ∷ keyed) ms e fit ask there =
    let kinds = first_kind (field_kind f) k.1 (map field_kind fs) (kinds_of keyed) e in
    let fits = and_parts (is_field f) (list_all is_field fs) fit in
    let asks = and_parts (is_asked k.1) (list_all is_asked (kinds_of keyed)) ask in
    rw (formed k.1 f k.0 (object ms) kinds.0 fits.0 asks.0 there.0, form_all fs keyed ms kinds.1 fits.1 asks.1 there.1) refl

-- ---- the op, the caller and the key

-- what stands under another key than the request's
front_kept : (q by : List ℕ) (key : Option (List ℕ)) (word : List ℕ) → bytes_eq q (codes "key") ≡ false → get_member q (front by key word) ≡ get_member q (caller_and_op by word)
front_kept q by key word other = kept_data q (codes "key") (key_data key) (caller_and_op by word) (differ q (codes "key") other)

pub op_there : (fs : List Field) (keyed : List Keyed) (by : List ℕ) (key : Option (List ℕ)) (word : List ℕ) → KeysFit keyed → get_member (codes "op") (with_fields fs keyed (front by key word)) ≡ Some (string word)
op_there fs keyed by key word fit = kept_fields (codes "op") fs keyed (front by key word) fit.no_op ∙ front_kept (codes "op") by key word refl

pub by_there : (fs : List Field) (keyed : List Keyed) (by : List ℕ) (key : Option (List ℕ)) (word : List ℕ) → KeysFit keyed → get_member (codes "by") (with_fields fs keyed (front by key word)) ≡ Some (string by)
by_there fs keyed by key word fit = kept_fields (codes "by") fs keyed (front by key word) fit.no_by ∙ front_kept (codes "by") by key word refl

pub key_there : (fs : List Field) (keyed : List Keyed) (by : List ℕ) (key : Option (List ℕ)) (word : List ℕ) → KeysFit keyed → get_member (codes "key") (with_fields fs keyed (front by key word)) ≡ key_data key
key_there fs keyed by key word fit = kept_fields (codes "key") fs keyed (front by key word) fit.no_key ∙ found_data (codes "key") (key_data key) (caller_and_op by word) refl

-- no field stands before there are any
front_absent : (keyed : List Keyed) (by : List ℕ) (key : Option (List ℕ)) (word : List ℕ) → KeysFit keyed → AllAbsent keyed (front by key word)
front_absent keyed by key word fit =
    let first = absent_kept keyed (codes "op") (Some (string word)) no_members fit.no_op (all_absent keyed) in
    let second = absent_kept keyed (codes "by") (Some (string by)) (put (codes "op") (string word) no_members) fit.no_by first in
    absent_kept keyed (codes "key") (key_data key) (caller_and_op by word) fit.no_key second

pub fields_there : (fs : List Field) (keyed : List Keyed) (by : List ℕ) (key : Option (List ℕ)) (word : List ℕ) → KeysFit keyed → AllThere fs keyed (with_fields fs keyed (front by key word))
fields_there fs keyed by key word fit = all_there fs keyed (front by key word) fit.one_each (front_absent keyed by key word fit)

pub text_there : (q text : List ℕ) (ms : Members) → get_member q ms ≡ Some (string text) → text_at q (object ms) ≡ Ok text
unfolding text_at
text_there q text ms there = rw there refl

pub key_stood : (key : Option (List ℕ)) (ms : Members) → get_member (codes "key") ms ≡ key_data key → key_at true (object ms) ≡ Ok key
unfolding key_at optional_text_at
key_stood None ms there = rw there refl
key_stood (Some text) ms there = rw there refl

-- a key that has its form is read
pub key_again : (takes : Bool) (key : Option (List ℕ)) → key_fits takes key ≡ true → key_from key ≡ Ok key
unfolding key_from extension_from
key_again takes None fits = refl
key_again takes (Some text) fits =
    let both = and_parts takes (is_extension text) fits in
    rw both.1 refl

front_known : (keyed : List Keyed) (by : List ℕ) (key : Option (List ℕ)) (word : List ℕ) → AreKnown (known_keys Line true keyed) (front by key word)
unfolding known_keys
front_known keyed by key word = known_data (known_keys Line true keyed) (codes "key") (key_data key) (caller_and_op by word) refl refl

none_other : (known : List (List ℕ)) (ms : Members) → AreKnown known ms → no_other known (as_object (object ms)) ≡ Ok true
unfolding no_other
none_other known ms all = rw (all, no_other) refl

-- ---- the request

asked_so : (k : OpKind) (d : Data) (fs : List Field) (key : Option (List ℕ)) (o : Op) → key_at (kind_takes_key k) d ≡ Ok key → all_stand (row_of k).fields d ≡ Ok true → no_other (known_keys Line (kind_takes_key k) (row_of k).fields) (as_object d) ≡ Ok true → key_from key ≡ Ok key → all_forms (row_of k).fields d ≡ Ok fs → made k fs ≡ Some o
    → asked_in Line k d ≡ Ok (record { key = key; op = o })
unfolding asked_in stand_alone op_in
asked_so k d fs key o at_key stand known formed forms makes = rw (at_key, stand, known, formed, forms, makes) refl

request_so : (d : Data) (word by : List ℕ) (k : OpKind) (key : Option (List ℕ)) (o : Op) → text_at (codes "op") d ≡ Ok word → known_kind word ≡ Ok k → text_at (codes "by") d ≡ Ok by → asked_in Line k d ≡ Ok (record { key = key; op = o })
    → request_in d ≡ Ok (record { by = by; key = key; op = o })
unfolding request_in
request_so d word by k key o worded known caller asks = rw (worded, known, caller, asks) refl

kind_known : (word : List ℕ) (k : OpKind) → kind_named word ≡ Some k → known_kind word ≡ Ok k
kind_known word k named = rw named refl

pub all_fit : (c : Command) → has_form c ≡ true → list_all is_field (fields_of c) ≡ true
unfolding has_form
all_fit c h = h

asked_again : TableTakes → (by : List ℕ) (key : Option (List ℕ)) (c : Command) → key_fits (takes_key c) key ≡ true → has_form c ≡ true → (kind_of c ≡ command.Load → ⊥) → asked_in Line (op.Command (kind_of c)) (object (request_members by key c)) ≡ Ok (record { key = key; op = asked.Command c })
unfolding request_members
asked_again table by key c fits form no_load =
    let row = (command_row (kind_of c)).op in
    let fs = fields_of c in
    let ms = with_fields fs row.fields (front by key row.word) in
    let keys = keys_fit (kind_of c) in
    let asks = asked_row (kind_of c) no_load in
    let apart = table c in
    let there = fields_there fs row.fields by key row.word keys in
    let known = known_fields (known_keys Line true row.fields) fs row.fields (front by key row.word) keys.each_known (front_known row.fields by key row.word) in
    asked_so (op.Command (kind_of c)) (object ms) fs key (asked.Command c)
    (subst (λ (takes : Bool). key_at takes (object ms) ≡ Ok key) (sym asks.keyed) (key_stood key ms (key_there fs row.fields by key row.word keys)))
    (stand_all fs row.fields ms apart.kinds (all_fit c form) asks.kinds there)
    (subst (λ (takes : Bool). no_other (known_keys Line takes row.fields) (as_object (object ms)) ≡ Ok true) (sym asks.keyed) (none_other (known_keys Line true row.fields) ms known))
    (key_again (takes_key c) key fits)
    (form_all fs row.fields ms apart.kinds (all_fit c form) asks.kinds there)
    (ap (option_map (λ (d : Command). asked.Command d)) apart.again)

pub request_again : TableTakes → (by : List ℕ) (key : Option (List ℕ)) (c : Command) → key_fits (takes_key c) key ≡ true → has_form c ≡ true → (kind_of c ≡ command.Load → ⊥) → request_in (object (request_members by key c)) ≡ Ok (record { by = by; key = key; op = asked.Command c })
unfolding request_members
request_again table by key c fits form no_load =
    let row = (command_row (kind_of c)).op in
    let fs = fields_of c in
    let ms = with_fields fs row.fields (front by key row.word) in
    let keys = keys_fit (kind_of c) in
    request_so (object ms) row.word by (op.Command (kind_of c)) key (asked.Command c)
    (text_there (codes "op") row.word ms (op_there fs row.fields by key row.word keys))
    (kind_known row.word (op.Command (kind_of c)) (asked_row (kind_of c) no_load).named)
    (text_there (codes "by") by ms (by_there fs row.fields by key row.word keys))
    (asked_again table by key c fits form no_load)

-- ---- what a line has beside

-- a key that is none of the request's
new_key : (q by : List ℕ) (key : Option (List ℕ)) (word : List ℕ) (fs : List Field) (keyed : List Keyed) → has_key q keyed ≡ false → bytes_eq q (codes "key") ≡ false → get_member q (caller_and_op by word) ≡ None → get_member q (with_fields fs keyed (front by key word)) ≡ None
new_key q by key word fs keyed other no_key none = kept_fields q fs keyed (front by key word) other ∙ (front_kept q by key word no_key ∙ none)

pub no_id : (made : Option ℕ) (c : Command) → (made ≡ None) ⊎ (has_id c ≡ false) → (id : ℕ) → made ≡ Some id → has_key (codes "id") (command_row (kind_of c)).op.fields ≡ false
unfolding has_id
no_id made c (inl none) id is = absurd (let clash : ⊥ = cc in clash)
no_id made c (inr h) id is = h

-- the id that was made is taken away again
id_away : (made : Option ℕ) (by : List ℕ) (key : Option (List ℕ)) (c : Command) → (made ≡ None) ⊎ (has_id c ≡ false) → without_id made (with_data (codes "id") (id_data made) (request_members by key c)) ≡ request_members by key c
unfolding request_members
id_away None by key c one = refl
id_away (Some id) by key c one =
    let row = (command_row (kind_of c)).op in
    let ms = with_fields (fields_of c) row.fields (front by key row.word) in
    without_put (codes "id") (number (unsigned id)) ms (new_key (codes "id") by key row.word (fields_of c) row.fields (no_id (Some id) c one id refl) refl refl)

at_absent : (by : List ℕ) (key : Option (List ℕ)) (c : Command) → get_member (codes "at") (request_members by key c) ≡ None
unfolding request_members
at_absent by key c =
    let row = (command_row (kind_of c)).op in
    new_key (codes "at") by key row.word (fields_of c) row.fields (keys_fit (kind_of c)).no_at refl refl

number_absent : (by : List ℕ) (key : Option (List ℕ)) (c : Command) → get_member (codes "number") (request_members by key c) ≡ None
unfolding request_members
number_absent by key c =
    let row = (command_row (kind_of c)).op in
    new_key (codes "number") by key row.word (fields_of c) row.fields (keys_fit (kind_of c)).no_number refl refl

place_absent : (by : List ℕ) (key : Option (List ℕ)) (c : Command) → get_member (codes "place") (request_members by key c) ≡ None
unfolding request_members
place_absent by key c =
    let row = (command_row (kind_of c)).op in
    new_key (codes "place") by key row.word (fields_of c) row.fields (keys_fit (kind_of c)).no_place refl refl

-- a line without what it has beside
pub request_left : (nth place : ℕ) (made : Option ℕ) (s : Stamped) → (made ≡ None) ⊎ (has_id s.command ≡ false) → request_part made (line_members nth place made s) ≡ request_members (entity_text s.by) s.key s.command
unfolding line_members request_part
request_left nth place made s one =
    let c = s.command in
    let asks = request_members (entity_text s.by) s.key c in
    let more = with_data (codes "id") (id_data made) asks in
    let numbered = put (codes "number") (count_data nth) more in
    let placed = put (codes "place") (count_data place) numbered in
    let none_number : get_member (codes "number") more ≡ None = kept_data (codes "number") (codes "id") (id_data made) asks (differ (codes "number") (codes "id") refl) ∙ number_absent (entity_text s.by) s.key c in
    let none_place : get_member (codes "place") numbered ≡ None =
    get_member-put_other (codes "place") (codes "number") (count_data nth) more (differ (codes "place") (codes "number") refl)
    ∙ (kept_data (codes "place") (codes "id") (id_data made) asks (differ (codes "place") (codes "id") refl) ∙ place_absent (entity_text s.by) s.key c) in
    let none_at : get_member (codes "at") placed ≡ None =
    get_member-put_other (codes "at") (codes "place") (count_data place) numbered (differ (codes "at") (codes "place") refl)
    ∙ (get_member-put_other (codes "at") (codes "number") (count_data nth) more (differ (codes "at") (codes "number") refl)
    ∙ (kept_data (codes "at") (codes "id") (id_data made) asks (differ (codes "at") (codes "id") refl) ∙ at_absent (entity_text s.by) s.key c)) in
    let no_at : without (codes "at") (put (codes "at") (moment_data s.at) placed) ≡ placed = without_put (codes "at") (moment_data s.at) placed none_at in
    let no_place : without (codes "place") placed ≡ numbered = without_put (codes "place") (count_data place) numbered none_place in
    let no_number : without (codes "number") numbered ≡ more = without_put (codes "number") (count_data nth) more none_number in
    ap (λ (ms : Members). without_id made (without (codes "number") (without (codes "place") ms))) no_at ∙ (ap (λ (ms : Members). without_id made (without (codes "number") ms)) no_place ∙ (ap (without_id made) no_number ∙ id_away made (entity_text s.by) s.key c one))

pub part_again : TableTakes → (nth place : ℕ) (made : Option ℕ) (s : Stamped) → IsTold made s → (kind_of s.command ≡ command.Load → ⊥) → request_in (object (request_part made (line_members nth place made s))) ≡ Ok (record { by = entity_text s.by; key = s.key; op = asked.Command s.command })
part_again table nth place made s told no_load = ap (λ (ms : Members). request_in (object ms)) (request_left nth place made s told.one_id) ∙ request_again table (entity_text s.by) s.key s.command told.key told.form no_load
