-- Lines are plain: their numbers have 64 bits, and their keys ascend. So their texts read as their members.
use Rattle.std.proofs.Common.{◌≡◌, ℕ, ◌<◌, ◌^◌, ℤ, pos, negsuc, Bool, true, false, List, [], ◌∷◌, ◌++◌, append_assoc, codes, Option, Some, None, Ok, IfSome, refl, ap, ◌∙◌, arith}
use Rattle.std.specs.Prelude.{⊤}
use Rattle.std.specs.Str.{IsUtf8}
use Rattle.std.specs.Ordering.{match_ordering, nat_cmp, ordering_reverse}
use Rattle.std.specs.Cmp.Lexicographic.{slice_cmp}
use Rattle.std.specs.declared.cmp.Ordering.{Ordering}
use Rattle.std.specs.declared.cmp.Ordering.TheVariants.{Less, Equal, Greater}
use Rattle.std.proofs.lemmas.Bool.{ltb-true}
use Rattle.std.proofs.lemmas.Cmp.{nat_list_cmp_total}
use Rattle.std.proofs.lemmas.Str.{is_utf8-from_IsUtf8}
use Rattle.serde_json.specs.Data.{Data, Members, array, member, no_members, object, put, string}
use Rattle.serde_json.specs.Find.{of_integer}
use Rattle.serde_json.specs.Read.{read}
use Rattle.serde_json.specs.Written.{number_text, outline}
use Rattle.std.specs.Fmt.{signed_decimal}
use Rattle.serde_json.proofs.Texts.{print-outline}
use Rattle.json.specs.Print.{print}
use Rattle.json.specs.Token as json
use Rattle.json.specs.Token.{Token, begin_array, begin_object, end_array, end_object, key}
use Rattle.json.specs.Tree.{json_tokens}
use Rattle.reg_terms.specs.declared.command.Stamped.{Stamped}
use Rattle.reg_terms.specs.declared.kinds.Owners.{Owners}
use Rattle.reg_terms.specs.declared.kinds.Value.{Value}
use Rattle.reg_terms.specs.declared.kinds.Value.TheVariants as value
use Rattle.reg_terms.specs.declared.lists.LoadRow.{LoadRow}
use Rattle.reg_ops.specs.Parts.{seen, seen_all}
use Rattle.reg_ops.specs.Table.{command_row, fields_of, kind_of}
use Rattle.reg_ops.specs.declared.field.Field.{Field}
use Rattle.reg_ops.specs.declared.field.Field.TheVariants as field
use Rattle.reg_ops.specs.declared.parts.FieldRef.{FieldRef}
use Rattle.reg_json.specs.Reading.{json_of}
use Rattle.reg_json.specs.Replies.{strings}
use Rattle.reg_json.proofs.Integers.{integer_text as digits}
use Rattle.reg_json.proofs.Plain.{ArePlain, Ascends, ComesLast, IsPlain, MembersArePlain, read-compact_text, then_member}
use Rattle.reg_export.specs.Fields.{entity_text, field_data, moment_data, owner_words, row_data, row_items, value_data, word_if}
use Rattle.reg_export.specs.Lines.{Keyed, command_text, count_data, caller_and_op, front, id_data, key_data, line_members, request_members, with_data, with_fields}
use Rattle.reg_export.specs.Members.{AreWhole, IsWhole, word_tokens}
use Rattle.reg_export.proofs.Writing.{line_flat, low_enough}

-- what is printed of a line's tokens, where nothing stood before, is its text
pub text_of : (nth place : ℕ) (made : Option ℕ) (s : Stamped) (before : List ℕ) (ts : List Token) (bytes : List ℕ) → bytes ≡ before ++ print ts → before ≡ [] → ts ≡ [] ++ json_tokens (outline (object (line_members nth place made s))) → bytes ≡ command_text nth place made s
unfolding command_text
text_of nth place made s before ts bytes is none tokens = is ∙ rw (none, tokens) (print-outline (object (line_members nth place made s)))

pub integer_text : (n : ℤ) → number_text (of_integer n) ≡ signed_decimal n
integer_text = digits

-- three words behind the opening bracket, each where it holds
words_written : (o : List Token) (a b c : Bool) (x y z : List ℕ) → ((((o ++ begin_array ∷ []) ++ word_tokens a x) ++ word_tokens b y) ++ word_tokens c z) ++ end_array ∷ [] ≡ o ++ json_tokens (outline (array (strings (word_if a x ++ (word_if b y ++ word_if c z)))))
words_written o true true true x y z = simp append_assoc
words_written o true true false x y z = simp append_assoc
words_written o true false true x y z = simp append_assoc
words_written o true false false x y z = simp append_assoc
words_written o false true true x y z = simp append_assoc
words_written o false true false x y z = simp append_assoc
words_written o false false true x y z = simp append_assoc
words_written o false false false x y z = simp append_assoc

pub owners_written : (o : List Token) (owners : Owners) → ((((o ++ begin_array ∷ []) ++ word_tokens owners.folder (codes "folder")) ++ word_tokens owners.group (codes "group")) ++ word_tokens owners.subject (codes "subject")) ++ end_array ∷ [] ≡ o ++ json_tokens (outline (array (strings (owner_words owners))))
owners_written o owners = words_written o owners.folder owners.group owners.subject (codes "folder") (codes "group") (codes "subject")

-- two texts under their keys
pub row_written : (o : List Token) (group person : List ℕ) → (((o ++ begin_object ∷ []) ++ key (codes "group") ∷ json.string group ∷ []) ++ key (codes "person") ∷ json.string person ∷ []) ++ end_object ∷ [] ≡ o ++ json_tokens (outline (row_data (record { group = group; person = person })))
row_written o group person = simp append_assoc

pub row_chain : (o a b c d : List Token) (group person : List ℕ) → a ≡ o ++ begin_object ∷ [] → b ≡ a ++ key (codes "group") ∷ json.string group ∷ [] → c ≡ b ++ key (codes "person") ∷ json.string person ∷ [] → d ≡ c ++ end_object ∷ []
    → d ≡ o ++ json_tokens (outline (row_data (record { group = group; person = person })))
row_chain o a b c d group person first second third last =
    last ∙ (ap (λ (ts : List Token). ts ++ end_object ∷ []) (third ∙ ap (λ (ts : List Token). ts ++ key (codes "person") ∷ json.string person ∷ []) (second ∙ ap (λ (ts : List Token). ts ++ key (codes "group") ∷ json.string group ∷ []) first))
    ∙ row_written o group person)

whole_append : (fs gs : List Field) → AreWhole fs → AreWhole gs → AreWhole (fs ++ gs)
whole_append [] gs a b = b
whole_append (f ∷ fs) gs a b = (a.0, whole_append fs gs a.1 b)

pub whole_joined : (v : FieldRef) (vs : List FieldRef) → AreWhole (seen v) → AreWhole (seen_all vs) → AreWhole (seen_all (v ∷ vs))
whole_joined v vs a b = whole_append (seen v) (seen_all vs) a b

-- ---- plain data

strings_plain : (texts : List (List ℕ)) → ArePlain (strings texts)
strings_plain [] = tt
strings_plain (text ∷ texts) = (tt, strings_plain texts)

rows_plain : (rows : List LoadRow) → ArePlain (row_items rows)
rows_plain [] = tt
rows_plain (row ∷ rows) = (((tt, ((refl, tt), tt)), (tt, (tt, tt))), rows_plain rows)

value_plain : (v : Value) → IsWhole (field.Value v) → IsPlain (value_data v)
value_plain (value.Int (pos n)) h = let few = ltb-true n (2 ^ 63) h in omega (arith, few)
value_plain (value.Int (negsuc n)) h = ltb-true n (2 ^ 63) h
value_plain (value.Text text) h = tt

moment_plain : (moment : Option ℕ) → IfSome (field_data (field.OptionalMoment moment)) IsPlain
moment_plain None = tt
moment_plain (Some t) = tt

field_plain : (f : Field) → IsWhole f → IfSome (field_data f) IsPlain
field_plain (field.Number n least most) h = h
field_plain (field.Value v) h = value_plain v h
field_plain (field.Owners owners) h = strings_plain (owner_words owners)
field_plain (field.Names names) h = strings_plain names
field_plain (field.LoadRows rows) h = rows_plain rows
field_plain (field.OptionalMoment moment) h = moment_plain moment
field_plain (field.Table table) h = tt
field_plain _ h = tt

-- ---- keys in order

-- these keys come after a key
abbrev AllAfter : List ℕ → Members → Type 0
AllAfter k no_members = ⊤
AllAfter k (member l e ms) = (slice_cmp nat_cmp k l ≡ Less) × AllAfter k ms

abbrev InOrder : Members → Type 0
InOrder no_members = ⊤
InOrder (member k d ms) = AllAfter k ms × InOrder ms

flipped : (k l : List ℕ) (o : Ordering) → slice_cmp nat_cmp k l ≡ o → slice_cmp nat_cmp l k ≡ ordering_reverse o
flipped k l o is = nat_list_cmp_total.antisymm l k ∙ ap ordering_reverse is

earlier : (k l : List ℕ) (ms : Members) → slice_cmp nat_cmp k l ≡ Less → AllAfter l ms → AllAfter k ms
earlier k l no_members less all = tt
earlier k l (member m e ms) less all = (nat_list_cmp_total.trans k l m less all.0, earlier k l ms less all.1)

after_put : (l k : List ℕ) (d : Data) (ms : Members) → slice_cmp nat_cmp l k ≡ Less → AllAfter l ms → AllAfter l (put k d ms)
after_put l k d no_members less all = (less, tt)
after_put l k d (member m e ms) less all = at (slice_cmp nat_cmp k m) (after_put l k d ms less all.1)
  where
    at : (o : Ordering) → AllAfter l (put k d ms) → AllAfter l (match_ordering o (member k d (member m e ms)) (member m d ms) (member m e (put k d ms)))
    at Less more = (less, all)
    at Equal more = all
    at Greater more = (all.0, more)

put_in_order : (k : List ℕ) (d : Data) (ms : Members) → InOrder ms → InOrder (put k d ms)
put_in_order k d no_members h = (tt, tt)
put_in_order k d (member l e ms) h = at (slice_cmp nat_cmp k l) refl (put_in_order k d ms h.1)
  where
    at : (o : Ordering) → slice_cmp nat_cmp k l ≡ o → InOrder (put k d ms) → InOrder (match_ordering o (member k d (member l e ms)) (member l d ms) (member l e (put k d ms)))
    at Less is more = ((is, earlier k l ms is h.0), h)
    at Equal is more = h
    at Greater is more = (after_put l k d ms (flipped k l Greater is) h.0, more)

-- each of these keys comes after each of those before
abbrev Behind : Members → Members → Type 0
Behind before no_members = ⊤
Behind before (member k d ms) = ComesLast k before × Behind before ms

last_more : (l k : List ℕ) (d : Data) (before : Members) → slice_cmp nat_cmp k l ≡ Less → ComesLast l before → ComesLast l (then_member before k d)
last_more l k d no_members less last = (flipped k l Less less, tt)
last_more l k d (member m e ms) less last = (last.0, last_more l k d ms less last.1)

behind_more : (before : Members) (k : List ℕ) (d : Data) (ms : Members) → AllAfter k ms → Behind before ms → Behind (then_member before k d) ms
behind_more before k d no_members all behind = tt
behind_more before k d (member l e ms) all behind = (last_more l k d before all.0 behind.0, behind_more before k d ms all.1 behind.1)

ascending : (before ms : Members) → InOrder ms → Behind before ms → Ascends before ms
ascending before no_members h behind = tt
ascending before (member k d ms) h behind = (behind.0, ascending (then_member before k d) ms h.1 (behind_more before k d ms h.0 behind.1))

behind_none : (ms : Members) → Behind no_members ms
behind_none no_members = tt
behind_none (member k d ms) = (tt, behind_none ms)

-- ---- plain members

put_plain : (k : List ℕ) (d : Data) (ms : Members) → IsPlain d → MembersArePlain ms → MembersArePlain (put k d ms)
put_plain k d no_members one all = (one, tt)
put_plain k d (member l e ms) one all = at (slice_cmp nat_cmp k l) (put_plain k d ms one all.1)
  where
    at : (o : Ordering) → MembersArePlain (put k d ms) → MembersArePlain (match_ordering o (member k d (member l e ms)) (member l d ms) (member l e (put k d ms)))
    at Less more = (one, all)
    at Equal more = (one, all.1)
    at Greater more = (all.0, more)

abbrev IsGood : Members → Type 0
IsGood ms = InOrder ms × MembersArePlain ms

good_put : (k : List ℕ) (d : Data) (ms : Members) → IsPlain d → IsGood ms → IsGood (put k d ms)
good_put k d ms one all = (put_in_order k d ms all.0, put_plain k d ms one all.1)

good_data : (k : List ℕ) (found : Option Data) (ms : Members) → IfSome found IsPlain → IsGood ms → IsGood (with_data k found ms)
good_data k None ms one all = all
good_data k (Some d) ms one all = good_put k d ms one all

good_fields : (fs : List Field) (keyed : List Keyed) (ms : Members) → AreWhole fs → IsGood ms → IsGood (with_fields fs keyed ms)
good_fields [] keyed ms whole all = all
good_fields (f ∷ fs) [] ms whole all = all
good_fields (f ∷ fs) (k ∷ keyed) ms whole all = good_fields fs keyed (with_data k.0 (field_data f) ms) whole.1 (good_data k.0 (field_data f) ms (field_plain f whole.0) all)

good_id : (made : Option ℕ) → IfSome made (λ id. id < 2 ^ 64) → IfSome (id_data made) IsPlain
good_id None h = tt
good_id (Some id) h = h

good_key : (under : Option (List ℕ)) → IfSome (key_data under) IsPlain
good_key None = tt
good_key (Some text) = tt

front_good : (by : List ℕ) (under : Option (List ℕ)) (word : List ℕ) → IsGood (front by under word)
front_good by under word =
    let asked = good_put (codes "by") (string by) (put (codes "op") (string word) no_members) tt (good_put (codes "op") (string word) no_members tt (tt, tt)) in
    good_data (codes "key") (key_data under) (caller_and_op by word) (good_key under) asked

line_good : (nth place : ℕ) (made : Option ℕ) (s : Stamped) → nth < 2 ^ 64 → place < 2 ^ 64 → IfSome made (λ id. id < 2 ^ 64) → AreWhole (fields_of s.command) → IsGood (line_members nth place made s)
unfolding line_members request_members
line_good nth place made s few small fits whole =
    let c = s.command in
    let row = (command_row (kind_of c)).op in
    let ms = with_fields (fields_of c) row.fields (front (entity_text s.by) s.key row.word) in
    let fields = good_fields (fields_of c) row.fields (front (entity_text s.by) s.key row.word) whole (front_good (entity_text s.by) s.key row.word) in
    let with_id = good_data (codes "id") (id_data made) ms (good_id made fits) fields in
    let with_number = good_put (codes "number") (count_data nth) (with_data (codes "id") (id_data made) ms) few with_id in
    let numbered = put (codes "number") (count_data nth) (with_data (codes "id") (id_data made) ms) in
    let with_place = good_put (codes "place") (count_data place) numbered small with_number in
    good_put (codes "at") (moment_data s.at) (put (codes "place") (count_data place) numbered) tt with_place

-- the text of a line reads as its members
pub line_reads : (nth place : ℕ) (made : Option ℕ) (s : Stamped) (bytes : List ℕ) → nth < 2 ^ 64 → place < 2 ^ 64 → IfSome made (λ id. id < 2 ^ 64) → AreWhole (fields_of s.command) → IsUtf8 bytes → bytes ≡ command_text nth place made s
    → json_of bytes ≡ Ok (object (line_members nth place made s))
unfolding command_text
line_reads nth place made s bytes few small fits whole utf8 is =
    let ms = line_members nth place made s in
    let good = line_good nth place made s few small fits whole in
    let plain : IsPlain (object ms) = (ascending no_members ms good.0 (behind_none ms), good.1) in
    let back = ap read is ∙ read-compact_text (object ms) plain (low_enough ms (line_flat nth place made s)) in
    rw (is_utf8-from_IsUtf8 bytes utf8, back) refl
