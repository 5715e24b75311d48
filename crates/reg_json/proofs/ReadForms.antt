-- What is read has its form.
use Rattle.std.proofs.Common.{◌≡◌, ◌≤◌, ℕ, List, [], ◌∷◌, Bool, true, false, ◌&&◌, length, map, Option, Some, None, Result, Ok, Err, IfOk, IfSome, refl, sym, ap, subst, ◌∙◌, codes, cond, ok_or, option_map, drop, nat_eq, option_and_then}
use Rattle.std.specs.List.{list_all, starts_with}
use Rattle.std.specs.Str.{IsUtf8, bytes_eq}
use Rattle.std.proofs.lemmas.Bool.{and_from, and_parts, le-leb}
use Rattle.std.proofs.lemmas.Str.{is_utf8-from_IsUtf8}
use Rattle.std.proofs.Math.Bool.{and-true}
use Rattle.serde_json.specs.Data.{Data}
use Rattle.serde_json.specs.Find.{get}
use Rattle.reg_base.specs.Names.{is_extension, is_name, is_person, is_source, name_of}
use Rattle.reg_base.specs.Entities.{entity_of}
use Rattle.reg_base.specs.MomentText.{moment_of}
use Rattle.reg_base.specs.declared.entity.Entity.TheVariants.{Person, Group}
use Rattle.reg_terms.specs.Limits.{max_display, max_moment}
use Rattle.reg_ops.specs.Forms.{is_display, is_entity, is_folder_text, is_object_text, is_optional_moment, is_value, suits_some, is_field, has_form, query_has_form, op_has_form, takes_key, op_takes_key, key_fits}
use Rattle.reg_ops.specs.Parts.{field_kind}
use Rattle.reg_ops.specs.Table.{row_of, field_kinds, kind_of, made, op_fields, op_kind, IsMade}
use Rattle.reg_ops.specs.declared.field.FieldKind.{FieldKind}
use Rattle.reg_ops.specs.declared.field.FieldKind.TheVariants as kind
use Rattle.reg_ops.specs.declared.field.Field.{Field}
use Rattle.reg_ops.specs.declared.table.OpKind.{OpKind}
use Rattle.reg_terms.specs.declared.refusal.Refusal.{Refusal}
use Rattle.reg_terms.specs.declared.refusal.Refusal.TheVariants.{BadMoment, BadName, BadRequest}
use Rattle.reg_terms.specs.declared.command.Command.{Command}
use Rattle.reg_terms.specs.declared.command.Command.TheVariants.{Load}
use Rattle.reg_terms.specs.declared.request.Op.{Op}
use Rattle.reg_terms.specs.declared.request.Op.TheVariants as asked
use Rattle.reg_terms.specs.declared.request.Request.{Request}
use Rattle.reg_json.specs.declared.fields.Carrier.{Carrier}
use Rattle.reg_json.specs.declared.fields.Carrier.TheVariants.{Line, Body}
use Rattle.reg_json.specs.declared.ops.Asked.{Asked}
use Rattle.reg_json.specs.Steps.{◌>>=◌}
use Rattle.reg_json.specs.Fields.{text_at, text_or_empty, optional_text_at, display_at, set_op_at, inherit_kind_at, scope_at, privilege_at, whole_number, is_within, number_at, name_from, folder_from, extension_from, key_at, key_from, source_from, object_from, entity_from, moment_from}
use Rattle.reg_json.specs.Attributes.{owners_named, owners_at, flag_at, def_kind_at, value_of, value_from, value_at, are_owners, owners_among}
use Rattle.reg_json.specs.Taking.{texts_in}
use Rattle.reg_json.specs.Ops.{form_at, all_forms, command_takes_key, kind_takes_key, stand_alone, op_in, asked_in}
use Rattle.reg_json.specs.Reading.{data_of, known_kind, request_in, reading_of, body_in, body_reading_of}
use Rattle.reg_json.specs.Forms.{IsFormed}
use Rattle.reg_json.proofs.Moments.{read_within}
use Rattle.reg_json.proofs.Options.{some_tested, either}

-- what is read, if anything is, has this; a record, so that `step` finds its arguments
record Keeps {B : Type 0} (Q : B → Type 0) (r : Result B Refusal) : Type 0 where
  kept : IfOk r Q

-- a step that tells something of its value
step : {A B : Type 0} {P : A → Type 0} {Q : B → Type 0} {f : A → Result B Refusal} {m : Result A Refusal} → Keeps P m → ((x : A) → P x → Keeps Q (f x)) → Keeps Q (m >>= f)
step {m = Ok x} h g = g x h.kept
step {m = Err e} h g = record { kept = tt }

-- a step that tells nothing
pass : {A B : Type 0} {Q : B → Type 0} {f : A → Result B Refusal} (m : Result A Refusal) → ((x : A) → Keeps Q (f x)) → Keeps Q (m >>= f)
pass (Ok x) g = g x
pass (Err e) g = record { kept = tt }

-- a step that reads a field's text, whose arguments can be left out, as of the next
pass_text : {B : Type 0} {Q : B → Type 0} {f : List ℕ → Result B Refusal} (key : List ℕ) (d : Data) → ((x : List ℕ) → Keeps Q (f x)) → Keeps Q (text_at key d >>= f)
pass_text key d g = pass (text_at key d) g

pass_optional : {B : Type 0} {Q : B → Type 0} {f : Option (List ℕ) → Result B Refusal} (key : List ℕ) (d : Data) → ((x : Option (List ℕ)) → Keeps Q (f x)) → Keeps Q (optional_text_at key d >>= f)
pass_optional key d g = pass (optional_text_at key d) g

-- the last step
last : {B : Type 0} {Q : B → Type 0} {x : B} → Q x → Keeps Q (Ok x)
last h = record { kept = h }

-- a value that a test lets pass
tested : {A : Type 0} (b : Bool) (P : A → Type 0) (x : A) (e : Refusal) → (b ≡ true → P x) → Keeps P (cond b (Ok x) (Err e))
tested true P x e h = last (h refl)
tested false P x e h = record { kept = tt }

-- a short text of UTF-8 is a display text
pub display_is : (text : List ℕ) → length text ≤ max_display → IsUtf8 text → is_display text ≡ true
display_is text short utf8 = and_from _ _ (le-leb _ _ short) (is_utf8-from_IsUtf8 text utf8)

display_form : (key : List ℕ) (d : Data) → Keeps (λ display. is_display display ≡ true) (display_at key d)
unfolding display_at
display_form key d = pass (text_or_empty key (get key d)) (λ display. step (tested (is_display display) (λ _. is_display display ≡ true) true (BadRequest key) (λ e. e)) (λ short e. last e))

number_form : (least most : ℕ) (key : List ℕ) (d : Data) → Keeps (λ value. is_within least most value ≡ true) (number_at least most key d)
unfolding number_at
number_form least most key d =
    pass (ok_or (option_and_then whole_number (get key d)) (BadRequest key)) (λ value.
    step (tested (is_within least most value) (λ _. is_within least most value ≡ true) true (BadRequest key) (λ e. e)) (λ within e. last e))

folder_form : (field text : List ℕ) → Keeps (λ folder. is_folder_text folder ≡ true) (folder_from field text)
unfolding folder_from
folder_form field text = tested (is_folder_text text) (λ folder. is_folder_text folder ≡ true) text (BadName field) (λ e. e)

extension_form : (field text : List ℕ) → Keeps (λ extension. is_extension extension ≡ true) (extension_from field text)
unfolding extension_from
extension_form field text = tested (is_extension text) (λ extension. is_extension extension ≡ true) text (BadName field) (λ e. e)

source_form : (field text : List ℕ) → Keeps (λ source. is_source source ≡ true) (source_from field text)
unfolding source_from
source_form field text = tested (is_source text) (λ source. is_source source ≡ true) text (BadName field) (λ e. e)

object_form : (field text : List ℕ) → Keeps (λ object. is_object_text object ≡ true) (object_from field text)
unfolding object_from
object_form field text = tested (is_object_text text) (λ object. is_object_text object ≡ true) text (BadName field) (λ e. e)

some_ok : {A : Type 0} (P : A → Type 0) (x : Option A) (e : Refusal) → IfSome x P → Keeps P (ok_or x e)
some_ok P (Some x) e h = last h
some_ok P None e h = record { kept = tt }

name_form : (field text : List ℕ) → Keeps (λ name. is_name name ≡ true) (name_from field text)
unfolding name_from
name_form field text = some_ok (λ name. is_name name ≡ true) (name_of text) (BadName field) (some_tested (is_name text) (λ name. is_name name ≡ true) text (λ e. e))

entity_of_form : (text : List ℕ) → IfSome (entity_of text) (λ entity. is_entity entity ≡ true)
unfolding entity_of
entity_of_form text =
    either (bytes_eq text (codes "g:isa/GrouperSystem")) _ _ _ refl (
    either (bytes_eq text (codes "g:isa/GrouperAll")) _ _ _ refl (
    either (starts_with nat_eq text (codes "g:gsa/")) _ _ _ (some_tested (is_name (drop 6 text)) _ (Group (drop 6 text)) (λ e. e)) (some_tested (is_person text) _ (Person text) (λ e. e))))

entity_form : (field text : List ℕ) → Keeps (λ entity. is_entity entity ≡ true) (entity_from field text)
unfolding entity_from
entity_form field text = some_ok (λ entity. is_entity entity ≡ true) (entity_of text) (BadName field) (entity_of_form text)

within_form : (found : Option ℕ) → IfSome found (λ moment. moment ≤ max_moment) → IfSome (option_map Some found) (λ moment. is_optional_moment moment ≡ true)
within_form None h = tt
within_form (Some moment) h = le-leb moment max_moment h

moment_form : (field : List ℕ) (text : Option (List ℕ)) → Keeps (λ moment. is_optional_moment moment ≡ true) (moment_from field text)
unfolding moment_from
moment_form field None = last refl
moment_form field (Some text) = some_ok (λ moment. is_optional_moment moment ≡ true) (option_map Some (moment_of text)) (BadMoment field) (within_form (moment_of text) (read_within text))

owners_some : (words : Option (List (List ℕ))) → IfSome (option_and_then owners_named words) (λ owners. suits_some owners ≡ true)
owners_some None = tt
owners_some (Some ws) = some_tested (are_owners ws && suits_some (owners_among ws)) (λ owners. suits_some owners ≡ true) (owners_among ws) (λ e. (and_parts _ _ e).1)

owners_form : (key : List ℕ) (d : Data) → Keeps (λ owners. suits_some owners ≡ true) (owners_at key d)
unfolding owners_at
owners_form key d = some_ok (λ owners. suits_some owners ≡ true) (option_and_then owners_named (texts_in key d)) (BadRequest key) (owners_some (texts_in key d))

given_form : (key : List ℕ) (d : Data) → Keeps (λ value. is_value value ≡ true) (value_from key d)
given_form key d = pass (ok_or (value_of d) (BadRequest key)) (λ value. step (tested (is_value value) (λ _. is_value value ≡ true) true (BadRequest key) (λ e. e)) (λ fits e. last e))

value_form : (key : List ℕ) (d : Data) → Keeps (λ value. is_value value ≡ true) (value_at key d)
unfolding value_at
value_form key d = pass (ok_or (get key d) (BadRequest key)) (λ found. given_form key found)

-- ---- by the kinds of fields

-- a field of a kind that has its form
record IsForm (k : FieldKind) (f : Field) : Type 0 where
  is_kind : field_kind f ≡ k
  fits : is_field f ≡ true

form_kept : (k : FieldKind) (key : List ℕ) (d : Data) → Keeps (IsForm k) (form_at k key d)
form_kept kind.Name key d = pass_text key d (λ text. step (name_form key text) (λ v e. last (record { is_kind = refl; fits = e })))
form_kept kind.Folder key d = pass_text key d (λ text. step (folder_form key text) (λ v e. last (record { is_kind = refl; fits = e })))
form_kept kind.Extension key d = pass_text key d (λ text. step (extension_form key text) (λ v e. last (record { is_kind = refl; fits = e })))
form_kept kind.Source key d = pass_text key d (λ text. step (source_form key text) (λ v e. last (record { is_kind = refl; fits = e })))
form_kept kind.Display key d = step (display_form key d) (λ v e. last (record { is_kind = refl; fits = e }))
form_kept kind.Entity key d = pass_text key d (λ text. step (entity_form key text) (λ v e. last (record { is_kind = refl; fits = e })))
form_kept kind.Object key d = pass_text key d (λ text. step (object_form key text) (λ v e. last (record { is_kind = refl; fits = e })))
form_kept kind.OptionalMoment key d = pass_optional key d (λ text. step (moment_form key text) (λ v e. last (record { is_kind = refl; fits = e })))
form_kept kind.SetOp key d = pass (set_op_at key d) (λ v. last (record { is_kind = refl; fits = refl }))
form_kept kind.InheritKind key d = pass (inherit_kind_at key d) (λ v. last (record { is_kind = refl; fits = refl }))
form_kept kind.Scope key d = pass (scope_at key d) (λ v. last (record { is_kind = refl; fits = refl }))
form_kept kind.Privilege key d = pass (privilege_at key d) (λ v. last (record { is_kind = refl; fits = refl }))
form_kept kind.Owners key d = step (owners_form key d) (λ v e. last (record { is_kind = refl; fits = e }))
form_kept kind.Flag key d = pass (flag_at key d) (λ v. last (record { is_kind = refl; fits = refl }))
form_kept kind.DefKind key d = pass (def_kind_at key d) (λ v. last (record { is_kind = refl; fits = refl }))
form_kept kind.Value key d = step (value_form key d) (λ v e. last (record { is_kind = refl; fits = e }))
form_kept kind.Names key d = record { kept = tt }
form_kept kind.LoadRows key d = record { kept = tt }
form_kept kind.Table key d = pass_text key d (λ text. last (record { is_kind = refl; fits = refl }))
form_kept (kind.Number least most) key d = step (number_form least most key d) (λ v e. last (record { is_kind = refl; fits = e }))

record AreForms (ks : List FieldKind) (fs : List Field) : Type 0 where
  are_kinds : map field_kind fs ≡ ks
  fit : list_all is_field fs ≡ true

abbrev kinds_in : List (List ℕ × FieldKind) → List FieldKind
kinds_in fs = map (λ (f : List ℕ × FieldKind). f.1) fs

all_kept : (fs : List (List ℕ × FieldKind)) (d : Data) → Keeps (AreForms (kinds_in fs)) (all_forms fs d)
all_kept [] d = last (record { are_kinds = refl; fit = refl })
all_kept (f ∷ fs) d = step (form_kept f.1 f.0 d) (λ x p. step (all_kept fs d) (λ xs q. last (record {
  are_kinds = ap (λ (k : FieldKind). k ∷ map field_kind xs) p.is_kind ∙ ap (λ (ks : List FieldKind). f.1 ∷ ks) q.are_kinds;
  fit = and_from _ _ p.fits q.fit;
})))

-- ---- by the table

-- what the table of ops says of commands and queries that are made of fields
abbrev pub TableMakes : Type 0
TableMakes = (k : OpKind) (fields : List Field) → map field_kind fields ≡ field_kinds (row_of k) → IsMade k fields

form_is : (o : Op) → op_has_form o ≡ list_all is_field (op_fields o)
unfolding has_form query_has_form
form_is (asked.Command c) = refl
form_is (asked.Query q) = refl
form_is (asked.Load job table) = sym (and-true (is_extension job))

-- a command may have a key where its kind may
command_takes : (c : Command) → takes_key c ≡ command_takes_key (kind_of c)
command_takes (Load job created removed added) = refl
command_takes _ = refl

op_takes : (o : Op) → op_takes_key o ≡ kind_takes_key (op_kind o)
op_takes (asked.Command c) = command_takes c
op_takes (asked.Query q) = refl
op_takes (asked.Load job table) = refl

-- an op whose fields have their forms, and that may have a key where its kind may
record Suits (k : OpKind) (o : Op) : Type 0 where
  formed : op_has_form o ≡ true
  takes : op_takes_key o ≡ kind_takes_key k

made_form : TableMakes → (k : OpKind) (fs : List Field) → AreForms (field_kinds (row_of k)) fs → IfSome (made k fs) (Suits k)
made_form table k fs q =
    let m = table k fs q.are_kinds in
    let fits : op_has_form m.op ≡ true = form_is m.op ∙ ap (list_all is_field) m.has_these ∙ q.fit in
    let may : op_takes_key m.op ≡ kind_takes_key k = op_takes m.op ∙ ap kind_takes_key m.is_kind in
    subst (λ (found : Option Op). IfSome found (Suits k)) (sym m.made_so) (record { formed = fits; takes = may })

op_kept : TableMakes → (k : OpKind) (d : Data) → Keeps (Suits k) (op_in k d)
unfolding op_in
op_kept table k d =
    let read : Keeps (AreForms (field_kinds (row_of k))) (all_forms (row_of k).fields d) = all_kept (row_of k).fields d in
    step read (λ xs q. some_ok (Suits k) (made k xs) (BadRequest []) (made_form table k xs q))

-- ---- the key

-- a text stands only where it may
abbrev may_stand : Bool → Option (List ℕ) → Bool
may_stand may None = true
may_stand may (Some text) = may

any_stands : (found : Option (List ℕ)) → may_stand true found ≡ true
any_stands None = refl
any_stands (Some text) = refl

-- what holds of each value
always : {B : Type 0} {Q : B → Type 0} (m : Result B Refusal) → ((x : B) → Q x) → Keeps Q m
always (Ok x) h = last (h x)
always (Err e) h = record { kept = tt }

key_stands : (may : Bool) (d : Data) → Keeps (λ found. may_stand may found ≡ true) (key_at may d)
unfolding key_at
key_stands true d = always (optional_text_at (codes "key") d) any_stands
key_stands false d = last refl

key_form : (may : Bool) (found : Option (List ℕ)) → may_stand may found ≡ true → Keeps (λ key. key_fits may key ≡ true) (key_from found)
unfolding key_from
key_form may None h = last refl
key_form may (Some text) h = step (extension_form (codes "key") text) (λ key e. last (and_from may (is_extension key) h e))

-- ---- what is asked

-- a key and an op that have their forms
record Fits (a : Asked) : Type 0 where
  fields : op_has_form a.op ≡ true
  key_so : key_fits (op_takes_key a.op) a.key ≡ true

fit_both : (k : OpKind) (key : Option (List ℕ)) (o : Op) → key_fits (kind_takes_key k) key ≡ true → Suits k o → Fits (record { key = key; op = o })
fit_both k key o fits suits = record { fields = suits.formed; key_so = rw suits.takes fits }

asked_kept : TableMakes → (carrier : Carrier) (k : OpKind) (d : Data) → Keeps Fits (asked_in carrier k d)
unfolding asked_in
asked_kept table carrier k d =
    step (key_stands (kind_takes_key k) d) (λ found may.
    pass (stand_alone carrier (kind_takes_key k) (row_of k).fields d) (λ alone.
    step (key_form (kind_takes_key k) found may) (λ key fits.
    step (op_kept table k d) (λ o suits.
    last (fit_both k key o fits suits)))))

request_kept : TableMakes → (d : Data) → Keeps IsFormed (request_in d)
unfolding request_in
request_kept table d =
    pass_text _ _ (λ word.
    pass (known_kind word) (λ known.
    pass_text _ _ (λ by.
    step (asked_kept table Line known d) (λ a good. last (record { fields = good.fields; key = good.key_so })))))

reading_kept : TableMakes → (line : List ℕ) → Keeps IsFormed (reading_of line)
unfolding reading_of
reading_kept table line = pass (data_of line) (λ d. request_kept table d)

reading_form : TableMakes → (line : List ℕ) → IfOk (reading_of line) IsFormed
reading_form table line = (reading_kept table line).kept

-- the same of a request that is given
pub read_formed : TableMakes → (line : List ℕ) (request : Request) → reading_of line ≡ Ok request → IsFormed request
read_formed table line request e = rw e at (reading_form table line)

body_kept : TableMakes → (by : List ℕ) (d : Data) → Keeps IsFormed (body_in by d)
unfolding body_in
body_kept table by d =
    pass_text _ _ (λ word.
    pass (known_kind word) (λ known.
    step (asked_kept table Body known d) (λ a good. last (record { fields = good.fields; key = good.key_so }))))

body_reading_kept : TableMakes → (by body : List ℕ) → Keeps IsFormed (body_reading_of by body)
unfolding body_reading_of
body_reading_kept table by body = pass (data_of body) (λ d. body_kept table by d)

body_reading_form : TableMakes → (by body : List ℕ) → IfOk (body_reading_of by body) IsFormed
body_reading_form table by body = (body_reading_kept table by body).kept

-- and of a body's
pub body_formed : TableMakes → (by body : List ℕ) (request : Request) → body_reading_of by body ≡ Ok request → IsFormed request
body_formed table by body request e = rw e at (body_reading_form table by body)
