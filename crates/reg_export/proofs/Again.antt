-- What is written of a field is read as that field.
use Rattle.std.proofs.Common.{◌≡◌, ℕ, ℤ, pos, negsuc, Bool, true, false, List, Some, None, Ok, refl}
use Rattle.std.proofs.lemmas.Bool.{and_parts, false≢true, leb-true}
use Rattle.serde_json.specs.Data.{Data, array}
use Rattle.serde_json.specs.Find.{as_i64, get, of_integer}
use Rattle.reg_base.specs.declared.privilege.Privilege.{Privilege}
use Rattle.reg_base.specs.declared.privilege.Privilege.TheVariants as privilege
use Rattle.reg_base.proofs.Texts.{text_of_reads}
use Rattle.reg_terms.specs.Privileges.{line_of, privilege_named}
use Rattle.reg_terms.specs.declared.kinds.DefKind.{DefKind}
use Rattle.reg_terms.specs.declared.kinds.DefKind.TheVariants as def
use Rattle.reg_terms.specs.declared.kinds.InheritKind.{InheritKind}
use Rattle.reg_terms.specs.declared.kinds.InheritKind.TheVariants as inherit
use Rattle.reg_terms.specs.declared.kinds.Owners.{Owners}
use Rattle.reg_terms.specs.declared.kinds.Scope.{Scope}
use Rattle.reg_terms.specs.declared.kinds.Scope.TheVariants as reach
use Rattle.reg_terms.specs.declared.kinds.SetOp.{SetOp}
use Rattle.reg_terms.specs.declared.kinds.SetOp.TheVariants as set_op
use Rattle.reg_terms.specs.declared.kinds.Value.{Value}
use Rattle.reg_terms.specs.declared.kinds.Value.TheVariants as value
use Rattle.reg_terms.specs.declared.lists.LoadRow.{LoadRow}
use Rattle.reg_ops.specs.Forms.{are_load_rows, is_field, is_i64, is_load_row, is_value, suits_some}
use Rattle.reg_ops.specs.Parts.{field_kind}
use Rattle.reg_ops.specs.declared.field.Field.{Field}
use Rattle.reg_ops.specs.declared.field.Field.TheVariants as field
use Rattle.reg_json.specs.AdminReplies.{scope_word}
use Rattle.reg_json.specs.Attributes.{def_kind, def_kind_at, flag_at, owners_at, owners_named, value_at, value_of}
use Rattle.reg_json.specs.Fields.{composite_kind, display_at, entity_from, extension_from, folder_from, inherit_kind, inherit_kind_at, moment_from, name_from, number_at, object_from, optional_text_at, privilege_at, scope, scope_at, set_op_at, source_from, text_at, text_or_empty}
use Rattle.reg_json.specs.Ops.{form_at, stands_at}
use Rattle.reg_json.specs.Replies.{kind_word}
use Rattle.reg_json.specs.Taking.{all_of, items_in, text_in}
use Rattle.reg_json.proofs.UnderKeys.{all_again, texts_there}
use Rattle.reg_export.specs.Fields.{def_word, field_data, inherit_word, owner_words, row_data, row_items, value_data}
use Rattle.reg_export.specs.Telling.{names_at, row_from, rows_at, told_at}
use Rattle.reg_export.proofs.Callers.{entity_again}
use Rattle.reg_export.proofs.Rows.{is_asked, is_told}

-- ---- words

kind_again : (kind : SetOp) → composite_kind (kind_word kind) ≡ Some kind
kind_again set_op.Intersection = refl
kind_again set_op.Complement = refl
kind_again set_op.Union = refl

inherit_again : (kind : InheritKind) → inherit_kind (inherit_word kind) ≡ Some kind
inherit_again inherit.Folder = refl
inherit_again inherit.Group = refl
inherit_again inherit.Definition = refl

scope_again : (s : Scope) → scope (scope_word s) ≡ Some s
scope_again reach.One = refl
scope_again reach.Sub = refl

def_again : (kind : DefKind) → def_kind (def_word kind) ≡ Some kind
def_again def.Marker = refl
def_again def.Integer = refl
def_again def.Text = refl
def_again def.Timestamp = refl

privilege_again : (p : Privilege) → privilege_named (line_of p).name ≡ Some p
unfolding privilege_named
privilege_again privilege.Admin = refl
privilege_again privilege.Update = refl
privilege_again privilege.Read = refl
privilege_again privilege.View = refl
privilege_again privilege.Optin = refl
privilege_again privilege.Optout = refl
privilege_again privilege.GroupAttrRead = refl
privilege_again privilege.GroupAttrUpdate = refl
privilege_again privilege.StemAdmin = refl
privilege_again privilege.Create = refl
privilege_again privilege.StemAttrRead = refl
privilege_again privilege.StemAttrUpdate = refl
privilege_again privilege.AttrAdmin = refl
privilege_again privilege.AttrUpdate = refl
privilege_again privilege.AttrRead = refl
privilege_again privilege.AttrView = refl

kinds_again : (folder group subject : Bool) → suits_some (record { folder = folder; group = group; subject = subject }) ≡ true
    → owners_named (owner_words (record { folder = folder; group = group; subject = subject })) ≡ Some (record { folder = folder; group = group; subject = subject })
kinds_again true true true h = refl
kinds_again true true false h = refl
kinds_again true false true h = refl
kinds_again true false false h = refl
kinds_again false true true h = refl
kinds_again false true false h = refl
kinds_again false false true h = refl
kinds_again false false false h = absurd (false≢true h)

owners_again : (o : Owners) → suits_some o ≡ true → owners_named (owner_words o) ≡ Some o
owners_again o h = kinds_again o.folder o.group o.subject h

-- ---- values

integer_again : (n : ℤ) → is_i64 n ≡ true → as_i64 (of_integer n) ≡ Some n
integer_again (pos n) h = rw h refl
integer_again (negsuc n) h = refl

value_again : (v : Value) → is_value v ≡ true → value_of (value_data v) ≡ Some v
value_again (value.Int n) h = rw (integer_again n h) refl
value_again (value.Text text) h = refl

-- ---- fields that a request has

pub form_again : (f : Field) (key : List ℕ) (d : Data) → is_field f ≡ true → is_asked (field_kind f) ≡ true → get key d ≡ field_data f → form_at (field_kind f) key d ≡ Ok f
unfolding text_at name_from folder_from extension_from source_from display_at text_or_empty entity_from object_from optional_text_at moment_from set_op_at inherit_kind_at scope_at privilege_at owners_at flag_at def_kind_at value_at number_at
form_again (field.Name text) key d fits asked there = rw (there, fits) refl
form_again (field.Folder text) key d fits asked there = rw (there, fits) refl
form_again (field.Extension text) key d fits asked there = rw (there, fits) refl
form_again (field.Source text) key d fits asked there = rw (there, fits) refl
form_again (field.Display text) key d fits asked there = rw (there, fits) refl
form_again (field.Entity entity) key d fits asked there = rw (there, entity_again entity fits) refl
form_again (field.Object text) key d fits asked there = rw (there, fits) refl
form_again (field.OptionalMoment None) key d fits asked there = rw there refl
form_again (field.OptionalMoment (Some moment)) key d fits asked there = rw (there, text_of_reads moment (leb-true _ _ fits)) refl
form_again (field.SetOp kind) key d fits asked there = rw (there, kind_again kind) refl
form_again (field.InheritKind kind) key d fits asked there = rw (there, inherit_again kind) refl
form_again (field.Scope s) key d fits asked there = rw (there, scope_again s) refl
form_again (field.Privilege p) key d fits asked there = rw (there, privilege_again p) refl
form_again (field.Owners owners) key d fits asked there = rw (texts_there key d (owner_words owners) there, owners_again owners fits) refl
form_again (field.Flag flag) key d fits asked there = rw there refl
form_again (field.DefKind kind) key d fits asked there = rw (there, def_again kind) refl
form_again (field.Value v) key d fits asked there = rw (there, value_again v fits, fits) refl
form_again (field.Number n least most) key d fits asked there = rw (there, fits) refl
form_again (field.Names names) key d fits asked there = absurd (false≢true asked)
form_again (field.LoadRows rows) key d fits asked there = absurd (false≢true asked)
form_again (field.Table table) key d fits asked there = absurd (false≢true asked)

pub stand_again : (f : Field) (key : List ℕ) (d : Data) → is_field f ≡ true → is_asked (field_kind f) ≡ true → get key d ≡ field_data f → stands_at (field_kind f) key d ≡ Ok true
unfolding text_at display_at text_or_empty optional_text_at set_op_at inherit_kind_at scope_at privilege_at owners_at flag_at def_kind_at value_at number_at
stand_again (field.Name text) key d fits asked there = rw there refl
stand_again (field.Folder text) key d fits asked there = rw there refl
stand_again (field.Extension text) key d fits asked there = rw there refl
stand_again (field.Source text) key d fits asked there = rw there refl
stand_again (field.Display text) key d fits asked there = rw (there, fits) refl
stand_again (field.Entity entity) key d fits asked there = rw there refl
stand_again (field.Object text) key d fits asked there = rw there refl
stand_again (field.OptionalMoment None) key d fits asked there = rw there refl
stand_again (field.OptionalMoment (Some moment)) key d fits asked there = rw there refl
stand_again (field.SetOp kind) key d fits asked there = rw (there, kind_again kind) refl
stand_again (field.InheritKind kind) key d fits asked there = rw (there, inherit_again kind) refl
stand_again (field.Scope s) key d fits asked there = rw (there, scope_again s) refl
stand_again (field.Privilege p) key d fits asked there = rw (there, privilege_again p) refl
stand_again (field.Owners owners) key d fits asked there = rw (texts_there key d (owner_words owners) there, owners_again owners fits) refl
stand_again (field.Flag flag) key d fits asked there = rw there refl
stand_again (field.DefKind kind) key d fits asked there = rw (there, def_again kind) refl
stand_again (field.Value v) key d fits asked there = rw (there, value_again v fits, fits) refl
stand_again (field.Number n least most) key d fits asked there = rw (there, fits) refl
stand_again (field.Names names) key d fits asked there = absurd (false≢true asked)
stand_again (field.LoadRows rows) key d fits asked there = absurd (false≢true asked)
stand_again (field.Table table) key d fits asked there = absurd (false≢true asked)

-- ---- fields of a load

row_again : (row : LoadRow) → is_load_row row ≡ true → row_from (row_data row) ≡ Some row
unfolding row_from text_in
row_again row h = refl

items_there : (key : List ℕ) (d : Data) (rows : List LoadRow) → get key d ≡ Some (array (row_items rows)) → items_in key d ≡ Some (row_items rows)
unfolding items_in
items_there key d rows there = rw there refl

rows_again : (rows : List LoadRow) → are_load_rows rows ≡ true → all_of row_from (row_items rows) ≡ Some rows
rows_again rows h = all_again row_data row_from is_load_row row_again rows (and_parts _ _ h).0

pub told_again : (f : Field) (key : List ℕ) (d : Data) → is_field f ≡ true → is_told (field_kind f) ≡ true → get key d ≡ field_data f → told_at (field_kind f) key d ≡ Ok f
unfolding names_at rows_at
told_again (field.Names names) key d fits told there = rw (texts_there key d names there, fits) refl
told_again (field.LoadRows rows) key d fits told there = rw (items_there key d rows there, rows_again rows fits, fits) refl
told_again (field.Table table) key d fits told there = absurd (false≢true told)
told_again (field.Name text) key d fits told there = form_again (field.Name text) key d fits refl there
told_again (field.Folder text) key d fits told there = form_again (field.Folder text) key d fits refl there
told_again (field.Extension text) key d fits told there = form_again (field.Extension text) key d fits refl there
told_again (field.Source text) key d fits told there = form_again (field.Source text) key d fits refl there
told_again (field.Display text) key d fits told there = form_again (field.Display text) key d fits refl there
told_again (field.Entity entity) key d fits told there = form_again (field.Entity entity) key d fits refl there
told_again (field.Object text) key d fits told there = form_again (field.Object text) key d fits refl there
told_again (field.OptionalMoment moment) key d fits told there = form_again (field.OptionalMoment moment) key d fits refl there
told_again (field.SetOp kind) key d fits told there = form_again (field.SetOp kind) key d fits refl there
told_again (field.InheritKind kind) key d fits told there = form_again (field.InheritKind kind) key d fits refl there
told_again (field.Scope s) key d fits told there = form_again (field.Scope s) key d fits refl there
told_again (field.Privilege p) key d fits told there = form_again (field.Privilege p) key d fits refl there
told_again (field.Owners owners) key d fits told there = form_again (field.Owners owners) key d fits refl there
told_again (field.Flag flag) key d fits told there = form_again (field.Flag flag) key d fits refl there
told_again (field.DefKind kind) key d fits told there = form_again (field.DefKind kind) key d fits refl there
told_again (field.Value v) key d fits told there = form_again (field.Value v) key d fits refl there
told_again (field.Number n least most) key d fits told there = form_again (field.Number n least most) key d fits refl there
