-- What is written for a reply is taken apart as that reply.
use Rattle.std.proofs.Common.{◌≡◌, ℕ, ◌≤◌, Bool, true, ◌&&◌, List, [], ◌∷◌, map, codes, Option, Some, None, refl, sym, ap, ◌∙◌, arith, lit≤, option_map, Result, Ok, Err, IfOk, ℤ, pos, negsuc}
use Rattle.std.specs.List.{list_all}
use Rattle.std.proofs.lemmas.Bool.{and_parts, lt-ltb, ltb-true}
use Rattle.std.proofs.lemmas.Option.{same_Some}
use Rattle.std.proofs.lemmas.Str.{is_utf8-from_IsUtf8}
use Rattle.serde_json.specs.Data.{Data, number, string, depth, items_depth}
use Rattle.serde_json.specs.Find.{as_i64, of_integer}
use Rattle.serde_json.specs.Read.{read}
use Rattle.serde_json.specs.View.{items_of}
use Rattle.serde_json.specs.Written.{compact_text}
use Rattle.reg_base.specs.declared.privilege.Privilege.{Privilege}
use Rattle.reg_ops.specs.Forms.{is_i64, is_moment, is_optional_moment}
use Rattle.reg_terms.specs.EntryWords.{word_of, kind_worded}
use Rattle.reg_terms.specs.declared.entry_kinds.EntryKind.{EntryKind}
use Rattle.reg_terms.specs.declared.entry_kinds.EntryKind.TheVariants as entry
use Rattle.reg_terms.specs.declared.kinds.AttrValue.{AttrValue}
use Rattle.reg_terms.specs.declared.kinds.AttrValue.TheVariants as value
use Rattle.reg_terms.specs.declared.admin_shown.ConsumerShown.{ConsumerShown}
use Rattle.reg_terms.specs.declared.admin_shown.GoneShown.{GoneShown}
use Rattle.reg_terms.specs.declared.admin_shown.JobShown.{JobShown}
use Rattle.reg_terms.specs.declared.admin_shown.RuleShown.{RuleShown}
use Rattle.reg_terms.specs.declared.kinds.SetOp.{SetOp}
use Rattle.reg_terms.specs.declared.kinds.SetOp.TheVariants.{Intersection, Complement, Union}
use Rattle.reg_terms.specs.declared.shown.AssignShown.{AssignShown}
use Rattle.reg_terms.specs.declared.shown.FactorsShown.{FactorsShown}
use Rattle.reg_terms.specs.declared.shown.GrantShown.{GrantShown}
use Rattle.reg_terms.specs.declared.shown.RowShown.{RowShown}
use Rattle.reg_terms.specs.declared.changes_shown.SpanShown.{SpanShown}
use Rattle.reg_terms.specs.declared.changes_shown.EntryShown.{EntryShown}
use Rattle.reg_terms.specs.declared.query.Answer.{Answer}
use Rattle.reg_terms.specs.declared.query.Answer.TheVariants as answer
use Rattle.reg_terms.specs.declared.refusal.Refusal.{Refusal}
use Rattle.reg_terms.specs.declared.refusal.Refusal.TheVariants as refusal
use Rattle.reg_terms.specs.declared.reply.Reply.{Reply}
use Rattle.reg_terms.specs.declared.reply.Reply.TheVariants as reply
use Rattle.reg_json.specs.Fields.{composite_kind}
use Rattle.reg_json.specs.Flat.{moment_data}
use Rattle.reg_json.specs.Refusals.{refusal_data, refused}
use Rattle.reg_json.specs.AdminReplies.{consumer_data, gone_data, job_data, rule_data}
use Rattle.reg_json.specs.Replies.{accepted_data, strings, row_data, row_items, kind_word, factors_data, grant_data, names_of, span_data, entry_data, value_data, assign_data, answer_data, reply_data, text}
use Rattle.reg_json.specs.Taking.{has, text_in, number_in, optional_number_in, items_in, all_of, row_from, kind_in, factors_from, factors_or_null, privilege_from, privilege_in, grant_from, span_from, entry_kind_in, entry_from, value_from, assign_from, consumer_from, gone_from, job_from, rule_from, consumers_in, gone_in, jobs_in, rules_in, group_from, listing_from, members_from, memberships_from, groups_from, grants_from, may_from, attributes_from, history_from, admin_from, log_from, list_from, answer_from, bare_refusal, http_refusal, field_refusal, object_refusal, denied_from, future_from, place_from, full_from, limit_from, named_from, with_object, with_field, with_nothing, failsafe_from, load_refusal, other_refusal, refusal_from, accepted_from, fault_from, reply_from, reply_of}
use Rattle.reg_json.specs.Told.{told_value, told_assign, told_answer, told}
use Rattle.reg_json.specs.Writable.{is_u32, is_u64, is_optional_u64, row_fits, span_fits, entry_fits, value_fits, assign_fits, consumer_fits, gone_fits, job_fits, rule_fits, answer_fits, refusal_fits, reply_fits, IsWritable}
use Rattle.reg_json.proofs.Plain.{is_plain, are_plain, plain_read, all_plain, all_flat}
use Rattle.reg_json.proofs.UnderKeys.{all_again, all_any, any, moment_there, name_there, optional_there, privilege_again, small_there, texts_there}
use Rattle.reg_json.proofs.AdminBack.{consumer_again, consumer_plain, gone_again, gone_plain, job_again, job_plain, rule_again, rule_plain, rule_flat, wide}
use Rattle.reg_json.proofs.LoadedBack.{loaded_again, loaded_flat, loaded_plain}

-- ---- what queries show

row_again : (row : RowShown) → row_fits row ≡ true → row_from (row_data row) ≡ Some row
unfolding row_from text_in
row_again row h =
    let both = and_parts (is_moment row.from) (is_optional_moment row.until) h in
    rw (moment_there (codes "from") (row_data row) row.from refl both.0, optional_there (codes "until") (row_data row) row.until refl both.1) refl

rows_again : (rows : List RowShown) → list_all row_fits rows ≡ true → all_of row_from (row_items rows) ≡ Some rows
rows_again rows h = all_again row_data row_from row_fits row_again rows h

word_again : (kind : SetOp) → composite_kind (kind_word kind) ≡ Some kind
word_again Intersection = refl
word_again Complement = refl
word_again Union = refl

factors_again : (factors : FactorsShown) → factors_from (factors_data (Some factors)) ≡ Some factors
unfolding factors_from kind_in text_in
factors_again factors = rw (word_again factors.kind) refl

composite_again : (composite : Option FactorsShown) → factors_or_null (factors_data composite) ≡ Some composite
unfolding factors_or_null
composite_again None = refl
composite_again (Some factors) = ap (option_map (λ f. Some f)) (factors_again factors)

grant_again : (grant : GrantShown) → grant_from (grant_data grant) ≡ Some grant
unfolding grant_from privilege_in text_in
grant_again grant = rw (privilege_again grant.privilege) refl

span_again : (span : SpanShown) → span_fits span ≡ true → span_from (span_data span) ≡ Some span
unfolding span_from text_in
span_again span h =
    let both = and_parts (is_moment span.from) (is_optional_moment span.to) h in
    rw (moment_there (codes "from") (span_data span) span.from refl both.0, optional_there (codes "to") (span_data span) span.to refl both.1) refl

worded_again : (k : EntryKind) → kind_worded (word_of k) ≡ Some k
unfolding kind_worded
worded_again entry.FolderAdd = refl
worded_again entry.FolderRename = refl
worded_again entry.FolderMove = refl
worded_again entry.FolderDelete = refl
worded_again entry.SubjectAdd = refl
worded_again entry.GroupAdd = refl
worded_again entry.GroupRename = refl
worded_again entry.GroupMove = refl
worded_again entry.GroupDelete = refl
worded_again entry.RowAdd = refl
worded_again entry.RowRemove = refl
worded_again entry.RowWindow = refl
worded_again entry.CompositeSet = refl
worded_again entry.CompositeClear = refl
worded_again entry.GrantAdd = refl
worded_again entry.GrantRemove = refl
worded_again entry.InheritAdd = refl
worded_again entry.InheritRemove = refl
worded_again entry.DefinitionAdd = refl
worded_again entry.DefinitionDelete = refl
worded_again entry.AttributeAdd = refl
worded_again entry.AttributeDelete = refl
worded_again entry.AssignAdd = refl
worded_again entry.AssignRemove = refl
worded_again entry.ValueAdd = refl
worded_again entry.ValueRemove = refl
worded_again entry.RuleAdd = refl
worded_again entry.RuleDelete = refl
worded_again entry.JobAdd = refl
worded_again entry.JobDelete = refl
worded_again entry.MemberBegin = refl
worded_again entry.MemberEnd = refl

entry_again : (e : EntryShown) → entry_fits e ≡ true → entry_from (entry_data e) ≡ Some e
unfolding entry_from entry_kind_in number_in text_in
entry_again e h = rw (moment_there (codes "at") (entry_data e) e.at refl (and_parts (is_moment e.at) (is_u64 e.number && is_u64 e.seq) h).0, worded_again e.kind) refl

-- ---- values of assignments

integer_again : (n : ℤ) → is_i64 n ≡ true → as_i64 (of_integer n) ≡ Some n
integer_again (pos n) h = rw h refl
integer_again (negsuc n) h = refl

value_again : (v : AttrValue) → value_fits v ≡ true → value_from (value_data v) ≡ Some (told_value v)
unfolding value_from
value_again (value.Int n) h = rw (integer_again n h) refl
value_again (value.Text words) h = refl
value_again (value.Moment moment) h = refl

-- items that are read as something is told of them
all_told : {A : Type 0} (write : A → Data) (take_one : Data → Option A) (fits : A → Bool) (tell : A → A) → ((x : A) → fits x ≡ true → take_one (write x) ≡ Some (tell x)) → (xs : List A) → list_all fits xs ≡ true → all_of take_one (items_of (map write xs)) ≡ Some (map tell xs)
all_told write take_one fits tell one [] h = refl
all_told write take_one fits tell one (x ∷ xs) h =
    let both = and_parts (fits x) (list_all fits xs) h in
    rw (one x both.0, all_told write take_one fits tell one xs both.1) refl

assign_again : (a : AssignShown) → assign_fits a ≡ true → assign_from (assign_data a) ≡ Some (told_assign a)
unfolding assign_from number_in text_in items_in
assign_again a h =
    let both = and_parts (is_u32 a.id) (list_all value_fits a.values) h in
    rw (small_there (codes "id") (assign_data a) a.id refl both.0, all_told value_data value_from value_fits told_value value_again a.values both.1) refl

-- ---- answers

names_again : (privileges : List Privilege) → all_of privilege_from (strings (names_of privileges)) ≡ Some privileges
names_again [] = refl
names_again (p ∷ ps) = rw (privilege_again p, names_again ps) refl

-- what root is told has its form, list by list
record ListsFit (consumers : List ConsumerShown) (gone : List GoneShown) (jobs : List JobShown) (rules : List RuleShown) : Type 0 where
  all_consumers : list_all consumer_fits consumers ≡ true
  all_gone : list_all gone_fits gone ≡ true
  all_jobs : list_all job_fits jobs ≡ true
  all_rules : list_all rule_fits rules ≡ true

lists_fit : (consumers : List ConsumerShown) (gone : List GoneShown) (jobs : List JobShown) (rules : List RuleShown) → answer_fits (answer.Admin consumers gone jobs rules) ≡ true → ListsFit consumers gone jobs rules
lists_fit consumers gone jobs rules h =
    let first = and_parts (list_all consumer_fits consumers) _ h in
    let second = and_parts (list_all gone_fits gone) _ first.1 in
    let third = and_parts (list_all job_fits jobs) _ second.1 in
    record { all_consumers = first.0; all_gone = second.0; all_jobs = third.0; all_rules = third.1 }

answer_again : (a : Answer) → answer_fits a ≡ true → answer_from (answer_data a) ≡ Some (told_answer a)
unfolding answer_from list_from has answer_data group_from listing_from members_from memberships_from groups_from grants_from may_from attributes_from history_from log_from admin_from consumers_in gone_in jobs_in rules_in items_in number_in text_in
answer_again (answer.GroupGet display name) h = rw (name_there (codes "name") (answer_data (answer.GroupGet display name)) name refl h) refl
answer_again (answer.FolderList attributes definitions folders groups) h =
    let d = answer_data (answer.FolderList attributes definitions folders groups) in
    rw (texts_there (codes "attributes") d attributes refl, texts_there (codes "definitions") d definitions refl, texts_there (codes "folders") d folders refl, texts_there (codes "groups") d groups refl) refl
answer_again (answer.Members texts) h = rw (texts_there (codes "members") (answer_data (answer.Members texts)) texts refl) refl
answer_again (answer.Rows composite rows) h = rw (composite_again composite, rows_again rows h) refl
answer_again (answer.Groups groups) h = rw (texts_there (codes "groups") (answer_data (answer.Groups groups)) groups refl) refl
answer_again (answer.Grants grants) h = rw (all_again grant_data grant_from any (λ g _. grant_again g) grants (all_any grants)) refl
answer_again (answer.May privileges) h = rw (names_again privileges) refl
answer_again (answer.Attributes assignments) h = rw (all_told assign_data assign_from assign_fits told_assign assign_again assignments h) refl
answer_again (answer.History history) h = rw (all_again span_data span_from span_fits span_again history h) refl
answer_again (answer.Log entries last place) h = rw (all_again entry_data entry_from entry_fits entry_again entries (and_parts (list_all entry_fits entries) (is_u64 last && is_u64 place) h).0) refl
answer_again (answer.Admin consumers gone jobs rules) h =
    let fit = lists_fit consumers gone jobs rules h in
    rw (all_again consumer_data consumer_from consumer_fits consumer_again consumers fit.all_consumers, all_again gone_data gone_from gone_fits gone_again gone fit.all_gone, all_again job_data job_from job_fits job_again jobs fit.all_jobs, all_again rule_data rule_from rule_fits rule_again rules fit.all_rules) refl

-- ---- refusals

refusal_again : (r : Refusal) → refusal_fits r ≡ true → refusal_from (refusal_data r) ≡ Some r
unfolding refusal_from refusal_data refused has number_in text_in with_field field_refusal with_object named_from object_refusal denied_from other_refusal limit_from full_from future_from place_from load_refusal failsafe_from with_nothing bare_refusal http_refusal
refusal_again (refusal.Future asked clock) h =
    let both = and_parts (is_moment asked) (is_moment clock) h in
    let d = refusal_data (refusal.Future asked clock) in
    rw (moment_there (codes "asked") d asked refl both.0, moment_there (codes "clock") d clock refl both.1) refl
refusal_again (refusal.TooLong limit) h = refl
refusal_again (refusal.BadRequest field) h = refl
refusal_again (refusal.BadName field) h = refl
refusal_again (refusal.BadMoment field) h = refl
refusal_again refusal.NoCaller h = refl
refusal_again (refusal.NotFound name) h = refl
refusal_again (refusal.Denied name privilege) h = refl
refusal_again refusal.BadWindow h = refl
refusal_again (refusal.WrongKind field) h = refl
refusal_again (refusal.Taken name) h = refl
refusal_again refusal.Already h = refl
refusal_again refusal.NoSuch h = refl
refusal_again (refusal.IsComposite name) h = refl
refusal_again refusal.HasMembers h = refl
refusal_again (refusal.Circular name) h = refl
refusal_again (refusal.InUse used) h = refl
refusal_again refusal.NotEmpty h = refl
refusal_again refusal.WrongOwner h = refl
refusal_again refusal.WrongValue h = refl
refusal_again refusal.Single h = refl
refusal_again (refusal.Place kept last) h = refl
refusal_again (refusal.Full kind limit) h = refl
refusal_again (refusal.Vetoed rule) h = refl
refusal_again (refusal.BadTable row) h = refl
refusal_again (refusal.Failsafe before removes) h = refl
refusal_again (refusal.OtherCommand n) h = refl
refusal_again refusal.NoRoute h = refl
refusal_again refusal.NoMethod h = refl
refusal_again refusal.NoLength h = refl
refusal_again refusal.Coding h = refl
refusal_again refusal.HeadTooLong h = refl
refusal_again refusal.NoCallerHeader h = refl
refusal_again refusal.BadHead h = refl

-- ---- replies

fault_again : (r : Refusal) → reply_from (refusal_data r) ≡ option_map (λ v. reply.Refused v) (refusal_from (refusal_data r))
unfolding reply_from has refusal_data refused
fault_again (refusal.Future asked clock) = refl
fault_again (refusal.TooLong limit) = refl
fault_again (refusal.BadRequest field) = refl
fault_again (refusal.BadName field) = refl
fault_again (refusal.BadMoment field) = refl
fault_again refusal.NoCaller = refl
fault_again (refusal.NotFound name) = refl
fault_again (refusal.Denied name privilege) = refl
fault_again refusal.BadWindow = refl
fault_again (refusal.WrongKind field) = refl
fault_again (refusal.Taken name) = refl
fault_again refusal.Already = refl
fault_again refusal.NoSuch = refl
fault_again (refusal.IsComposite name) = refl
fault_again refusal.HasMembers = refl
fault_again (refusal.Circular name) = refl
fault_again (refusal.InUse used) = refl
fault_again refusal.NotEmpty = refl
fault_again refusal.WrongOwner = refl
fault_again refusal.WrongValue = refl
fault_again refusal.Single = refl
fault_again (refusal.Place kept last) = refl
fault_again (refusal.Full kind limit) = refl
fault_again (refusal.Vetoed rule) = refl
fault_again (refusal.BadTable row) = refl
fault_again (refusal.Failsafe before removes) = refl
fault_again (refusal.OtherCommand n) = refl
fault_again refusal.NoRoute = refl
fault_again refusal.NoMethod = refl
fault_again refusal.NoLength = refl
fault_again refusal.Coding = refl
fault_again refusal.HeadTooLong = refl
fault_again refusal.NoCallerHeader = refl
fault_again refusal.BadHead = refl

answer_goes : (a : Answer) → reply_from (answer_data a) ≡ option_map (λ v. reply.Answer v) (answer_from (answer_data a))
unfolding reply_from has answer_data
answer_goes (answer.GroupGet display name) = refl
answer_goes (answer.FolderList attributes definitions folders groups) = refl
answer_goes (answer.Members members) = refl
answer_goes (answer.Rows composite rows) = refl
answer_goes (answer.Groups groups) = refl
answer_goes (answer.Grants grants) = refl
answer_goes (answer.May privileges) = refl
answer_goes (answer.Attributes assignments) = refl
answer_goes (answer.History history) = refl
answer_goes (answer.Log entries last place) = refl
answer_goes (answer.Admin consumers gone jobs rules) = refl

number_again : (n : ℕ) (id : Option ℕ) → reply_from (reply_data (reply.Number n id)) ≡ Some (reply.Number n id)
unfolding reply_from reply_data has accepted_from number_in optional_number_in
number_again n None = refl
number_again n (Some id) = refl

memory_again : reply_from (reply_data reply.NoMemory) ≡ Some reply.NoMemory
unfolding reply_from reply_data has fault_from text_in
memory_again = refl

disk_again : reply_from (reply_data reply.KeepFault) ≡ Some reply.KeepFault
unfolding reply_from reply_data has fault_from text_in
disk_again = refl

reply_again : (r : Reply) → reply_fits r ≡ true → reply_from (reply_data r) ≡ Some (told r)
unfolding reply_data
reply_again (reply.Number n id) h = number_again n id
reply_again (reply.Loaded n counts) h = loaded_again n counts
reply_again (reply.Answer a) h = answer_goes a ∙ ap (option_map (λ v. reply.Answer v)) (answer_again a h)
reply_again (reply.Refused r) h = fault_again r ∙ ap (option_map (λ v. reply.Refused v)) (refusal_again r h)
reply_again reply.NoMemory h = memory_again
reply_again reply.KeepFault h = disk_again

-- ---- what is written is plain

moment_plain : (moment : Option ℕ) → is_plain (moment_data moment) ≡ true
moment_plain None = refl
moment_plain (Some moment) = refl

moment_flat : (moment : Option ℕ) → depth (moment_data moment) ≤ 0
moment_flat None = lit≤ tt
moment_flat (Some moment) = lit≤ tt

factors_plain : (factors : Option FactorsShown) → is_plain (factors_data factors) ≡ true
factors_plain None = refl
factors_plain (Some factors) = refl

factors_flat : (factors : Option FactorsShown) → depth (factors_data factors) ≤ 1
factors_flat None = lit≤ tt
factors_flat (Some factors) = lit≤ tt

row_plain : (row : RowShown) → is_plain (row_data row) ≡ true
row_plain row = rw (moment_plain row.until) refl

row_flat : (row : RowShown) → depth (row_data row) ≤ 1
row_flat row = omega (arith, moment_flat row.until)

span_plain : (span : SpanShown) → is_plain (span_data span) ≡ true
span_plain span = rw (moment_plain span.to) refl

span_flat : (span : SpanShown) → depth (span_data span) ≤ 1
span_flat span = omega (arith, moment_flat span.to)

entry_plain : (e : EntryShown) → entry_fits e ≡ true → is_plain (entry_data e) ≡ true
entry_plain e h =
    let numbers = and_parts (is_u64 e.number) (is_u64 e.seq) (and_parts (is_moment e.at) (is_u64 e.number && is_u64 e.seq) h).1 in
    rw (numbers.0, numbers.1) refl

strings_plain : (texts : List (List ℕ)) → are_plain (strings texts) ≡ true
strings_plain texts = all_plain string any (λ x h. refl) texts (all_any texts)

strings_flat : (texts : List (List ℕ)) → items_depth (strings texts) ≤ 1
strings_flat texts = all_flat 1 string (λ x. lit≤ tt) texts

integer_plain : (n : ℤ) → is_i64 n ≡ true → is_plain (number (of_integer n)) ≡ true
integer_plain (pos n) h =
    let below = ltb-true n 9223372036854775808 h in
    lt-ltb n 18446744073709551616 (omega arith)
integer_plain (negsuc n) h = h

value_plain : (v : AttrValue) → value_fits v ≡ true → is_plain (value_data v) ≡ true
value_plain (value.Int n) h = integer_plain n h
value_plain (value.Text words) h = refl
value_plain (value.Moment moment) h = refl

assign_plain : (a : AssignShown) → assign_fits a ≡ true → is_plain (assign_data a) ≡ true
assign_plain a h =
    let both = and_parts (is_u32 a.id) (list_all value_fits a.values) h in
    rw (wide a.id both.0, all_plain value_data value_fits value_plain a.values both.1) refl

value_flat : (v : AttrValue) → depth (value_data v) ≤ 0
value_flat (value.Int n) = lit≤ tt
value_flat (value.Text words) = lit≤ tt
value_flat (value.Moment moment) = lit≤ tt

assign_flat : (a : AssignShown) → depth (assign_data a) ≤ 2
assign_flat a = omega (arith, all_flat 0 value_data value_flat a.values)

answer_plain : (a : Answer) → answer_fits a ≡ true → is_plain (answer_data a) ≡ true
unfolding answer_data
answer_plain (answer.GroupGet display name) h = refl
answer_plain (answer.FolderList attributes definitions folders groups) h = rw (strings_plain attributes, strings_plain definitions, strings_plain folders, strings_plain groups) refl
answer_plain (answer.Members texts) h = rw (strings_plain texts) refl
answer_plain (answer.Rows composite rows) h = rw (factors_plain composite, all_plain row_data row_fits (λ row _. row_plain row) rows h) refl
answer_plain (answer.Groups groups) h = rw (strings_plain groups) refl
answer_plain (answer.Grants grants) h = rw (all_plain grant_data any (λ g _. refl) grants (all_any grants)) refl
answer_plain (answer.May privileges) h = rw (strings_plain (names_of privileges)) refl
answer_plain (answer.Attributes assignments) h = rw (all_plain assign_data assign_fits assign_plain assignments h) refl
answer_plain (answer.History history) h = rw (all_plain span_data span_fits (λ span _. span_plain span) history h) refl
answer_plain (answer.Log entries last place) h =
    let both = and_parts (list_all entry_fits entries) (is_u64 last && is_u64 place) h in
    let numbers = and_parts (is_u64 last) (is_u64 place) both.1 in
    rw (all_plain entry_data entry_fits entry_plain entries both.0, numbers.0, numbers.1) refl
answer_plain (answer.Admin consumers gone jobs rules) h =
    let fit = lists_fit consumers gone jobs rules h in
    rw (all_plain consumer_data consumer_fits consumer_plain consumers fit.all_consumers, all_plain gone_data gone_fits (λ g _. gone_plain g) gone fit.all_gone, all_plain job_data job_fits job_plain jobs fit.all_jobs, all_plain rule_data rule_fits rule_plain rules fit.all_rules) refl

answer_flat : (a : Answer) → depth (answer_data a) ≤ 127
unfolding answer_data
answer_flat (answer.GroupGet display name) = lit≤ tt
answer_flat (answer.FolderList attributes definitions folders groups) = omega (arith, strings_flat attributes, strings_flat definitions, strings_flat folders, strings_flat groups)
answer_flat (answer.Members texts) = omega (arith, strings_flat texts)
answer_flat (answer.Rows composite rows) = omega (arith, factors_flat composite, all_flat 1 row_data row_flat rows)
answer_flat (answer.Groups groups) = omega (arith, strings_flat groups)
answer_flat (answer.Grants grants) = omega (arith, all_flat 1 grant_data (λ g. lit≤ tt) grants)
answer_flat (answer.May privileges) = omega (arith, strings_flat (names_of privileges))
answer_flat (answer.Attributes assignments) = omega (arith, all_flat 2 assign_data assign_flat assignments)
answer_flat (answer.History history) = omega (arith, all_flat 1 span_data span_flat history)
answer_flat (answer.Log entries last place) = omega (arith, all_flat 1 entry_data (λ e. lit≤ tt) entries)
answer_flat (answer.Admin consumers gone jobs rules) = omega (arith, all_flat 1 consumer_data (λ c. lit≤ tt) consumers, all_flat 1 gone_data (λ g. lit≤ tt) gone, all_flat 1 job_data (λ j. lit≤ tt) jobs, all_flat 1 rule_data rule_flat rules)

refusal_plain : (r : Refusal) → refusal_fits r ≡ true → is_plain (refusal_data r) ≡ true
unfolding refusal_data refused
refusal_plain (refusal.TooLong limit) h = rw h refl
refusal_plain (refusal.Place kept last) h =
    let both = and_parts (is_u64 kept) (is_u64 last) h in
    rw (both.0, both.1) refl
refusal_plain (refusal.Full kind limit) h = rw h refl
refusal_plain (refusal.Vetoed rule) h = rw h refl
refusal_plain (refusal.BadTable row) h = rw h refl
refusal_plain (refusal.OtherCommand n) h = rw h refl
refusal_plain (refusal.Failsafe before removes) h =
    let both = and_parts (is_u64 before) (is_u64 removes) h in
    rw (both.0, both.1) refl
refusal_plain (refusal.Future asked clock) h = refl
refusal_plain (refusal.BadRequest field) h = refl
refusal_plain (refusal.BadName field) h = refl
refusal_plain (refusal.BadMoment field) h = refl
refusal_plain refusal.NoCaller h = refl
refusal_plain (refusal.NotFound name) h = refl
refusal_plain (refusal.Denied name privilege) h = refl
refusal_plain refusal.BadWindow h = refl
refusal_plain (refusal.WrongKind field) h = refl
refusal_plain (refusal.Taken name) h = refl
refusal_plain refusal.Already h = refl
refusal_plain refusal.NoSuch h = refl
refusal_plain (refusal.IsComposite name) h = refl
refusal_plain refusal.HasMembers h = refl
refusal_plain (refusal.Circular name) h = refl
refusal_plain (refusal.InUse used) h = refl
refusal_plain refusal.NotEmpty h = refl
refusal_plain refusal.WrongOwner h = refl
refusal_plain refusal.WrongValue h = refl
refusal_plain refusal.Single h = refl
refusal_plain refusal.NoRoute h = refl
refusal_plain refusal.NoMethod h = refl
refusal_plain refusal.NoLength h = refl
refusal_plain refusal.Coding h = refl
refusal_plain refusal.HeadTooLong h = refl
refusal_plain refusal.NoCallerHeader h = refl
refusal_plain refusal.BadHead h = refl

refusal_flat : (r : Refusal) → depth (refusal_data r) ≤ 127
unfolding refusal_data refused
refusal_flat (refusal.Future asked clock) = lit≤ tt
refusal_flat (refusal.TooLong limit) = lit≤ tt
refusal_flat (refusal.BadRequest field) = lit≤ tt
refusal_flat (refusal.BadName field) = lit≤ tt
refusal_flat (refusal.BadMoment field) = lit≤ tt
refusal_flat refusal.NoCaller = lit≤ tt
refusal_flat (refusal.NotFound name) = lit≤ tt
refusal_flat (refusal.Denied name privilege) = lit≤ tt
refusal_flat refusal.BadWindow = lit≤ tt
refusal_flat (refusal.WrongKind field) = lit≤ tt
refusal_flat (refusal.Taken name) = lit≤ tt
refusal_flat refusal.Already = lit≤ tt
refusal_flat refusal.NoSuch = lit≤ tt
refusal_flat (refusal.IsComposite name) = lit≤ tt
refusal_flat refusal.HasMembers = lit≤ tt
refusal_flat (refusal.Circular name) = lit≤ tt
refusal_flat (refusal.InUse used) = lit≤ tt
refusal_flat refusal.NotEmpty = lit≤ tt
refusal_flat refusal.WrongOwner = lit≤ tt
refusal_flat refusal.WrongValue = lit≤ tt
refusal_flat refusal.Single = lit≤ tt
refusal_flat (refusal.Place kept last) = lit≤ tt
refusal_flat (refusal.Full kind limit) = lit≤ tt
refusal_flat (refusal.Vetoed rule) = lit≤ tt
refusal_flat (refusal.BadTable row) = lit≤ tt
refusal_flat (refusal.Failsafe before removes) = lit≤ tt
refusal_flat (refusal.OtherCommand n) = lit≤ tt
refusal_flat refusal.NoRoute = lit≤ tt
refusal_flat refusal.NoMethod = lit≤ tt
refusal_flat refusal.NoLength = lit≤ tt
refusal_flat refusal.Coding = lit≤ tt
refusal_flat refusal.HeadTooLong = lit≤ tt
refusal_flat refusal.NoCallerHeader = lit≤ tt
refusal_flat refusal.BadHead = lit≤ tt

accepted_plain : (n : ℕ) (id : Option ℕ) → (is_u64 n && is_optional_u64 id) ≡ true → is_plain (accepted_data n id) ≡ true
accepted_plain n None h = rw (and_parts (is_u64 n) true h).0 refl
accepted_plain n (Some id) h =
    let both = and_parts (is_u64 n) (is_u64 id) h in
    rw (both.0, both.1) refl

accepted_flat : (n : ℕ) (id : Option ℕ) → depth (accepted_data n id) ≤ 127
accepted_flat n None = lit≤ tt
accepted_flat n (Some id) = lit≤ tt

reply_plain : (r : Reply) → reply_fits r ≡ true → is_plain (reply_data r) ≡ true
unfolding reply_data
reply_plain (reply.Number n id) h = accepted_plain n id h
reply_plain (reply.Loaded n counts) h = loaded_plain n counts h
reply_plain (reply.Answer a) h = answer_plain a h
reply_plain (reply.Refused r) h = refusal_plain r h
reply_plain reply.NoMemory h = refl
reply_plain reply.KeepFault h = refl

reply_flat : (r : Reply) → depth (reply_data r) ≤ 127
unfolding reply_data
reply_flat (reply.Number n id) = accepted_flat n id
reply_flat (reply.Loaded n counts) = loaded_flat n counts
reply_flat (reply.Answer a) = answer_flat a
reply_flat (reply.Refused r) = refusal_flat r
reply_flat reply.NoMemory = lit≤ tt
reply_flat reply.KeepFault = lit≤ tt

-- ---- what is told has the same text

same_items : {A : Type 0} (write : A → Data) (tell : A → A) → ((x : A) → write (tell x) ≡ write x) → (xs : List A) → items_of (map write (map tell xs)) ≡ items_of (map write xs)
same_items write tell one [] = refl
same_items write tell one (x ∷ xs) = rw (one x, same_items write tell one xs) refl

same_value : (v : AttrValue) → value_data (told_value v) ≡ value_data v
same_value (value.Int n) = refl
same_value (value.Text words) = refl
same_value (value.Moment moment) = refl

same_assign : (a : AssignShown) → assign_data (told_assign a) ≡ assign_data a
same_assign a = rw (same_items value_data told_value same_value a.values) refl

same_answer : (a : Answer) → answer_data (told_answer a) ≡ answer_data a
unfolding answer_data
same_answer (answer.Attributes assignments) = rw (same_items assign_data told_assign same_assign assignments) refl
same_answer _ = refl

same_text : (r : Reply) → text (told r) ≡ text r
unfolding text reply_data
same_text (reply.Answer a) = ap compact_text (same_answer a)
same_text _ = refl

-- ---- the text of a reply is read as what it tells

pub reads_back : (r : Reply) → IsWritable r → reply_of (text r) ≡ Some (told r)
unfolding text reply_of
reads_back r w = rw (is_utf8-from_IsUtf8 (text r) w.utf8, plain_read (reply_data r) (reply_plain r w.fits) (reply_flat r)) (reply_again r w.fits)

-- so what was found whose text this is, is what each reply tells that has it
pub exact_found : {E : Type 0} (bytes : List ℕ) (r : Reply) (result : Result (Option Reply) E) → reply_of bytes ≡ Some r → IfOk result (λ found. text r ≡ bytes → found ≡ Some r) → IfOk result (λ found. (s : Reply) → IsWritable s → text s ≡ bytes → found ≡ Some (told s))
exact_found bytes r (Err e) read h = tt
exact_found bytes r (Ok found) read h = λ s w e.
    let same : r ≡ told s = same_Some r (told s) (sym read ∙ ap reply_of (sym e) ∙ reads_back s w) in
    h (ap text same ∙ same_text s ∙ e) ∙ ap (λ (t : Reply). Some t) same

-- and where nothing was found no reply has that text
pub exact_none : (bytes : List ℕ) → reply_of bytes ≡ None → (s : Reply) → IsWritable s → text s ≡ bytes → None ≡ Some (told s)
exact_none bytes read s w e = sym read ∙ ap reply_of (sym e) ∙ reads_back s w
