-- What JSON data say, taken apart by their keys: the opposite of how a reply is written.
use Rattle.std.specs.Prelude.{ℕ, ◌^◌, List, [], ◌∷◌, Bool, ◌==◌, nat_lt, Option, Some, None, codes}
use Rattle.std.specs.Prelude.{is_some, option_and_then, option_map, if◌then◌else◌}
use Rattle.std.specs.Str.{bytes_eq, is_utf8}
use Rattle.serde_json.specs.Data.{Data, Items, no_items, item}
use Rattle.serde_json.specs.Find.{get, as_str, as_null, as_array, as_i64, as_number}
use Rattle.serde_json.specs.Read.{read}
use Rattle.reg_base.specs.Names.{name_of}
use Rattle.reg_base.specs.MomentText.{moment_of}
use Rattle.reg_base.specs.declared.privilege.Privilege.{Privilege}
use Rattle.reg_ops.specs.Parts.{◌>>=◌}
use Rattle.reg_terms.specs.Privileges.{privilege_named}
use Rattle.reg_terms.specs.EntryWords.{kind_worded}
use Rattle.reg_terms.specs.declared.entry_kinds.EntryKind.{EntryKind}
use Rattle.reg_terms.specs.declared.kinds.AttrValue.{AttrValue}
use Rattle.reg_terms.specs.declared.kinds.AttrValue.TheVariants as value
use Rattle.reg_terms.specs.declared.admin_shown.ConsumerShown.{ConsumerShown}
use Rattle.reg_terms.specs.declared.admin_shown.FormShown.{FormShown}
use Rattle.reg_terms.specs.declared.admin_shown.FormShown.TheVariants as form
use Rattle.reg_terms.specs.declared.admin_shown.GoneShown.{GoneShown}
use Rattle.reg_terms.specs.declared.admin_shown.JobShown.{JobShown}
use Rattle.reg_terms.specs.declared.admin_shown.RuleShown.{RuleShown}
use Rattle.reg_terms.specs.declared.kinds.Scope.{Scope}
use Rattle.reg_terms.specs.declared.kinds.SetOp.{SetOp}
use Rattle.reg_terms.specs.declared.shown.AssignShown.{AssignShown}
use Rattle.reg_terms.specs.declared.shown.FactorsShown.{FactorsShown}
use Rattle.reg_terms.specs.declared.shown.GrantShown.{GrantShown}
use Rattle.reg_terms.specs.declared.shown.RowShown.{RowShown}
use Rattle.reg_terms.specs.declared.changes_shown.SpanShown.{SpanShown}
use Rattle.reg_terms.specs.declared.changes_shown.EntryShown.{EntryShown}
use Rattle.reg_terms.specs.declared.query.Answer.{Answer}
use Rattle.reg_terms.specs.declared.query.Answer.TheVariants as answer
use Rattle.reg_terms.specs.declared.refusal.Refusal.{Refusal}
use Rattle.reg_terms.specs.declared.refusal.Refusal.TheVariants as refusal
use Rattle.reg_terms.specs.declared.reply.LoadCounts.{LoadCounts}
use Rattle.reg_terms.specs.declared.reply.Reply.{Reply}
use Rattle.reg_terms.specs.declared.reply.Reply.TheVariants as reply
use Rattle.reg_json.specs.Fields.{whole_number, composite_kind, scope}

-- ---- what stands under a key

-- something does
unfoldable pub has : List ℕ → Data → Bool
has key d = is_some (get key d)

-- a text
unfoldable pub text_in : List ℕ → Data → Option (List ℕ)
text_in key d = option_and_then as_str (get key d)

-- the name of an object
unfoldable pub name_in : List ℕ → Data → Option (List ℕ)
name_in key d = do
  text ← text_in key d
  name_of text

-- a whole number of 64 bits
unfoldable pub number_in : List ℕ → Data → Option ℕ
number_in key d = option_and_then whole_number (get key d)

-- one of 32 bits
unfoldable pub small_number_in : List ℕ → Data → Option ℕ
small_number_in key d = do
  number ← number_in key d
  if nat_lt number (2 ^ 32) then Some number else None

-- and one of 64 bits that may be left out
unfoldable pub optional_number_in : List ℕ → Data → Option (Option ℕ)
optional_number_in key d =
    if has key d then option_map (λ n. Some n) (number_in key d) else Some None

-- a moment, by its text
unfoldable pub moment_in : List ℕ → Data → Option ℕ
moment_in key d = do
  text ← text_in key d
  moment_of text

-- the moment whose text data are
abbrev pub moment_from : Data → Option ℕ
moment_from d = option_and_then moment_of (as_str d)

-- a moment by its text, or null for none
unfoldable pub moment_or_null : Data → Option (Option ℕ)
moment_or_null d =
    if is_some (as_null d) then Some None else option_map (λ m. Some m) (moment_from d)

unfoldable pub optional_moment_in : List ℕ → Data → Option (Option ℕ)
optional_moment_in key d = do
  found ← get key d
  moment_or_null found

-- the items of an array
unfoldable pub items_in : List ℕ → Data → Option Items
items_in key d = option_and_then as_array (get key d)

-- each item as `read` reads it
abbrev pub all_of : {A : Type 0} → (Data → Option A) → Items → Option (List A)
all_of read no_items = Some []
all_of read (item d ds) = do
  first ← read d
  others ← all_of read ds
  Some (first ∷ others)

-- an array of texts
unfoldable pub texts_in : List ℕ → Data → Option (List (List ℕ))
texts_in key d = do
  items ← items_in key d
  all_of as_str items

-- ---- what queries show

-- an immediate membership
unfoldable pub row_from : Data → Option RowShown
row_from d = do
  from ← moment_in (codes "from") d
  until ← optional_moment_in (codes "until") d
  member ← text_in (codes "member") d
  Some (record { from = from; member = member; until = until })

-- the kind of a composite
unfoldable pub kind_in : List ℕ → Data → Option SetOp
kind_in key d = do
  word ← text_in key d
  composite_kind word

-- the factors of a composite
unfoldable pub factors_from : Data → Option FactorsShown
factors_from d = do
  kind ← kind_in (codes "kind") d
  left ← text_in (codes "left") d
  right ← text_in (codes "right") d
  Some (record { kind = kind; left = left; right = right })

-- the factors of a composite, or null for none
unfoldable pub factors_or_null : Data → Option (Option FactorsShown)
factors_or_null d =
    if is_some (as_null d) then Some None else option_map (λ f. Some f) (factors_from d)

-- a privilege, by its name
unfoldable pub privilege_from : Data → Option Privilege
privilege_from d = do
  word ← as_str d
  privilege_named word

-- the privilege under a key
unfoldable pub privilege_in : List ℕ → Data → Option Privilege
privilege_in key d = do
  found ← get key d
  privilege_from found

-- a grant
unfoldable pub grant_from : Data → Option GrantShown
grant_from d = do
  privilege ← privilege_in (codes "privilege") d
  holder ← text_in (codes "holder") d
  Some (record { holder = holder; privilege = privilege })

-- a time in which a person was a member
unfoldable pub span_from : Data → Option SpanShown
span_from d = do
  from ← moment_in (codes "from") d
  to ← optional_moment_in (codes "to") d
  subject ← text_in (codes "subject") d
  Some (record { from = from; subject = subject; to = to })

-- the kind of an entry, by its word
unfoldable pub entry_kind_in : List ℕ → Data → Option EntryKind
entry_kind_in key d = do
  word ← text_in key d
  kind_worded word

-- an entry of the change log
unfoldable pub entry_from : Data → Option EntryShown
entry_from d = do
  at ← moment_in (codes "at") d
  kind ← entry_kind_in (codes "kind") d
  number ← number_in (codes "number") d
  seq ← number_in (codes "seq") d
  entity ← text_in (codes "entity") d
  object ← text_in (codes "object") d
  Some (record {
    at = at;
    entity = entity;
    kind = kind;
    number = number;
    object = object;
    seq = seq;
  })

-- a value of an assignment: a text, or a whole number of 64 bits
unfoldable pub value_from : Data → Option AttrValue
value_from d =
    if is_some (as_str d) then option_map (λ words. value.Text words) (as_str d)
    else option_map (λ n. value.Int n) (option_and_then as_i64 (as_number d))

-- an assignment
unfoldable pub assign_from : Data → Option AssignShown
assign_from d = do
  id ← small_number_in (codes "id") d
  attribute ← text_in (codes "attribute") d
  items ← items_in (codes "values") d
  values ← all_of value_from items
  Some (record { attribute = attribute; id = id; values = values })

-- ---- what root is told

-- a consumer of the change log
unfoldable pub consumer_from : Data → Option ConsumerShown
consumer_from d = do
  place ← number_in (codes "place") d
  consumer ← text_in (codes "consumer") d
  Some (record { consumer = consumer; place = place })

-- a group that is gone
unfoldable pub gone_from : Data → Option GoneShown
gone_from d = do
  ended ← moment_in (codes "ended") d
  group ← text_in (codes "group") d
  Some (record { ended = ended; group = group })

-- a loader job
unfoldable pub job_from : Data → Option JobShown
job_from d = do
  max_percent ← number_in (codes "max_percent") d
  min_size ← number_in (codes "min_size") d
  job ← text_in (codes "job") d
  source ← text_in (codes "source") d
  target ← text_in (codes "target") d
  Some (record {
    job = job;
    max_percent = max_percent;
    min_size = min_size;
    source = source;
    target = target;
  })

-- the scope under a key, by its word
unfoldable pub scope_in : List ℕ → Data → Option Scope
scope_in key d = do
  word ← text_in key d
  scope word

-- what a rule does, form by form
unfoldable pub remove_lost_from : Data → Option FormShown
remove_lost_from d = do
  check ← text_in (codes "check") d
  owner ← text_in (codes "owner") d
  Some (form.RemoveLost check owner)

unfoldable pub end_lost_from : Data → Option FormShown
end_lost_from d = do
  days ← small_number_in (codes "days") d
  check ← text_in (codes "check") d
  owner ← text_in (codes "owner") d
  Some (form.EndLost check owner days)

unfoldable pub veto_from : Data → Option FormShown
veto_from d = do
  owner ← text_in (codes "owner") d
  condition ← text_in (codes "condition") d
  Some (form.Veto owner condition)

unfoldable pub on_create_from : Data → Option FormShown
on_create_from d = do
  scope ← scope_in (codes "scope") d
  privilege ← privilege_in (codes "privilege") d
  folder ← text_in (codes "folder") d
  holder ← text_in (codes "holder") d
  Some (form.OnCreate folder scope privilege holder)

-- what a rule does, by the word of its form
unfoldable pub form_from : List ℕ → Data → Option FormShown
form_from word d =
    if bytes_eq word (codes "remove_lost") then remove_lost_from d else
    (if bytes_eq word (codes "end_lost") then end_lost_from d else
    (if bytes_eq word (codes "veto") then veto_from d else
    (if bytes_eq word (codes "on_create") then on_create_from d else None)))

-- a rule
unfoldable pub rule_from : Data → Option RuleShown
rule_from d = do
  id ← small_number_in (codes "id") d
  word ← text_in (codes "form") d
  form ← form_from word d
  Some (record { id = id; form = form })

-- the consumers, the groups that are gone, the loader jobs and the rules
unfoldable pub consumers_in : Data → Option (List ConsumerShown)
consumers_in d = do
  items ← items_in (codes "consumers") d
  all_of consumer_from items

unfoldable pub gone_in : Data → Option (List GoneShown)
gone_in d = do
  items ← items_in (codes "gone") d
  all_of gone_from items

unfoldable pub jobs_in : Data → Option (List JobShown)
jobs_in d = do
  items ← items_in (codes "jobs") d
  all_of job_from items

unfoldable pub rules_in : Data → Option (List RuleShown)
rules_in d = do
  items ← items_in (codes "rules") d
  all_of rule_from items

-- ---- answers

-- a group by its name
unfoldable pub group_from : Data → Option Answer
group_from d = do
  display ← text_in (codes "display") d
  name ← name_in (codes "name") d
  Some (answer.GroupGet display name)

-- what stands in a folder
unfoldable pub listing_from : Data → Option Answer
listing_from d = do
  attributes ← texts_in (codes "attributes") d
  definitions ← texts_in (codes "definitions") d
  folders ← texts_in (codes "folders") d
  groups ← texts_in (codes "groups") d
  Some (answer.FolderList attributes definitions folders groups)

-- the members of a group
unfoldable pub members_from : Data → Option Answer
members_from d = option_map (λ v. answer.Members v) (texts_in (codes "members") d)

-- the factors and immediate memberships of a group
unfoldable pub memberships_from : Data → Option Answer
memberships_from d = do
  found ← get (codes "composite") d
  composite ← factors_or_null found
  items ← items_in (codes "rows") d
  rows ← all_of row_from items
  Some (answer.Rows composite rows)

-- the groups of a person
unfoldable pub groups_from : Data → Option Answer
groups_from d = option_map (λ v. answer.Groups v) (texts_in (codes "groups") d)

-- the grants on an object
unfoldable pub grants_from : Data → Option Answer
grants_from d = do
  items ← items_in (codes "grants") d
  option_map (λ v. answer.Grants v) (all_of grant_from items)

-- the privileges that an entity has
unfoldable pub may_from : Data → Option Answer
may_from d = do
  items ← items_in (codes "privileges") d
  option_map (λ v. answer.May v) (all_of privilege_from items)

-- the attributes that are assigned to an object
unfoldable pub attributes_from : Data → Option Answer
attributes_from d = do
  items ← items_in (codes "assignments") d
  option_map (λ v. answer.Attributes v) (all_of assign_from items)

-- who was a member of a group, and when
unfoldable pub history_from : Data → Option Answer
history_from d = do
  items ← items_in (codes "history") d
  option_map (λ v. answer.History v) (all_of span_from items)

-- entries of the change log
unfoldable pub log_from : Data → Option Answer
log_from d = do
  last ← number_in (codes "last") d
  place ← number_in (codes "place") d
  items ← items_in (codes "entries") d
  entries ← all_of entry_from items
  Some (answer.Log entries last place)

-- what root is told
unfoldable pub admin_from : Data → Option Answer
admin_from d = do
  consumers ← consumers_in d
  gone ← gone_in d
  jobs ← jobs_in d
  rules ← rules_in d
  Some (answer.Admin consumers gone jobs rules)

-- an answer that lists what was asked of, by a key that no other has
unfoldable pub list_from : Data → Option Answer
list_from d =
    if has (codes "grants") d then grants_from d else
    (if has (codes "privileges") d then may_from d else
    (if has (codes "assignments") d then attributes_from d else
    (if has (codes "history") d then history_from d else
    (if has (codes "consumers") d then admin_from d else log_from d))))

-- an answer, by a key that none of those behind it has
unfoldable pub answer_from : Data → Option Answer
answer_from d =
    if has (codes "display") d then group_from d else
    (if has (codes "attributes") d then listing_from d else
    (if has (codes "members") d then members_from d else
    (if has (codes "composite") d then memberships_from d else
    (if has (codes "groups") d then groups_from d else list_from d))))

-- ---- refusals

-- of the registry, that carry nothing
unfoldable pub bare_refusal : ℕ → Option Refusal
bare_refusal code =
    if code == 5 then Some refusal.NoCaller else
    (if code == 9 then Some refusal.BadWindow else
    (if code == 12 then Some refusal.Already else
    (if code == 13 then Some refusal.NoSuch else
    (if code == 15 then Some refusal.HasMembers else
    (if code == 18 then Some refusal.NotEmpty else
    (if code == 19 then Some refusal.WrongOwner else
    (if code == 20 then Some refusal.WrongValue else
    (if code == 21 then Some refusal.Single else None))))))))

-- of HTTP
unfoldable pub http_refusal : ℕ → Option Refusal
http_refusal code =
    if code == 30 then Some refusal.NoRoute else
    (if code == 31 then Some refusal.NoMethod else
    (if code == 32 then Some refusal.NoLength else
    (if code == 33 then Some refusal.Coding else
    (if code == 34 then Some refusal.HeadTooLong else
    (if code == 35 then Some refusal.NoCallerHeader else
    (if code == 36 then Some refusal.BadHead else None))))))

-- that carry a field
unfoldable pub field_refusal : ℕ → List ℕ → Option Refusal
field_refusal code field =
    if code == 2 then Some (refusal.BadRequest field) else
    (if code == 3 then Some (refusal.BadName field) else
    (if code == 4 then Some (refusal.BadMoment field) else
    (if code == 10 then Some (refusal.WrongKind field) else None)))

-- that carry an object
unfoldable pub object_refusal : ℕ → List ℕ → Option Refusal
object_refusal code object =
    if code == 6 then Some (refusal.NotFound object) else
    (if code == 11 then Some (refusal.Taken object) else
    (if code == 14 then Some (refusal.IsComposite object) else
    (if code == 16 then Some (refusal.Circular object) else None)))

-- the privilege of an object that is wanting
unfoldable pub denied_from : Data → Option Refusal
denied_from d = do
  object ← text_in (codes "object") d
  privilege ← text_in (codes "privilege") d
  Some (refusal.Denied object privilege)

-- a moment after the clock's
unfoldable pub future_from : Data → Option Refusal
future_from d = do
  asked ← moment_in (codes "asked") d
  clock ← moment_in (codes "clock") d
  Some (refusal.Future asked clock)

-- a number that a consumer can't have read
unfoldable pub place_from : Data → Option Refusal
place_from d = do
  kept ← number_in (codes "kept") d
  last ← number_in (codes "last") d
  Some (refusal.Place kept last)

-- a limit that a count would pass
unfoldable pub full_from : Data → Option Refusal
full_from d = do
  kind ← text_in (codes "kind") d
  limit ← number_in (codes "limit") d
  Some (refusal.Full kind limit)

-- a limit of a length, or one that a count would pass
unfoldable pub limit_from : Data → Option Refusal
limit_from d =
    if has (codes "kind") d then full_from d
    else option_map (λ v. refusal.TooLong v) (number_in (codes "limit") d)

-- a refusal with an object alone
unfoldable pub named_from : ℕ → Data → Option Refusal
named_from code d = do
  object ← text_in (codes "object") d
  object_refusal code object

-- a refusal with an object
unfoldable pub with_object : ℕ → Data → Option Refusal
with_object code d = if has (codes "privilege") d then denied_from d else named_from code d

-- a refusal with a field
unfoldable pub with_field : ℕ → Data → Option Refusal
with_field code d = do
  field ← text_in (codes "field") d
  field_refusal code field

-- a refusal that carries nothing
unfoldable pub with_nothing : ℕ → Option Refusal
with_nothing code = if nat_lt code 30 then bare_refusal code else http_refusal code

-- too large a removal
unfoldable pub failsafe_from : Data → Option Refusal
failsafe_from d = do
  before ← number_in (codes "before") d
  removes ← number_in (codes "removes") d
  Some (refusal.Failsafe before removes)

-- a refusal of a load, or one that carries nothing
unfoldable pub load_refusal : ℕ → Data → Option Refusal
load_refusal code d =
    if has (codes "record") d
    then option_map (λ v. refusal.BadTable v) (number_in (codes "record") d) else
    (if has (codes "before") d then failsafe_from d else with_nothing code)

-- a refusal that carries numbers or moments, or nothing
unfoldable pub other_refusal : ℕ → Data → Option Refusal
other_refusal code d =
    if has (codes "limit") d then limit_from d else
    (if has (codes "asked") d then future_from d else
    (if has (codes "kept") d then place_from d else
    (if has (codes "rule") d
    then option_map (λ v. refusal.Vetoed v) (number_in (codes "rule") d) else
    (if has (codes "number") d
    then option_map (λ v. refusal.OtherCommand v) (number_in (codes "number") d)
    else load_refusal code d))))

-- a refusal, by its number and what it carries
unfoldable pub refusal_from : Data → Option Refusal
refusal_from d = do
  code ← number_in (codes "code") d
  if has (codes "field") d then with_field code d else
      (if has (codes "object") d then with_object code d else
      (if has (codes "use") d then option_map (λ v. refusal.InUse v) (text_in (codes "use") d)
      else other_refusal code d))

-- ---- replies

-- a fault, by its word
unfoldable pub fault_from : Data → Option Reply
fault_from d = do
  word ← text_in (codes "fault") d
  if bytes_eq word (codes "memory") then Some reply.NoMemory else
      (if bytes_eq word (codes "disk") then Some reply.KeepFault else None)

-- an accepted command's number, and the id of what it made
unfoldable pub accepted_from : Data → Option Reply
accepted_from d = do
  number ← number_in (codes "number") d
  id ← optional_number_in (codes "id") d
  Some (reply.Number number id)

-- what a load did, count by count
unfoldable pub counts_from : Data → Option LoadCounts
counts_from d = do
  added ← number_in (codes "added") d
  bad_group ← number_in (codes "bad_group") d
  created ← number_in (codes "created") d
  removed ← number_in (codes "removed") d
  repeated ← number_in (codes "repeated") d
  unchanged ← number_in (codes "unchanged") d
  unknown ← number_in (codes "unknown") d
  vetoed ← number_in (codes "vetoed") d
  Some (record {
    created = created;
    removed = removed;
    added = added;
    unchanged = unchanged;
    unknown = unknown;
    repeated = repeated;
    vetoed = vetoed;
    bad_group = bad_group;
  })

-- an accepted load's number, and what it did
unfoldable pub loaded_from : Data → Option Reply
loaded_from d = do
  number ← number_in (codes "number") d
  counts ← counts_from d
  Some (reply.Loaded number counts)

-- a reply, by a key that none of those behind it has
unfoldable pub reply_from : Data → Option Reply
reply_from d =
    if has (codes "fault") d then fault_from d else
    (if has (codes "refused") d then option_map (λ v. reply.Refused v) (refusal_from d) else
    (if has (codes "added") d then loaded_from d else
    (if has (codes "number") d then accepted_from d
    else option_map (λ v. reply.Answer v) (answer_from d))))

-- what a text says that is JSON
unfoldable pub reply_of : List ℕ → Option Reply
reply_of text = if is_utf8 text then read text >>= reply_from else None
