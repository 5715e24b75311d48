-- The text of a reply: compact JSON (RFC 8259) whose keys ascend by bytes.
use Rattle.std.specs.Prelude.{ℕ, List, Option, None, Some, map, true, codes}
use Rattle.serde_json.specs.Find.{of_integer}
use Rattle.serde_json.specs.Data.{Data, Items, null, array, object, member, no_members, number}
use Rattle.serde_json.specs.Data.{unsigned, boolean, string}
use Rattle.serde_json.specs.View.{items_of}
use Rattle.serde_json.specs.Written.{compact_text}
use Rattle.reg_base.specs.MomentText.{text_of}
use Rattle.reg_base.specs.declared.privilege.Privilege.{Privilege}
use Rattle.reg_terms.specs.Privileges.{line_of}
use Rattle.reg_terms.specs.declared.kinds.AttrValue.{AttrValue}
use Rattle.reg_terms.specs.declared.kinds.AttrValue.TheVariants as value
use Rattle.reg_terms.specs.declared.kinds.SetOp.{SetOp}
use Rattle.reg_terms.specs.declared.kinds.SetOp.TheVariants.{Intersection, Complement, Union}
use Rattle.reg_terms.specs.declared.query.Answer.{Answer}
use Rattle.reg_terms.specs.declared.query.Answer.TheVariants as answer
use Rattle.reg_terms.specs.declared.shown.AssignShown.{AssignShown}
use Rattle.reg_terms.specs.declared.shown.FactorsShown.{FactorsShown}
use Rattle.reg_terms.specs.declared.shown.GrantShown.{GrantShown}
use Rattle.reg_terms.specs.declared.shown.RowShown.{RowShown}
use Rattle.reg_terms.specs.EntryWords.{word_of}
use Rattle.reg_terms.specs.declared.changes_shown.SpanShown.{SpanShown}
use Rattle.reg_terms.specs.declared.changes_shown.EntryShown.{EntryShown}
use Rattle.reg_terms.specs.declared.reply.LoadCounts.{LoadCounts}
use Rattle.reg_terms.specs.declared.reply.Reply.{Reply}
use Rattle.reg_terms.specs.declared.reply.Reply.TheVariants as reply
use Rattle.reg_json.specs.AdminReplies.{consumer_items, gone_items, job_items, rule_items}
use Rattle.reg_json.specs.Flat.{moment_data}
use Rattle.reg_json.specs.Refusals.{refusal_data}

-- texts as an array's items
abbrev pub strings : List (List ℕ) → Items
strings ts = items_of (map string ts)

-- an immediate membership as JSON data
abbrev pub row_data : RowShown → Data
row_data row =
    object (member (codes "from") (string (text_of row.from))
    (member (codes "member") (string row.member)
    (member (codes "until") (moment_data row.until) no_members)))

-- immediate memberships as an array's items
abbrev pub row_items : List RowShown → Items
row_items rows = items_of (map row_data rows)

-- the word of a kind of composite
abbrev pub kind_word : SetOp → List ℕ
kind_word Intersection = codes "intersection"
kind_word Complement = codes "complement"
kind_word Union = codes "union"

-- the factors of a composite as JSON data, or null
abbrev pub factors_data : Option FactorsShown → Data
factors_data None = null
factors_data (Some factors) =
    object (member (codes "kind") (string (kind_word factors.kind))
    (member (codes "left") (string factors.left)
    (member (codes "right") (string factors.right) no_members)))

-- a grant as JSON data: its holder's text, and the name of the privilege
abbrev pub grant_data : GrantShown → Data
grant_data grant =
    object (member (codes "holder") (string grant.holder)
    (member (codes "privilege") (string (line_of grant.privilege).name) no_members))

-- grants as an array's items
abbrev pub grant_items : List GrantShown → Items
grant_items grants = items_of (map grant_data grants)

-- privileges by their names
abbrev pub names_of : List Privilege → List (List ℕ)
names_of privileges = map (λ (p : Privilege). (line_of p).name) privileges

-- a time in which a person was a member as JSON data
abbrev pub span_data : SpanShown → Data
span_data span =
    object (member (codes "from") (string (text_of span.from))
    (member (codes "subject") (string span.subject)
    (member (codes "to") (moment_data span.to) no_members)))

-- such times as an array's items
abbrev pub span_items : List SpanShown → Items
span_items spans = items_of (map span_data spans)

-- an entry of the change log as JSON data
abbrev pub entry_data : EntryShown → Data
entry_data entry =
    object (member (codes "at") (string (text_of entry.at))
    (member (codes "entity") (string entry.entity)
    (member (codes "kind") (string (word_of entry.kind))
    (member (codes "number") (number (unsigned entry.number))
    (member (codes "object") (string entry.object)
    (member (codes "seq") (number (unsigned entry.seq)) no_members))))))

-- entries as an array's items
abbrev pub entry_items : List EntryShown → Items
entry_items entries = items_of (map entry_data entries)

-- a value of an assignment as JSON data: an integer as a number, a text, and a moment by its text
abbrev pub value_data : AttrValue → Data
value_data (value.Int n) = number (of_integer n)
value_data (value.Text words) = string words
value_data (value.Moment moment) = string (text_of moment)

-- values as an array's items
abbrev pub value_items : List AttrValue → Items
value_items values = items_of (map value_data values)

-- an assignment as JSON data
abbrev pub assign_data : AssignShown → Data
assign_data assign =
    object (member (codes "attribute") (string assign.attribute)
    (member (codes "id") (number (unsigned assign.id))
    (member (codes "values") (array (value_items assign.values)) no_members)))

-- assignments as an array's items
abbrev pub assign_items : List AssignShown → Items
assign_items assigns = items_of (map assign_data assigns)

-- a query's answer as JSON data
unfoldable pub answer_data : Answer → Data
answer_data (answer.GroupGet display name) =
    object (member (codes "display") (string display)
    (member (codes "name") (string name) (member (codes "ok") (boolean true) no_members)))
answer_data (answer.FolderList attributes definitions folders groups) =
    object (member (codes "attributes") (array (strings attributes))
    (member (codes "definitions") (array (strings definitions))
    (member (codes "folders") (array (strings folders))
    (member (codes "groups") (array (strings groups))
    (member (codes "ok") (boolean true) no_members)))))
answer_data (answer.Members texts) =
    object (member (codes "members") (array (strings texts))
    (member (codes "ok") (boolean true) no_members))
answer_data (answer.Rows composite rows) =
    object (member (codes "composite") (factors_data composite)
    (member (codes "ok") (boolean true)
    (member (codes "rows") (array (row_items rows)) no_members)))
answer_data (answer.Groups groups) =
    object (member (codes "groups") (array (strings groups))
    (member (codes "ok") (boolean true) no_members))
answer_data (answer.Grants grants) =
    object (member (codes "grants") (array (grant_items grants))
    (member (codes "ok") (boolean true) no_members))
answer_data (answer.May privileges) =
    object (member (codes "ok") (boolean true)
    (member (codes "privileges") (array (strings (names_of privileges))) no_members))
answer_data (answer.Attributes assignments) =
    object (member (codes "assignments") (array (assign_items assignments))
    (member (codes "ok") (boolean true) no_members))
answer_data (answer.History history) =
    object (member (codes "history") (array (span_items history))
    (member (codes "ok") (boolean true) no_members))
answer_data (answer.Log entries last place) =
    object (member (codes "entries") (array (entry_items entries))
    (member (codes "last") (number (unsigned last))
    (member (codes "ok") (boolean true)
    (member (codes "place") (number (unsigned place)) no_members))))
answer_data (answer.Admin consumers gone jobs rules) =
    object (member (codes "consumers") (array (consumer_items consumers))
    (member (codes "gone") (array (gone_items gone))
    (member (codes "jobs") (array (job_items jobs))
    (member (codes "ok") (boolean true)
    (member (codes "rules") (array (rule_items rules)) no_members)))))

-- an accepted command's number as JSON data, with the id of what it made where there is one
abbrev pub accepted_data : ℕ → Option ℕ → Data
accepted_data n None =
    object (member (codes "number") (number (unsigned n))
    (member (codes "ok") (boolean true) no_members))
accepted_data n (Some id) =
    object (member (codes "id") (number (unsigned id))
    (member (codes "number") (number (unsigned n)) (member (codes "ok") (boolean true) no_members)))

-- an accepted load's number and counts as JSON data
unfoldable pub loaded_data : ℕ → LoadCounts → Data
loaded_data n counts =
    object (member (codes "added") (number (unsigned counts.added))
    (member (codes "bad_group") (number (unsigned counts.bad_group))
    (member (codes "created") (number (unsigned counts.created))
    (member (codes "number") (number (unsigned n))
    (member (codes "ok") (boolean true)
    (member (codes "removed") (number (unsigned counts.removed))
    (member (codes "repeated") (number (unsigned counts.repeated))
    (member (codes "unchanged") (number (unsigned counts.unchanged))
    (member (codes "unknown") (number (unsigned counts.unknown))
    (member (codes "vetoed") (number (unsigned counts.vetoed)) no_members))))))))))

-- a reply as JSON data
unfoldable pub reply_data : Reply → Data
reply_data (reply.Number n id) = accepted_data n id
reply_data (reply.Loaded n counts) = loaded_data n counts
reply_data (reply.Answer a) = answer_data a
reply_data (reply.Refused r) = refusal_data r
reply_data reply.NoMemory = object (member (codes "fault") (string (codes "memory")) no_members)
reply_data reply.KeepFault = object (member (codes "fault") (string (codes "disk")) no_members)

-- the text of a reply, without an ending LF
unfoldable pub text : Reply → List ℕ
text reply = compact_text (reply_data reply)
