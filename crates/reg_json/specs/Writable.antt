-- Which replies have a text: all that the program can hold.
use Rattle.std.specs.Prelude.{◌≡◌, ℕ, Bool, true, ◌&&◌, nat_lt, Option, Some, None}
use Rattle.std.specs.List.{list_all}
use Rattle.std.specs.Str.{IsUtf8}
use Rattle.reg_base.specs.Names.{is_name}
use Rattle.reg_ops.specs.Forms.{is_i64, is_moment, is_optional_moment}
use Rattle.reg_terms.specs.declared.admin_shown.ConsumerShown.{ConsumerShown}
use Rattle.reg_terms.specs.declared.admin_shown.FormShown.{FormShown}
use Rattle.reg_terms.specs.declared.admin_shown.FormShown.TheVariants as form
use Rattle.reg_terms.specs.declared.admin_shown.GoneShown.{GoneShown}
use Rattle.reg_terms.specs.declared.admin_shown.JobShown.{JobShown}
use Rattle.reg_terms.specs.declared.admin_shown.RuleShown.{RuleShown}
use Rattle.reg_terms.specs.declared.kinds.AttrValue.{AttrValue}
use Rattle.reg_terms.specs.declared.kinds.AttrValue.TheVariants as value
use Rattle.reg_terms.specs.declared.shown.AssignShown.{AssignShown}
use Rattle.reg_terms.specs.declared.shown.RowShown.{RowShown}
use Rattle.reg_terms.specs.declared.changes_shown.SpanShown.{SpanShown}
use Rattle.reg_terms.specs.declared.changes_shown.EntryShown.{EntryShown}
use Rattle.reg_terms.specs.declared.query.Answer.{Answer}
use Rattle.reg_terms.specs.declared.query.Answer.TheVariants as answer
use Rattle.reg_terms.specs.declared.refusal.Refusal.{Refusal}
use Rattle.reg_terms.specs.declared.refusal.Refusal.TheVariants as refusal
use Rattle.reg_terms.specs.declared.reply.LoadCounts.{LoadCounts}
use Rattle.reg_terms.specs.declared.reply.Reply.{Reply}
use Rattle.reg_terms.specs.declared.reply.Reply.TheVariants as reply
use Rattle.reg_json.specs.Replies.{text}

-- a number of 64 bits
abbrev pub is_u64 : ℕ → Bool
is_u64 n = nat_lt n 18446744073709551616

-- a number of 64 bits, where there is one
abbrev pub is_optional_u64 : Option ℕ → Bool
is_optional_u64 None = true
is_optional_u64 (Some n) = is_u64 n

-- the moments of a membership are at most the greatest
abbrev pub row_fits : RowShown → Bool
row_fits row = is_moment row.from && is_optional_moment row.until

-- and those of a time in which a person was a member
abbrev pub span_fits : SpanShown → Bool
span_fits span = is_moment span.from && is_optional_moment span.to

-- and that of an entry, whose numbers have 64 bits
abbrev pub entry_fits : EntryShown → Bool
entry_fits entry = is_moment entry.at && (is_u64 entry.number && is_u64 entry.seq)

-- a value of an assignment has 64 bits where it is an integer
abbrev pub value_fits : AttrValue → Bool
value_fits (value.Int n) = is_i64 n
value_fits _ = true

-- a number of 32 bits
abbrev pub is_u32 : ℕ → Bool
is_u32 n = nat_lt n 4294967296

-- the number of an assignment has 32 bits
abbrev pub assign_fits : AssignShown → Bool
assign_fits assign = is_u32 assign.id && list_all value_fits assign.values

-- the place of a consumer has 64 bits
abbrev pub consumer_fits : ConsumerShown → Bool
consumer_fits consumer = is_u64 consumer.place

-- the moment at which a group went is at most the greatest
abbrev pub gone_fits : GoneShown → Bool
gone_fits gone = is_moment gone.ended

-- the numbers of a loader job have 64 bits
abbrev pub job_fits : JobShown → Bool
job_fits job = is_u64 job.max_percent && is_u64 job.min_size

-- and those of a rule 32
abbrev pub form_fits : FormShown → Bool
form_fits (form.EndLost check owner days) = is_u32 days
form_fits _ = true

abbrev pub rule_fits : RuleShown → Bool
rule_fits rule = is_u32 rule.id && form_fits rule.form

-- the names, moments and numbers of an answer have their forms
abbrev pub answer_fits : Answer → Bool
answer_fits (answer.GroupGet display name) = is_name name
answer_fits (answer.Rows composite rows) = list_all row_fits rows
answer_fits (answer.Attributes assignments) = list_all assign_fits assignments
answer_fits (answer.History history) = list_all span_fits history
answer_fits (answer.Log entries last place) =
    list_all entry_fits entries && (is_u64 last && is_u64 place)
answer_fits (answer.Admin consumers gone jobs rules) =
    list_all consumer_fits consumers
    && (list_all gone_fits gone && (list_all job_fits jobs && list_all rule_fits rules))
answer_fits _ = true

-- and those of a refusal
abbrev pub refusal_fits : Refusal → Bool
refusal_fits (refusal.TooLong limit) = is_u64 limit
refusal_fits (refusal.Future asked clock) = is_moment asked && is_moment clock
refusal_fits (refusal.Place kept last) = is_u64 kept && is_u64 last
refusal_fits (refusal.Full kind limit) = is_u64 limit
refusal_fits (refusal.Vetoed rule) = is_u64 rule
refusal_fits (refusal.BadTable row) = is_u64 row
refusal_fits (refusal.Failsafe before removes) = is_u64 before && is_u64 removes
refusal_fits (refusal.OtherCommand number) = is_u64 number
refusal_fits _ = true

-- the counts of a load have 64 bits
abbrev pub counts_fit : LoadCounts → Bool
counts_fit counts =
    is_u64 counts.added && (is_u64 counts.bad_group
    && (is_u64 counts.created && (is_u64 counts.removed
    && (is_u64 counts.repeated
    && (is_u64 counts.unchanged && (is_u64 counts.unknown && is_u64 counts.vetoed))))))

-- and those of a reply
abbrev pub reply_fits : Reply → Bool
reply_fits (reply.Number number id) = is_u64 number && is_optional_u64 id
reply_fits (reply.Loaded number counts) = is_u64 number && counts_fit counts
reply_fits (reply.Answer a) = answer_fits a
reply_fits (reply.Refused r) = refusal_fits r
reply_fits _ = true

-- a reply that the program can hold: its parts have their forms, and its text is UTF-8
pub record IsWritable (reply : Reply) : Type 0 where
  pub fits : reply_fits reply ≡ true
  pub utf8 : IsUtf8 (text reply)
