-- What root is told of consumers, groups that are gone, loader jobs and rules, as JSON data.
use Rattle.std.specs.Prelude.{ℕ, List, map, codes}
use Rattle.serde_json.specs.Data.{Data, Items, object, member, no_members, number, unsigned, string}
use Rattle.serde_json.specs.View.{items_of}
use Rattle.reg_base.specs.MomentText.{text_of}
use Rattle.reg_terms.specs.Privileges.{line_of}
use Rattle.reg_terms.specs.declared.admin_shown.ConsumerShown.{ConsumerShown}
use Rattle.reg_terms.specs.declared.admin_shown.FormShown.{FormShown}
use Rattle.reg_terms.specs.declared.admin_shown.FormShown.TheVariants as form
use Rattle.reg_terms.specs.declared.admin_shown.GoneShown.{GoneShown}
use Rattle.reg_terms.specs.declared.admin_shown.JobShown.{JobShown}
use Rattle.reg_terms.specs.declared.admin_shown.RuleShown.{RuleShown}
use Rattle.reg_terms.specs.declared.kinds.Scope.{Scope}
use Rattle.reg_terms.specs.declared.kinds.Scope.TheVariants.{One, Sub}

-- a consumer
abbrev pub consumer_data : ConsumerShown → Data
consumer_data consumer =
    object (member (codes "consumer") (string consumer.consumer)
    (member (codes "place") (number (unsigned consumer.place)) no_members))

-- consumers as an array's items
abbrev pub consumer_items : List ConsumerShown → Items
consumer_items consumers = items_of (map consumer_data consumers)

-- a group that is gone
abbrev pub gone_data : GoneShown → Data
gone_data gone =
    object (member (codes "ended") (string (text_of gone.ended))
    (member (codes "group") (string gone.group) no_members))

-- such groups as an array's items
abbrev pub gone_items : List GoneShown → Items
gone_items gone = items_of (map gone_data gone)

-- a loader job
abbrev pub job_data : JobShown → Data
job_data job =
    object (member (codes "job") (string job.job)
    (member (codes "max_percent") (number (unsigned job.max_percent))
    (member (codes "min_size") (number (unsigned job.min_size))
    (member (codes "source") (string job.source)
    (member (codes "target") (string job.target) no_members)))))

-- loader jobs as an array's items
abbrev pub job_items : List JobShown → Items
job_items jobs = items_of (map job_data jobs)

-- the word of a scope
abbrev pub scope_word : Scope → List ℕ
scope_word One = codes "ONE"
scope_word Sub = codes "SUB"

-- a rule of an id, by its form: the word of its op without `rule.`, and the fields of that op
abbrev pub form_data : ℕ → FormShown → Data
form_data id (form.RemoveLost check owner) =
    object (member (codes "check") (string check)
    (member (codes "form") (string (codes "remove_lost"))
    (member (codes "id") (number (unsigned id))
    (member (codes "owner") (string owner) no_members))))
form_data id (form.EndLost check owner days) =
    object (member (codes "check") (string check)
    (member (codes "days") (number (unsigned days))
    (member (codes "form") (string (codes "end_lost"))
    (member (codes "id") (number (unsigned id))
    (member (codes "owner") (string owner) no_members)))))
form_data id (form.Veto owner condition) =
    object (member (codes "condition") (string condition)
    (member (codes "form") (string (codes "veto"))
    (member (codes "id") (number (unsigned id))
    (member (codes "owner") (string owner) no_members))))
form_data id (form.OnCreate folder scope privilege holder) =
    object (member (codes "folder") (string folder)
    (member (codes "form") (string (codes "on_create"))
    (member (codes "holder") (string holder)
    (member (codes "id") (number (unsigned id))
    (member (codes "privilege") (string (line_of privilege).name)
    (member (codes "scope") (string (scope_word scope)) no_members))))))

-- a rule
abbrev pub rule_data : RuleShown → Data
rule_data rule = form_data rule.id rule.form

-- rules as an array's items
abbrev pub rule_items : List RuleShown → Items
rule_items rules = items_of (map rule_data rules)
