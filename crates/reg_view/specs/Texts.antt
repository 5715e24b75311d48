-- What is shown of rows, factors, holders, assignments, groups that are gone, loader jobs and
-- rules: by texts.
use Rattle.std.specs.Prelude.{ℕ, ◌==◌, ◌++◌, List, [], Option, None, Some, option_map, codes}
use Rattle.std.specs.Prelude.{if◌then◌else◌}
use Rattle.std.specs.List.{find}
use Rattle.reg_facts.specs.Lists.{Lists}
use Rattle.reg_facts.specs.Naming.{name_of}
use Rattle.reg_facts.specs.Rows.{subject_row}
use Rattle.reg_facts.specs.Sound.{has_group}
use Rattle.reg_terms.specs.declared.kinds.Member.{Member}
use Rattle.reg_terms.specs.declared.kinds.Member.TheVariants.{Person, Group}
use Rattle.reg_terms.specs.declared.kinds.Holder.{Holder}
use Rattle.reg_terms.specs.declared.kinds.Holder.TheVariants as holder
use Rattle.reg_terms.specs.declared.kinds.Object.TheVariants as object
use Rattle.reg_terms.specs.declared.kinds.RuleForm.{RuleForm}
use Rattle.reg_terms.specs.declared.kinds.RuleForm.TheVariants as rule
use Rattle.reg_terms.specs.declared.rows.ConsumerRow.{ConsumerRow}
use Rattle.reg_terms.specs.declared.rows.JobRow.{JobRow}
use Rattle.reg_terms.specs.declared.rows.RuleRow.{RuleRow}
use Rattle.reg_terms.specs.declared.rows.MemberRow.{MemberRow}
use Rattle.reg_terms.specs.declared.rows.CompositeRow.{CompositeRow}
use Rattle.reg_terms.specs.declared.rows.AttributeRow.{AttributeRow}
use Rattle.reg_terms.specs.declared.rows.AssignRow.{AssignRow}
use Rattle.reg_terms.specs.declared.admin_shown.ConsumerShown.{ConsumerShown}
use Rattle.reg_terms.specs.declared.admin_shown.FormShown.{FormShown}
use Rattle.reg_terms.specs.declared.admin_shown.FormShown.TheVariants as form
use Rattle.reg_terms.specs.declared.admin_shown.GoneShown.{GoneShown}
use Rattle.reg_terms.specs.declared.admin_shown.JobShown.{JobShown}
use Rattle.reg_terms.specs.declared.admin_shown.RuleShown.{RuleShown}
use Rattle.reg_terms.specs.declared.shown.AssignShown.{AssignShown}
use Rattle.reg_terms.specs.declared.shown.FactorsShown.{FactorsShown}
use Rattle.reg_terms.specs.declared.shown.GrantShown.{GrantShown}
use Rattle.reg_terms.specs.declared.shown.RowShown.{RowShown}
use Rattle.reg_priv.specs.Grants.{Grant}
use Rattle.reg_view.specs.Past.{Past}

-- the text of a member: a person's, and a group's name behind `g:gsa/`
abbrev pub member_text : Member → Lists → List ℕ
member_text (Person s) f = elim (subject_row s f.subjects) [ None ↦ [] | Some row ↦ row.text ]
member_text (Group g) f = codes "g:gsa/" ++ name_of (object.Group g) f

-- the name of a group that stands, and of one that is gone the one that it had last
abbrev pub group_called : Past → Lists → ℕ → List ℕ
group_called p f g =
    if has_group g f.groups then name_of (object.Group g) f else p.last_name (object.Group g)

-- the text of a person, also of one that is gone
abbrev pub person_called : Past → Lists → ℕ → List ℕ
person_called p f s =
    elim (subject_row s f.subjects) [ None ↦ p.last_name (object.Subject s) | Some row ↦ row.text ]

-- the text of a holder, also of one that is gone
abbrev pub holder_text : Past → Lists → Holder → List ℕ
holder_text p f holder.Everyone = codes "g:isa/GrouperAll"
holder_text p f (holder.Person s) = person_called p f s
holder_text p f (holder.Group g) = codes "g:gsa/" ++ group_called p f g

-- an immediate membership as it is shown
abbrev pub row_shown : Lists → MemberRow → RowShown
row_shown f row = record { from = row.from; member = member_text row.member f; until = row.until }

-- the factors of a composite as they are shown
abbrev pub factors_shown : Lists → CompositeRow → FactorsShown
factors_shown f row = record {
  kind = row.op;
  left = name_of (object.Group row.left) f;
  right = name_of (object.Group row.right) f;
}

-- the factors of a group, if it is a composite
abbrev pub composite_shown : ℕ → Lists → Option FactorsShown
composite_shown id f =
    option_map (factors_shown f) (find (λ (row : CompositeRow). row.group == id) f.composites)

-- a grant as it is shown
abbrev pub grant_shown : Past → Lists → Grant → GrantShown
grant_shown p f g = record { holder = holder_text p f g.1; privilege = g.0 }

-- the name of the definition of an attribute
abbrev pub definition_name : Lists → AttributeRow → List ℕ
definition_name f row = name_of (object.Def row.definition) f

-- an assignment as it is shown: by the name that its attribute has or had last
abbrev pub assign_shown : Past → AssignRow → AssignShown
assign_shown p row = record {
  attribute = p.last_name (object.Attr row.attribute);
  id = row.id;
  values = row.values;
}

-- ---- what root is told

-- a consumer of the log, and the number of the last entry that it has acknowledged
abbrev pub consumer_shown : ConsumerRow → ConsumerShown
consumer_shown row = record { consumer = row.name; place = row.place }

-- a group that is gone, and the moment at which it went: by the name that it had last
abbrev pub gone_shown : Past → ℕ × ℕ → GoneShown
gone_shown p g = record { ended = g.1; group = p.last_name (object.Group g.0) }

-- a loader job: by the present name of its group or folder
abbrev pub job_shown : Lists → JobRow → JobShown
job_shown f row = record {
  job = row.name;
  max_percent = row.max_percent;
  min_size = row.min_size;
  source = row.source;
  target = name_of row.target f;
}

-- what a rule does: by the present names of its groups and its folder, and the text of its holder
abbrev pub form_shown : Past → Lists → RuleForm → FormShown
form_shown p f (rule.RemoveLost check owner) =
    form.RemoveLost (name_of (object.Group check) f) (name_of (object.Group owner) f)
form_shown p f (rule.EndLost check owner days) =
    form.EndLost (name_of (object.Group check) f) (name_of (object.Group owner) f) days
form_shown p f (rule.Veto owner condition) =
    form.Veto (name_of (object.Group owner) f) (name_of (object.Group condition) f)
form_shown p f (rule.OnCreate folder scope privilege whom) =
    form.OnCreate (name_of (object.Folder folder) f) scope privilege (holder_text p f whom)

-- a rule
abbrev pub rule_shown : Past → Lists → RuleRow → RuleShown
rule_shown p f row = record { id = row.id; form = form_shown p f row.form }
