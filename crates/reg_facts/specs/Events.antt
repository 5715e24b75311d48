-- What happens to the facts, event by event, and the events that a command makes.
use Rattle.std.specs.Prelude.{ℕ, ◌+◌, ◌==◌, Bool, true, false, List, [], ◌∷◌, ◌++◌, not, Option}
use Rattle.std.specs.Prelude.{None, Some, map, filter, if◌then◌else◌}
use Rattle.reg_base.specs.NameParts.{extension_of}
use Rattle.reg_base.specs.declared.entity.Entity.{Entity}
use Rattle.reg_terms.specs.declared.command.Command.{Command}
use Rattle.reg_terms.specs.declared.command.Command.TheVariants.{FolderAdd, FolderRename}
use Rattle.reg_terms.specs.declared.command.Command.TheVariants.{FolderMove, FolderDelete}
use Rattle.reg_terms.specs.declared.command.Command.TheVariants.{SubjectAdd, GroupAdd, GroupRename}
use Rattle.reg_terms.specs.declared.command.Command.TheVariants.{GroupMove, GroupDelete, MemberAdd}
use Rattle.reg_terms.specs.declared.command.Command.TheVariants.{MemberRemove, MemberWindow}
use Rattle.reg_terms.specs.declared.command.Command.TheVariants.{CompositeSet, CompositeClear}
use Rattle.reg_terms.specs.declared.command.Command.TheVariants.{GrantAdd, GrantRemove, InheritAdd}
use Rattle.reg_terms.specs.declared.command.Command.TheVariants.{InheritRemove, AttrdefAdd}
use Rattle.reg_terms.specs.declared.command.Command.TheVariants.{AttrdefDelete, AttrAdd, AttrDelete}
use Rattle.reg_terms.specs.declared.command.Command.TheVariants.{AssignAdd, AssignRemove, ValueAdd}
use Rattle.reg_terms.specs.declared.command.Command.TheVariants.{ValueRemove, RuleRemoveLost}
use Rattle.reg_terms.specs.declared.command.Command.TheVariants.{RuleEndLost, RuleVeto}
use Rattle.reg_terms.specs.declared.command.Command.TheVariants.{RuleOnCreate, RuleDelete}
use Rattle.reg_terms.specs.declared.command.Command.TheVariants.{JobSimple, JobList, JobDelete}
use Rattle.reg_terms.specs.declared.command.Command.TheVariants.{Load, ConsumerAdd, ConsumerAck}
use Rattle.reg_terms.specs.declared.event.Event.{Event}
use Rattle.reg_terms.specs.declared.event.Event.TheVariants.{FolderMade, FolderRenamed, FolderMoved}
use Rattle.reg_terms.specs.declared.event.Event.TheVariants.{FolderGone, SubjectMade, GroupMade}
use Rattle.reg_terms.specs.declared.event.Event.TheVariants.{GroupRenamed, GroupMoved, GroupGone}
use Rattle.reg_terms.specs.declared.event.Event.TheVariants.{RowAdded, RowRemoved, RowRedated}
use Rattle.reg_terms.specs.declared.event.Event.TheVariants.{Composed, Decomposed, GrantAdded}
use Rattle.reg_terms.specs.declared.event.Event.TheVariants.{GrantBegan, GrantRemoved}
use Rattle.reg_terms.specs.declared.event.Event.TheVariants.{InheritAdded}
use Rattle.reg_terms.specs.declared.event.Event.TheVariants.{InheritRemoved, DefinitionMade}
use Rattle.reg_terms.specs.declared.event.Event.TheVariants.{DefinitionGone, AttributeMade}
use Rattle.reg_terms.specs.declared.event.Event.TheVariants.{AttributeGone, AssignMade, AssignGone}
use Rattle.reg_terms.specs.declared.event.Event.TheVariants.{ValueAdded, ValueRemoved, RuleMade}
use Rattle.reg_terms.specs.declared.event.Event.TheVariants.{RuleGone, JobMade, JobGone}
use Rattle.reg_terms.specs.declared.event.Event.TheVariants.{ConsumerAdded, ConsumerAcked}
use Rattle.reg_terms.specs.declared.kinds.Member.{Member}
use Rattle.reg_terms.specs.declared.kinds.Member.TheVariants.{Person}
use Rattle.reg_terms.specs.declared.kinds.AttrValue.{AttrValue}
use Rattle.reg_terms.specs.declared.kinds.DefKind.{DefKind}
use Rattle.reg_terms.specs.declared.kinds.Object.{Object}
use Rattle.reg_terms.specs.declared.kinds.Object.TheVariants.{Folder, Group, Def}
use Rattle.reg_terms.specs.declared.kinds.Owners.{Owners}
use Rattle.reg_terms.specs.declared.rows.FolderRow.{FolderRow}
use Rattle.reg_terms.specs.declared.rows.GroupRow.{GroupRow}
use Rattle.reg_terms.specs.declared.rows.SubjectRow.{SubjectRow}
use Rattle.reg_terms.specs.declared.rows.MemberRow.{MemberRow}
use Rattle.reg_terms.specs.declared.rows.CompositeRow.{CompositeRow}
use Rattle.reg_terms.specs.declared.rows.GrantRow.{GrantRow}
use Rattle.reg_terms.specs.declared.rows.InheritRow.{InheritRow}
use Rattle.reg_terms.specs.declared.rows.DefinitionRow.{DefinitionRow}
use Rattle.reg_terms.specs.declared.rows.AttributeRow.{AttributeRow}
use Rattle.reg_terms.specs.declared.rows.AssignRow.{AssignRow}
use Rattle.reg_terms.specs.declared.rows.RuleRow.{RuleRow}
use Rattle.reg_terms.specs.declared.rows.JobRow.{JobRow}
use Rattle.reg_terms.specs.declared.kinds.RuleForm.{RuleForm}
use Rattle.reg_terms.specs.declared.lists.LoadRow.{LoadRow}
use Rattle.reg_terms.specs.declared.rows.PersonRow.{PersonRow}
use Rattle.reg_base.specs.declared.privilege.Privilege.TheVariants.{Admin, StemAdmin, AttrAdmin}
use Rattle.reg_terms.specs.Values.{with_value, without_value}
use Rattle.reg_facts.specs.Attributes.{attribute_id, definition_id, value_of}
use Rattle.reg_facts.specs.Edits.{member_of, the_id, person_text, from_or}
use Rattle.reg_terms.specs.Rows.{is_row, is_composite}
use Rattle.reg_facts.specs.Edits.{folder_renamed, folder_moved, group_renamed, group_moved}
use Rattle.reg_facts.specs.Edits.{subject_id, windowed, without_notes}
use Rattle.reg_facts.specs.Consumers.{acknowledged}
use Rattle.reg_facts.specs.Grants.{same_grant, replaced, same_inherit, object_of, grant_of}
use Rattle.reg_facts.specs.Grants.{inherit_of, to_come, makers_grant}
use Rattle.reg_facts.specs.Jobs.{job_by}
use Rattle.reg_facts.specs.Lists.{Lists}
use Rattle.reg_facts.specs.Rules.{creation_grants, form_of, not_yet}
use Rattle.reg_facts.specs.Naming.{folder_id, group_id, home_id}
use Rattle.reg_facts.specs.RowOrder.{rows_of}

-- the facts after an event
abbrev pub happened : Event → Lists → Lists
happened (FolderMade row) f =
    record f { folders = f.folders ++ row ∷ []; made = record f.made { folders = row.id } }
happened (FolderRenamed id extension) f =
    record f { folders = map (folder_renamed id extension) f.folders }
happened (FolderMoved id to) f = record f { folders = map (folder_moved id to) f.folders }
happened (FolderGone id) f =
    record (without_notes (Folder id) f) {
      folders = filter (λ (row : FolderRow). not (row.id == id)) f.folders;
      inherits = filter (λ (row : InheritRow). not (row.folder == id)) f.inherits;
    }
happened (SubjectMade row) f =
    record f { subjects = f.subjects ++ row ∷ []; made = record f.made { subjects = row.id } }
happened (GroupMade row) f =
    record f { groups = f.groups ++ row ∷ []; made = record f.made { groups = row.id } }
happened (GroupRenamed id extension) f =
    record f { groups = map (group_renamed id extension) f.groups }
happened (GroupMoved id to) f = record f { groups = map (group_moved id to) f.groups }
happened (GroupGone id) f =
    record (without_notes (Group id) f)
    { groups = filter (λ (row : GroupRow). not (row.id == id)) f.groups }
happened (RowAdded row) f = record f { rows = f.rows ++ row ∷ [] }
happened (RowRemoved g m) f =
    record f { rows = filter (λ (row : MemberRow). not (is_row g m row)) f.rows }
happened (RowRedated g m from until) f = record f { rows = map (windowed from until g m) f.rows }
happened (Composed row) f = record f { composites = f.composites ++ row ∷ [] }
happened (Decomposed g) f =
    record f { composites = filter (λ (row : CompositeRow). not (row.group == g)) f.composites }
happened (GrantAdded row) f = record f { grants = f.grants ++ row ∷ [] }
happened (GrantBegan row) f = record f { grants = map (replaced row) f.grants }
happened (GrantRemoved row) f =
    record f { grants = filter (λ (other : GrantRow). not (same_grant row other)) f.grants }
happened (InheritAdded row) f = record f { inherits = f.inherits ++ row ∷ [] }
happened (InheritRemoved row) f =
    record f { inherits = filter (λ (other : InheritRow). not (same_inherit row other)) f.inherits }
happened (DefinitionMade row) f =
    record f {
      definitions = f.definitions ++ row ∷ [];
      made = record f.made { definitions = row.id };
    }
happened (DefinitionGone id) f =
    record (without_notes (Def id) f)
    { definitions = filter (λ (row : DefinitionRow). not (row.id == id)) f.definitions }
happened (AttributeMade row) f =
    record f { attributes = f.attributes ++ row ∷ []; made = record f.made { attributes = row.id } }
happened (AttributeGone id) f =
    record f { attributes = filter (λ (row : AttributeRow). not (row.id == id)) f.attributes }
happened (AssignMade row) f =
    record f { assigns = f.assigns ++ row ∷ []; made = record f.made { assigns = row.id } }
happened (AssignGone id) f =
    record f { assigns = filter (λ (row : AssignRow). not (row.id == id)) f.assigns }
happened (ValueAdded id v) f = record f { assigns = map (with_value id v) f.assigns }
happened (ValueRemoved id v) f = record f { assigns = map (without_value id v) f.assigns }
happened (RuleMade row) f =
    record f { rules = f.rules ++ row ∷ []; made = record f.made { rules = row.id } }
happened (RuleGone id) f =
    record f { rules = filter (λ (row : RuleRow). not (row.id == id)) f.rules }
happened (JobMade row) f =
    record f { jobs = f.jobs ++ row ∷ []; made = record f.made { jobs = row.id } }
happened (JobGone id) f = record f { jobs = filter (λ (row : JobRow). not (row.id == id)) f.jobs }
happened (ConsumerAdded row) f = record f { consumers = f.consumers ++ row ∷ [] }
happened (ConsumerAcked name seq) f =
    record f { consumers = map (acknowledged name seq) f.consumers }

-- the facts after some events, one after another
abbrev pub all_happened : List Event → Lists → Lists
all_happened [] f = f
all_happened (e ∷ es) f = all_happened es (happened e f)

-- a member that stands makes an event, and none makes none
abbrev pub on_member : (Member → Event) → Option Member → List Event
on_member event None = []
on_member event (Some m) = event m ∷ []

-- and so does a grant or an inherit that a command speaks of
abbrev pub on_grant : (GrantRow → Event) → Option GrantRow → List Event
on_grant event None = []
on_grant event (Some row) = event row ∷ []

abbrev pub on_inherit : (InheritRow → Event) → Option InheritRow → List Event
on_inherit event None = []
on_inherit event (Some row) = event row ∷ []

-- and so does an object to which an attribute is assigned, and a value that a definition takes
abbrev pub on_owner : (Object → Event) → Option Object → List Event
on_owner event None = []
on_owner event (Some o) = event o ∷ []

abbrev pub on_value : (AttrValue → Event) → Option AttrValue → List Event
on_value event None = []
on_value event (Some v) = event v ∷ []

-- and so does a rule that a command makes
abbrev pub on_rule : ℕ → Option RuleForm → List Event
on_rule id None = []
on_rule id (Some form) = RuleMade (record { id = id; form = form }) ∷ []

-- and so does a loader job that a command speaks of
abbrev pub on_job : Option JobRow → List Event
on_job None = []
on_job (Some row) = JobGone row.id ∷ []

-- grants are made, one after another
abbrev pub grants_added : List GrantRow → List Event
grants_added rows = map (λ row. GrantAdded row) rows

-- a row goes
abbrev pub row_gone : MemberRow → Event
row_gone row = RowRemoved row.group row.member

-- a group's factors go, if it is a composite
abbrev pub factors_gone : ℕ → List CompositeRow → List Event
factors_gone g composites = if is_composite g composites then Decomposed g ∷ [] else []

-- a group goes after its rows, those of persons before those of groups, and its factors
abbrev pub group_gone : ℕ → Lists → List Event
group_gone g f = map row_gone (rows_of g f.rows) ++ factors_gone g f.composites ++ GroupGone g ∷ []

-- the rows that are made next
abbrev pub new_folder : List ℕ → List ℕ → Lists → FolderRow
new_folder folder display f = record {
  id = f.made.folders + 1;
  parent = home_id folder f;
  extension = extension_of folder;
  display = display;
}

abbrev pub new_subject : Entity → List ℕ → Lists → SubjectRow
new_subject subject display f = record {
  id = f.made.subjects + 1;
  text = person_text subject;
  display = display;
}

abbrev pub new_group : List ℕ → List ℕ → Lists → GroupRow
new_group group display f = record {
  id = f.made.groups + 1;
  folder = the_id (home_id group f);
  extension = extension_of group;
  display = display;
}

abbrev pub new_definition : List ℕ → Owners → Bool → DefKind → Bool → Lists → DefinitionRow
new_definition definition owners several kind many f = record {
  id = f.made.definitions + 1;
  folder = the_id (home_id definition f);
  extension = extension_of definition;
  owners = owners;
  several = several;
  kind = kind;
  many = many;
}

abbrev pub new_attribute : List ℕ → List ℕ → Lists → AttributeRow
new_attribute attribute definition f = record {
  id = f.made.attributes + 1;
  folder = the_id (home_id attribute f);
  extension = extension_of attribute;
  definition = the_id (definition_id definition f);
}

abbrev pub new_assign : List ℕ → Object → Lists → AssignRow
new_assign attribute o f = record {
  id = f.made.assigns + 1;
  attribute = the_id (attribute_id attribute f);
  owner = o;
  values = [];
}

abbrev pub new_job : List ℕ → Object → List ℕ → ℕ → ℕ → Lists → JobRow
new_job job target source min_size max_percent f = record {
  id = f.made.jobs + 1;
  name = job;
  target = target;
  source = source;
  min_size = min_size;
  max_percent = max_percent;
}

-- the grants on a group that is made: that of its maker, and those of rules by id, each once
abbrev pub new_groups_grants : Entity → List ℕ → Lists → List GrantRow
new_groups_grants by group f =
    let id = f.made.groups + 1 in
    let makers = makers_grant by (Group id) Admin f in
    makers ++ not_yet makers (creation_grants id (the_id (home_id group f)) f.folders f.rules)

-- ---- what a load makes happen: groups are made, rows of persons go, and rows of persons come

-- a group of this name is made, with no display text, and the grants on it
abbrev pub group_events : Entity → List ℕ → Lists → List Event
group_events by name f =
    GroupMade (new_group name [] f) ∷ grants_added (new_groups_grants by name f)

-- groups are made, each on the facts after those before
abbrev pub groups_events : Entity → List (List ℕ) → Lists → List Event
groups_events by [] f = []
groups_events by (name ∷ names) f =
    group_events by name f ++ groups_events by names (all_happened (group_events by name f) f)

-- the facts after groups are made
abbrev pub with_groups : Entity → List (List ℕ) → Lists → Lists
with_groups by names f = all_happened (groups_events by names f) f

-- the row that two names speak of
abbrev pub row_named : Lists → LoadRow → PersonRow
row_named f row = record {
  group = the_id (group_id row.group f);
  person = the_id (subject_id row.person f.subjects);
}

-- a row goes
abbrev pub row_goes : PersonRow → Event
row_goes row = RowRemoved row.group (Person row.person)

-- a row that comes at a moment has no end
abbrev pub new_row : ℕ → PersonRow → MemberRow
new_row at row = record { group = row.group; member = Person row.person; from = at; until = None }

abbrev pub row_comes : ℕ → PersonRow → Event
row_comes at row = RowAdded (new_row at row)

-- the rows of a load go and come
abbrev pub rows_events : ℕ → List PersonRow → List PersonRow → List Event
rows_events at removed added = map row_goes removed ++ map (row_comes at) added

-- the events of a load that acts at a moment, by a caller: its groups are made, then its rows go
-- and come; names are those of the facts with the groups
unfoldable pub load_events : ℕ → Entity → List (List ℕ) → List LoadRow → List LoadRow → Lists
    → List Event
load_events at by created removed added f =
    let g = with_groups by created f in
    groups_events by created f
    ++ rows_events at (map (row_named g) removed) (map (row_named g) added)

-- ---- what a command makes happen

-- whether a command is a load
abbrev pub is_load : Command → Bool
is_load (Load job created removed added) = true
is_load _ = false

-- the events of a command that acts at a moment, by a caller, in order
unfoldable pub events_of : ℕ → Entity → Command → Lists → List Event
events_of at by (FolderAdd folder display) f =
    FolderMade (new_folder folder display f)
    ∷ grants_added (makers_grant by (Folder (f.made.folders + 1)) StemAdmin f)
events_of at by (FolderRename folder extension) f =
    FolderRenamed (the_id (folder_id folder f)) extension ∷ []
events_of at by (FolderMove folder to) f =
    FolderMoved (the_id (folder_id folder f)) (the_id (folder_id to f)) ∷ []
events_of at by (FolderDelete folder) f = FolderGone (the_id (folder_id folder f)) ∷ []
events_of at by (SubjectAdd subject display) f = SubjectMade (new_subject subject display f) ∷ []
events_of at by (GroupAdd group display) f =
    GroupMade (new_group group display f) ∷ grants_added (new_groups_grants by group f)
events_of at by (GroupRename group extension) f =
    GroupRenamed (the_id (group_id group f)) extension ∷ []
events_of at by (GroupMove group to) f =
    GroupMoved (the_id (group_id group f)) (the_id (folder_id to f)) ∷ []
events_of at by (GroupDelete group) f = group_gone (the_id (group_id group f)) f
events_of at by (MemberAdd group member from until) f =
    on_member (λ m. RowAdded (record {
      group = the_id (group_id group f);
      member = m;
      from = from_or at from;
      until = until;
    })) (member_of member f)
events_of at by (MemberRemove group member) f =
    on_member (λ m. RowRemoved (the_id (group_id group f)) m) (member_of member f)
events_of at by (MemberWindow group member from until) f =
    on_member (λ m. RowRedated (the_id (group_id group f)) m (from_or at from) until)
    (member_of member f)
events_of at by (CompositeSet group kind left right) f =
    Composed (record {
      group = the_id (group_id group f);
      op = kind;
      left = the_id (group_id left f);
      right = the_id (group_id right f);
    }) ∷ []
events_of at by (CompositeClear group) f = Decomposed (the_id (group_id group f)) ∷ []
events_of at by (GrantAdd object privilege holder from until) f =
    on_grant (λ row. GrantAdded row)
    (grant_of object privilege holder (to_come at from) until f)
events_of at by (GrantRemove object privilege holder) f =
    on_grant (λ row. GrantRemoved row) (grant_of object privilege holder None None f)
events_of at by (InheritAdd folder kind scope privilege holder) f =
    on_inherit (λ row. InheritAdded row) (inherit_of folder kind scope privilege holder f)
events_of at by (InheritRemove folder kind scope privilege holder) f =
    on_inherit (λ row. InheritRemoved row) (inherit_of folder kind scope privilege holder f)
events_of at by (AttrdefAdd definition owners several kind many) f =
    DefinitionMade (new_definition definition owners several kind many f)
    ∷ grants_added (makers_grant by (Def (f.made.definitions + 1)) AttrAdmin f)
events_of at by (AttrdefDelete definition) f =
    DefinitionGone (the_id (definition_id definition f)) ∷ []
events_of at by (AttrAdd attribute definition) f =
    AttributeMade (new_attribute attribute definition f) ∷ []
events_of at by (AttrDelete attribute) f = AttributeGone (the_id (attribute_id attribute f)) ∷ []
events_of at by (AssignAdd attribute object) f =
    on_owner (λ o. AssignMade (new_assign attribute o f)) (object_of object f)
events_of at by (AssignRemove attribute object id) f = AssignGone id ∷ []
events_of at by (ValueAdd attribute object id value) f =
    on_value (λ v. ValueAdded id v) (value_of (the_id (attribute_id attribute f)) value f)
events_of at by (ValueRemove attribute object id value) f =
    on_value (λ v. ValueRemoved id v) (value_of (the_id (attribute_id attribute f)) value f)
events_of at by (RuleRemoveLost check owner) f =
    on_rule (f.made.rules + 1) (form_of (RuleRemoveLost check owner) f)
events_of at by (RuleEndLost check owner days) f =
    on_rule (f.made.rules + 1) (form_of (RuleEndLost check owner days) f)
events_of at by (RuleVeto owner condition) f =
    on_rule (f.made.rules + 1) (form_of (RuleVeto owner condition) f)
events_of at by (RuleOnCreate folder scope privilege holder) f =
    on_rule (f.made.rules + 1) (form_of (RuleOnCreate folder scope privilege holder) f)
events_of at by (RuleDelete id) f = RuleGone id ∷ []
events_of at by (JobSimple job group source min_size max_percent) f =
    JobMade (new_job job (Group (the_id (group_id group f))) source min_size max_percent f) ∷ []
events_of at by (JobList job folder source min_size max_percent) f =
    JobMade (new_job job (Folder (the_id (folder_id folder f))) source min_size max_percent f) ∷ []
events_of at by (JobDelete job) f = on_job (job_by job f.jobs)
events_of at by (Load job created removed added) f = load_events at by created removed added f
events_of at by (ConsumerAdd consumer) f =
    ConsumerAdded (record { name = consumer; place = 0 }) ∷ []
events_of at by (ConsumerAck consumer seq) f = ConsumerAcked consumer seq ∷ []

-- the facts after a command that acts at a moment, by a caller
abbrev pub edit : ℕ → Entity → Command → Lists → Lists
edit at by command f = all_happened (events_of at by command f) f
