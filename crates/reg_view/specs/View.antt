-- What a caller may see of the registry: all that an answer may tell. There are names in it, and of
-- ids those of assignments alone, which count all that were made; root is told of more. A hidden
-- group is named in it as a member, a factor or a holder, and nowhere else (`Knowing.antt`).
use Rattle.std.specs.Prelude.{ℕ, ◌++◌, List, [], Bool, true, false, Option, Some, None, map, filter}
use Rattle.reg_base.specs.Entities.{entity_of}
use Rattle.reg_base.specs.declared.privilege.Privilege.{Privilege}
use Rattle.reg_base.specs.declared.privilege.Privilege.TheVariants as privilege
use Rattle.reg_terms.specs.declared.kinds.Object.{Object}
use Rattle.reg_terms.specs.declared.kinds.Object.TheVariants as object
use Rattle.reg_terms.specs.declared.rows.FolderRow.{FolderRow}
use Rattle.reg_terms.specs.declared.rows.GroupRow.{GroupRow}
use Rattle.reg_terms.specs.declared.rows.SubjectRow.{SubjectRow}
use Rattle.reg_terms.specs.declared.rows.DefinitionRow.{DefinitionRow}
use Rattle.reg_terms.specs.declared.rows.AttributeRow.{AttributeRow}
use Rattle.reg_terms.specs.declared.rows.AssignRow.{AssignRow}
use Rattle.reg_terms.specs.declared.shown.AssignShown.{AssignShown}
use Rattle.reg_terms.specs.declared.shown.FactorsShown.{FactorsShown}
use Rattle.reg_terms.specs.declared.shown.GrantShown.{GrantShown}
use Rattle.reg_terms.specs.declared.shown.RowShown.{RowShown}
use Rattle.reg_terms.specs.declared.changes_shown.EntryShown.{EntryShown}
use Rattle.reg_terms.specs.declared.admin_shown.ConsumerShown.{ConsumerShown}
use Rattle.reg_terms.specs.declared.admin_shown.GoneShown.{GoneShown}
use Rattle.reg_terms.specs.declared.admin_shown.JobShown.{JobShown}
use Rattle.reg_terms.specs.declared.admin_shown.RuleShown.{RuleShown}
use Rattle.reg_facts.specs.Attributes.{assigns_on}
use Rattle.reg_facts.specs.Lists.{Lists}
use Rattle.reg_facts.specs.Naming.{name_of}
use Rattle.reg_facts.specs.RowOrder.{rows_of}
use Rattle.reg_effect.specs.declared.live.Live.{Live}
use Rattle.reg_priv.specs.declared.who.Who.{Who}
use Rattle.reg_priv.specs.declared.who.Who.TheVariants as who
use Rattle.reg_priv.specs.Holders.{holders}
use Rattle.reg_priv.specs.May.{is_root, may, visible, who_of}
use Rattle.reg_view.specs.Past.{Past, GroupPast, group_past, log_shown}
use Rattle.reg_view.specs.Powers.{powers_then}
use Rattle.reg_view.specs.Texts.{row_shown, composite_shown, grant_shown, assign_shown}
use Rattle.reg_view.specs.Texts.{consumer_shown, definition_name, gone_shown, job_shown, rule_shown}

-- ---- the record

-- a group that the caller sees
pub record GroupSeen : Type 0 where
  pub name : List ℕ
  pub display : List ℕ

-- an attribute that the caller sees, and its definition
pub record AttributeSeen : Type 0 where
  pub name : List ℕ
  pub definition : List ℕ

-- a group that the caller may read: its immediate memberships, its factors, and its past
pub record GroupRead : Type 0 where
  pub name : List ℕ
  pub rows : List RowShown
  pub composite : Option FactorsShown
  pub past : GroupPast

-- a group that is gone: the name that it had last, and its past
pub record GroupGone : Type 0 where
  pub name : List ℕ
  pub past : GroupPast

-- privileges, under the name or text of what has them
pub record Powers : Type 0 where
  pub name : List ℕ
  pub privileges : List Privilege

-- an object whose admin the caller is: the grants on it at the moment asked, and what GrouperSystem
-- and each person could do with it then
pub record Administered : Type 0 where
  pub name : List ℕ
  pub grants : List GrantShown
  pub system : List Privilege
  pub persons : List Powers

-- an owner whose attributes the caller may read, under its name or text: the assignments to it at
-- the moment asked on whose definition the caller has attrRead
pub record OwnerRead : Type 0 where
  pub name : List ℕ
  pub assignments : List AssignShown

-- what a caller may see; the owners are folders and groups, and the attributes of persons are told
-- to all; consumers, the log, the groups that are gone, loader jobs and rules are root's alone. A
-- subject has no grants and no privileges are on it, so it is among the objects of neither list of
-- privileges
pub record View : Type 0 where
  pub now : ℕ
  pub caller : List ℕ
  pub stands : Bool
  pub is_root : Bool
  pub folders : List (List ℕ)
  pub subjects : List (List ℕ)
  pub groups : List GroupSeen
  pub definitions : List (List ℕ)
  pub attributes : List AttributeSeen
  pub readable : List GroupRead
  pub administered : List Administered
  pub own : List Powers
  pub owners : List OwnerRead
  pub persons : List OwnerRead
  pub consumers : List ConsumerShown
  pub log : List EntryShown
  pub gone : List GroupGone
  pub gone_by_id : List GoneShown
  pub jobs : List JobShown
  pub rules : List RuleShown

-- who doesn't stand sees nothing
abbrev pub blank : ℕ → List ℕ → View
blank now by = record {
  now = now;
  caller = by;
  stands = false;
  is_root = false;
  folders = [];
  subjects = [];
  groups = [];
  definitions = [];
  attributes = [];
  readable = [];
  administered = [];
  own = [];
  owners = [];
  persons = [];
  consumers = [];
  log = [];
  gone = [];
  gone_by_id = [];
  jobs = [];
  rules = [];
}

-- ---- what it holds

-- the object that a row is of, kind by kind
abbrev pub folder_object : FolderRow → Object
folder_object row = object.Folder row.id

abbrev pub group_object : GroupRow → Object
group_object row = object.Group row.id

abbrev pub definition_object : DefinitionRow → Object
definition_object row = object.Def row.id

abbrev pub attribute_object : AttributeRow → Object
attribute_object row = object.Attr row.id

-- all objects that have names
abbrev pub objects : Lists → List Object
objects f =
    map folder_object f.folders ++ map group_object f.groups ++ map definition_object f.definitions
    ++ map attribute_object f.attributes

-- the rows whose objects pass a test, as they are shown
abbrev pub shown_where : {R A : Type 0} → (R → Object) → (Object → Bool) → (R → A) → List R → List A
shown_where object test show rows = map show (filter (λ r. test (object r)) rows)

-- whether the caller is the admin of an object: of a subject root is
abbrev pub is_admin : Live → Lists → Who → Object → Bool
is_admin L f c (object.Folder d) = may L f c (object.Folder d) privilege.StemAdmin
is_admin L f c (object.Group g) = may L f c (object.Group g) privilege.Admin
is_admin L f c (object.Def a) = may L f c (object.Def a) privilege.AttrAdmin
is_admin L f c (object.Attr a) = may L f c (object.Attr a) privilege.AttrAdmin
is_admin L f c (object.Subject s) = is_root L f c

-- whether the caller may read an object, as only a group can be
abbrev pub is_readable : Live → Lists → Who → Object → Bool
is_readable L f c o = may L f c o privilege.Read

-- a group and an attribute, as they are seen
abbrev pub group_seen : Lists → GroupRow → GroupSeen
group_seen f row = record { name = name_of (object.Group row.id) f; display = row.display }

abbrev pub attribute_seen : Lists → AttributeRow → AttributeSeen
attribute_seen f row = record {
  name = name_of (object.Attr row.id) f;
  definition = definition_name f row;
}

-- a group, as it is read: its past at a moment
abbrev pub group_read : Past → Lists → ℕ → GroupRow → GroupRead
group_read p f at row = record {
  name = name_of (object.Group row.id) f;
  rows = map (row_shown f) (rows_of row.id f.rows);
  composite = composite_shown row.id f;
  past = group_past p f at row.id;
}

-- a group that is gone: its past at a moment
abbrev pub group_gone : Past → Lists → ℕ → ℕ × List ℕ → GroupGone
group_gone p f at g = record { name = g.1; past = group_past p f at g.0 }

-- what root alone sees
abbrev pub for_root : {A : Type 0} → Bool → List A → List A
for_root true list = list
for_root false list = []

-- what someone could do with an object at a moment
abbrev pub powers_at : Past → Lists → ℕ → Who → Object → List Privilege
powers_at p f at c o = powers_then f at (p.facts at) c o

-- what a person could do with an object at a moment
abbrev pub person_powers : Past → Lists → ℕ → Object → SubjectRow → Powers
person_powers p f at o row = record {
  name = row.text;
  privileges = powers_at p f at (who.Person row.id) o;
}

-- an object, as its admin is told of it: the grants on it at a moment, and who could do what then
abbrev pub administered : Past → Lists → ℕ → Object → Administered
administered p f at o = record {
  name = name_of o f;
  grants = map (grant_shown p f) (holders o (p.facts at));
  system = powers_at p f at who.System o;
  persons = map (person_powers p f at o) f.subjects;
}

-- what the caller itself could do with an object at a moment
abbrev pub own_powers : Past → Lists → ℕ → Who → Object → Powers
own_powers p f at c o = record { name = name_of o f; privileges = powers_at p f at c o }

-- whether the caller may read the attributes of an owner: of a folder or a group by a privilege on
-- it, and of a person always; a definition and an attribute own none
abbrev pub reads_owner : Live → Lists → Who → Object → Bool
reads_owner L f c (object.Folder d) = may L f c (object.Folder d) privilege.StemAttrRead
reads_owner L f c (object.Group g) = may L f c (object.Group g) privilege.GroupAttrRead
reads_owner L f c (object.Def a) = false
reads_owner L f c (object.Attr a) = false
reads_owner L f c (object.Subject s) = true

-- whether the caller may read the assignments of an attribute: by attrRead now on the definition of
-- which it was made; on one that is gone root alone has it
abbrev pub reads_attribute : Past → Live → Lists → Who → ℕ → Bool
reads_attribute p L f c a =
    elim (p.def_of a) [ None ↦ false | Some d ↦ may L f c (object.Def d) privilege.AttrRead ]

-- of some assignments those that the caller may read
abbrev pub assigns_shown : Past → Live → Lists → Who → List AssignRow → List AssignShown
assigns_shown p L f c rows =
    map (assign_shown p) (filter (λ (row : AssignRow). reads_attribute p L f c row.attribute) rows)

-- those to an owner at a moment
abbrev pub owned : Past → Live → Lists → Who → ℕ → Object → List AssignShown
owned p L f c at o = assigns_shown p L f c (assigns_on o (p.facts at).assigns)

-- a folder or a group as an owner, and a person
abbrev pub owner_read : Past → Live → Lists → Who → ℕ → Object → OwnerRead
owner_read p L f c at o = record { name = name_of o f; assignments = owned p L f c at o }

abbrev pub person_read : Past → Live → Lists → Who → ℕ → SubjectRow → OwnerRead
person_read p L f c at row = record {
  name = row.text;
  assignments = owned p L f c at (object.Subject row.id);
}

-- what a caller that stands may see, of the past what was at a moment: whether it may see it is
-- judged now
abbrev pub seen_by : Past → Live → Lists → ℕ → ℕ → List ℕ → Who → View
seen_by p L f now at by c = record {
  now = now;
  caller = by;
  stands = true;
  is_root = is_root L f c;
  folders = shown_where folder_object (visible L f c)
      (λ (row : FolderRow). name_of (object.Folder row.id) f) f.folders;
  subjects = map (λ (row : SubjectRow). row.text) f.subjects;
  groups = shown_where group_object (visible L f c) (group_seen f) f.groups;
  definitions = shown_where definition_object (visible L f c)
      (λ (row : DefinitionRow). name_of (object.Def row.id) f) f.definitions;
  attributes = shown_where attribute_object (visible L f c) (attribute_seen f) f.attributes;
  readable = shown_where group_object (is_readable L f c) (group_read p f at) f.groups;
  administered = shown_where (λ (o : Object). o) (is_admin L f c) (administered p f at) (objects f);
  own = shown_where (λ (o : Object). o) (visible L f c) (own_powers p f at c) (objects f);
  owners = shown_where (λ (o : Object). o) (reads_owner L f c) (owner_read p L f c at) (objects f);
  persons = map (person_read p L f c at) f.subjects;
  consumers = for_root (is_root L f c) (map consumer_shown f.consumers);
  log = for_root (is_root L f c) (log_shown p);
  gone = for_root (is_root L f c) (map (group_gone p f at) p.gone);
  gone_by_id = for_root (is_root L f c) (map (gone_shown p) p.gone_by_id);
  jobs = for_root (is_root L f c) (map (job_shown f) f.jobs);
  rules = for_root (is_root L f c) (map (rule_shown p f) f.rules);
}

-- who has this text as a caller, if someone who stands has it
abbrev pub caller_of : List ℕ → Lists → Option Who
caller_of by f = elim (entity_of by) [ None ↦ None | Some e ↦ who_of e f ]

-- what is seen by a caller of this text where these are the facts and this was the past, which is
-- asked at a moment
abbrev pub view_of : Past → Live → Lists → ℕ → ℕ → List ℕ → View
view_of p L f now at by =
    elim (caller_of by f) [ None ↦ blank now by | Some c ↦ seen_by p L f now at by c ]
