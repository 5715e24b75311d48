-- What refuses a command before all else: no caller, then what isn't found or isn't seen, then a
-- demand that isn't met.
use Rattle.std.specs.Prelude.{ℕ, ◌&&◌, ◌++◌, List, [], ◌∷◌, Bool, true, false, not, Option, None}
use Rattle.std.specs.Prelude.{Some, map, codes, is_some, option_map, if◌then◌else◌}
use Rattle.reg_base.specs.Entities.{entity_of}
use Rattle.reg_base.specs.declared.entity.Entity.{Entity}
use Rattle.reg_base.specs.declared.entity.Entity.TheVariants as entity
use Rattle.reg_base.specs.declared.privilege.Privilege.TheVariants.{View}
use Rattle.reg_terms.specs.Privileges.{line_of}
use Rattle.reg_terms.specs.declared.command.Command.{Command}
use Rattle.reg_terms.specs.declared.command.Command.TheVariants.{FolderAdd, FolderRename}
use Rattle.reg_terms.specs.declared.command.Command.TheVariants.{FolderMove, FolderDelete}
use Rattle.reg_terms.specs.declared.command.Command.TheVariants.{SubjectAdd, GroupAdd, GroupRename}
use Rattle.reg_terms.specs.declared.command.Command.TheVariants.{GroupMove, GroupDelete, MemberAdd}
use Rattle.reg_terms.specs.declared.command.Command.TheVariants.{MemberRemove, MemberWindow}
use Rattle.reg_terms.specs.declared.command.Command.TheVariants.{CompositeSet, CompositeClear}
use Rattle.reg_terms.specs.declared.command.Command.TheVariants.{GrantAdd, GrantRemove, InheritAdd}
use Rattle.reg_terms.specs.declared.command.Command.TheVariants.{InheritRemove, AttrdefAdd}
use Rattle.reg_terms.specs.declared.command.Command.TheVariants.{AttrdefDelete, AttrAdd, AttrDelete}
use Rattle.reg_terms.specs.declared.command.Command.TheVariants.{AssignAdd, AssignRemove, ValueAdd}
use Rattle.reg_terms.specs.declared.command.Command.TheVariants.{ValueRemove, RuleRemoveLost}
use Rattle.reg_terms.specs.declared.command.Command.TheVariants.{RuleEndLost, RuleVeto}
use Rattle.reg_terms.specs.declared.command.Command.TheVariants.{RuleOnCreate, RuleDelete}
use Rattle.reg_terms.specs.declared.command.Command.TheVariants.{JobSimple, JobList, JobDelete}
use Rattle.reg_terms.specs.declared.command.Command.TheVariants.{Load, ConsumerAdd, ConsumerAck}
use Rattle.reg_terms.specs.declared.kinds.Member.{Member}
use Rattle.reg_terms.specs.declared.kinds.Member.TheVariants as member
use Rattle.reg_terms.specs.declared.kinds.Object.{Object}
use Rattle.reg_terms.specs.declared.kinds.Object.TheVariants as object
use Rattle.reg_terms.specs.declared.refusal.Refusal.{Refusal}
use Rattle.reg_terms.specs.declared.refusal.Refusal.TheVariants.{NoCaller, NotFound, Denied}
use Rattle.reg_terms.specs.declared.rows.GrantRow.{GrantRow}
use Rattle.reg_terms.specs.declared.rows.InheritRow.{InheritRow}
use Rattle.reg_facts.specs.Attributes.{definition_id, attribute_id}
use Rattle.reg_facts.specs.Consumers.{consumer_place}
use Rattle.reg_facts.specs.Edits.{the_id, member_of, has_member}
use Rattle.reg_facts.specs.Grants.{has_grant, has_inherit, entity_object, object_of, grant_of}
use Rattle.reg_facts.specs.Grants.{inherit_of}
use Rattle.reg_facts.specs.Jobs.{job_by}
use Rattle.reg_facts.specs.Lists.{Lists}
use Rattle.reg_facts.specs.Naming.{folder_id, group_id, home_of}
use Rattle.reg_effect.specs.declared.live.Live.{Live}
use Rattle.reg_priv.specs.declared.who.Who.{Who}
use Rattle.reg_priv.specs.May.{who_of, is_root, may, visible}
use Rattle.reg_demand.specs.Demands.{Demand, On, Root, bare_text, demands}

-- a test, and the refusal where it holds
abbrev pub Check : Type 0
Check = Bool × Refusal

-- the first refusal whose test holds
abbrev pub first_of : List Check → Option Refusal
first_of [] = None
first_of (check ∷ more) = if check.0 then Some check.1 else first_of more

-- ---- what isn't met

-- a demand that isn't met
abbrev pub denial : Live → Lists → Who → Demand → Check
denial L f c (On name o p) = (not (may L f c o p), Denied name (line_of p).name)
denial L f c Root = (not (is_root L f c), Denied (codes ":") (codes "ROOT"))

-- ---- what isn't found

-- no folder has the name
abbrev pub no_folder : List ℕ → Lists → Check
no_folder folder f = (not (is_some (folder_id folder f)), NotFound folder)

-- no group was found, or the caller doesn't see it
abbrev pub is_unseen : Live → Lists → Who → Option ℕ → Bool
is_unseen L f c None = true
is_unseen L f c (Some g) = not (may L f c (object.Group g) View)

-- no group that the caller sees has the name
abbrev pub no_group : Live → Lists → Who → List ℕ → Check
no_group L f c group = (is_unseen L f c (group_id group f), NotFound group)

-- no object was found, or the caller doesn't see it
abbrev pub is_hidden : Live → Lists → Who → Option Object → Bool
is_hidden L f c None = true
is_hidden L f c (Some o) = not (visible L f c o)

-- the object that a member is
abbrev pub as_object : Option Member → Option Object
as_object None = None
as_object (Some (member.Person s)) = Some (object.Subject s)
as_object (Some (member.Group g)) = Some (object.Group g)

-- no definition that the caller sees has the name
abbrev pub no_definition : Live → Lists → Who → List ℕ → Check
no_definition L f c definition = (
  is_hidden L f c (option_map (λ a. object.Def a) (definition_id definition f)),
  NotFound definition,
)

-- no attribute that the caller sees has the name
abbrev pub no_attribute : Live → Lists → Who → List ℕ → Check
no_attribute L f c attribute = (
  is_hidden L f c (option_map (λ a. object.Attr a) (attribute_id attribute f)),
  NotFound attribute,
)

-- an entity of the registry itself, which always stands
abbrev pub is_internal : Entity → Bool
is_internal (entity.Person text) = false
is_internal (entity.Group name) = false
is_internal entity.System = true
is_internal entity.Everyone = true

-- a text that names an entity names one of the registry itself
abbrev pub names_internal : Option Entity → Bool
names_internal None = false
names_internal (Some e) = is_internal e

-- a text names no object that the caller sees
abbrev pub is_missing_object : Live → Lists → Who → List ℕ → Option Object → Bool
is_missing_object L f c text found = is_hidden L f c found && not (names_internal (entity_of text))

abbrev pub no_object : Live → Lists → Who → List ℕ → Check
no_object L f c text =
    (is_missing_object L f c text (object_of text f), NotFound (bare_text (entity_of text) text))

-- the text of a person, and the name of a group
abbrev pub named_text : Entity → List ℕ
named_text (entity.Person text) = text
named_text (entity.Group name) = name
named_text entity.System = []
named_text entity.Everyone = []

-- an entity is no person that stands, and no group that the caller sees
abbrev pub is_missing : Live → Lists → Who → Entity → Bool
is_missing L f c e = not (is_internal e) && is_hidden L f c (entity_object e f)

abbrev pub no_entity : Live → Lists → Who → Entity → Check
no_entity L f c e = (is_missing L f c e, NotFound (named_text e))

-- the same, but an entity counts as found where what is asked for stands
abbrev pub no_entity_but : Bool → Live → Lists → Who → Entity → Check
no_entity_but stands L f c e = (not stands && is_missing L f c e, NotFound (named_text e))

-- whether the membership that a command speaks of stands
abbrev pub row_stands : Option ℕ → Entity → Lists → Bool
row_stands group member f = has_member (the_id group) (member_of member f) f.rows

-- whether the grant that a command speaks of stands, on or not
abbrev pub grant_stands : Option GrantRow → Lists → Bool
grant_stands None f = false
grant_stands (Some row) f = has_grant row f.grants

-- whether the inherit that a command speaks of stands
abbrev pub inherit_stands : Option InheritRow → Lists → Bool
inherit_stands None f = false
inherit_stands (Some row) f = has_inherit row f.inherits

-- no consumer of the change log has the name, or the caller isn't root, who alone sees them
abbrev pub no_consumer : Live → Lists → Who → List ℕ → Check
no_consumer L f c consumer =
    (not (is_root L f c && is_some (consumer_place consumer f.consumers)), NotFound consumer)

-- no loader job has the name, or the caller isn't root, who alone sees them
abbrev pub no_job : Live → Lists → Who → List ℕ → Check
no_job L f c job = (not (is_root L f c && is_some (job_by job f.jobs)), NotFound job)

-- what isn't found, by the fields of a command in order; for a new name it is its folder
abbrev pub not_found : Live → Lists → Who → Command → List Check
not_found L f c (FolderAdd folder display) = no_folder (home_of folder) f ∷ []
not_found L f c (FolderRename folder extension) = no_folder folder f ∷ []
not_found L f c (FolderMove folder to) = no_folder folder f ∷ no_folder to f ∷ []
not_found L f c (FolderDelete folder) = no_folder folder f ∷ []
not_found L f c (SubjectAdd subject display) = []
not_found L f c (GroupAdd group display) = no_folder (home_of group) f ∷ []
not_found L f c (GroupRename group extension) = no_group L f c group ∷ []
not_found L f c (GroupMove group to) = no_group L f c group ∷ no_folder to f ∷ []
not_found L f c (GroupDelete group) = no_group L f c group ∷ []
not_found L f c (MemberAdd group member from until) =
    no_group L f c group ∷ no_entity L f c member ∷ []
not_found L f c (MemberRemove group member) =
    no_group L f c group ∷ no_entity_but (row_stands (group_id group f) member f) L f c member ∷ []
not_found L f c (MemberWindow group member from until) =
    no_group L f c group ∷ no_entity_but (row_stands (group_id group f) member f) L f c member ∷ []
not_found L f c (CompositeSet group kind left right) =
    no_group L f c group ∷ no_group L f c left ∷ no_group L f c right ∷ []
not_found L f c (CompositeClear group) = no_group L f c group ∷ []
not_found L f c (GrantAdd object privilege holder from until) =
    no_object L f c object ∷ no_entity L f c holder ∷ []
not_found L f c (GrantRemove object privilege holder) =
    no_object L f c object ∷ no_entity_but
    (grant_stands (grant_of object privilege holder None None f) f) L f c holder ∷ []
not_found L f c (InheritAdd folder kind scope privilege holder) =
    no_folder folder f ∷ no_entity L f c holder ∷ []
not_found L f c (InheritRemove folder kind scope privilege holder) =
    no_folder folder f ∷ no_entity_but
    (inherit_stands (inherit_of folder kind scope privilege holder f) f) L f c holder ∷ []
not_found L f c (AttrdefAdd definition owners several kind many) =
    no_folder (home_of definition) f ∷ []
not_found L f c (AttrdefDelete definition) = no_definition L f c definition ∷ []
not_found L f c (AttrAdd attribute definition) =
    no_folder (home_of attribute) f ∷ no_definition L f c definition ∷ []
not_found L f c (AttrDelete attribute) = no_attribute L f c attribute ∷ []
not_found L f c (AssignAdd attribute object) =
    no_attribute L f c attribute ∷ no_object L f c object ∷ []
not_found L f c (AssignRemove attribute object id) =
    no_attribute L f c attribute ∷ no_object L f c object ∷ []
not_found L f c (ValueAdd attribute object id value) =
    no_attribute L f c attribute ∷ no_object L f c object ∷ []
not_found L f c (ValueRemove attribute object id value) =
    no_attribute L f c attribute ∷ no_object L f c object ∷ []
not_found L f c (RuleRemoveLost check owner) = no_group L f c check ∷ no_group L f c owner ∷ []
not_found L f c (RuleEndLost check owner days) = no_group L f c check ∷ no_group L f c owner ∷ []
not_found L f c (RuleVeto owner condition) = no_group L f c owner ∷ no_group L f c condition ∷ []
not_found L f c (RuleOnCreate folder scope privilege holder) =
    no_folder folder f ∷ no_entity L f c holder ∷ []
not_found L f c (RuleDelete id) = []
not_found L f c (JobSimple job group source min_size max_percent) = no_group L f c group ∷ []
not_found L f c (JobList job folder source min_size max_percent) = no_folder folder f ∷ []
not_found L f c (JobDelete job) = no_job L f c job ∷ []
not_found L f c (Load job created removed added) = no_job L f c job ∷ []
not_found L f c (ConsumerAdd consumer) = []
not_found L f c (ConsumerAck consumer seq) = no_consumer L f c consumer ∷ []

-- ---- both, and who may call

-- what may refuse a command of a caller that stands before all else: what isn't found, and then the
-- demands
abbrev pub barred : Live → Lists → Entity → Who → Command → List Check
barred L f by c command = not_found L f c command ++ map (denial L f c) (demands by command f)

-- the refusal that comes before all else, if one does: an entity that is no caller is refused at
-- once
abbrev pub refused_as : Option Who → Live → Lists → Entity → Command → Option Refusal
refused_as None L f by command = Some NoCaller
refused_as (Some c) L f by command = first_of (barred L f by c command)

abbrev pub refused : Live → Lists → Entity → Command → Option Refusal
refused L f by command = refused_as (who_of by f) L f by command
