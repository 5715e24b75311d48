-- What each command demands of its caller: privileges on the objects that it names, or root.
use Rattle.std.specs.Prelude.{ℕ, List, [], ◌∷◌, ◌++◌, Bool, true, false, Option, None, Some, codes}
use Rattle.std.specs.Prelude.{if◌then◌else◌}
use Rattle.std.specs.Str.{bytes_eq}
use Rattle.reg_base.specs.Entities.{entity_of}
use Rattle.reg_base.specs.declared.entity.Entity.{Entity}
use Rattle.reg_base.specs.declared.entity.Entity.TheVariants as entity
use Rattle.reg_base.specs.declared.privilege.Privilege.{Privilege}
use Rattle.reg_base.specs.declared.privilege.Privilege.TheVariants.{Admin, Update, Read, Optin}
use Rattle.reg_base.specs.declared.privilege.Privilege.TheVariants.{Optout, GroupAttrRead}
use Rattle.reg_base.specs.declared.privilege.Privilege.TheVariants.{GroupAttrUpdate, StemAdmin}
use Rattle.reg_base.specs.declared.privilege.Privilege.TheVariants.{Create, StemAttrRead}
use Rattle.reg_base.specs.declared.privilege.Privilege.TheVariants.{StemAttrUpdate, AttrAdmin}
use Rattle.reg_base.specs.declared.privilege.Privilege.TheVariants.{AttrUpdate}
use Rattle.reg_terms.specs.declared.command.Command.{Command}
use Rattle.reg_terms.specs.declared.command.Command.TheVariants.{FolderAdd, FolderRename}
use Rattle.reg_terms.specs.declared.command.Command.TheVariants.{FolderMove, FolderDelete}
use Rattle.reg_terms.specs.declared.command.Command.TheVariants.{SubjectAdd, GroupAdd, GroupRename}
use Rattle.reg_terms.specs.declared.command.Command.TheVariants.{GroupMove, GroupDelete, MemberAdd}
use Rattle.reg_terms.specs.declared.command.Command.TheVariants.{MemberRemove, MemberWindow}
use Rattle.reg_terms.specs.declared.command.Command.TheVariants.{CompositeSet, CompositeClear}
use Rattle.reg_terms.specs.declared.command.Command.TheVariants.{GrantAdd, GrantRemove, InheritAdd}
use Rattle.reg_terms.specs.declared.command.Command.TheVariants.{InheritRemove, AttrdefAdd}
use Rattle.reg_terms.specs.declared.command.Command.TheVariants.{AttrdefDelete, AttrAdd, AttrDelete}
use Rattle.reg_terms.specs.declared.command.Command.TheVariants.{AssignAdd, AssignRemove, ValueAdd}
use Rattle.reg_terms.specs.declared.command.Command.TheVariants.{ValueRemove, RuleRemoveLost}
use Rattle.reg_terms.specs.declared.command.Command.TheVariants.{RuleEndLost, RuleVeto}
use Rattle.reg_terms.specs.declared.command.Command.TheVariants.{RuleOnCreate, RuleDelete}
use Rattle.reg_terms.specs.declared.command.Command.TheVariants.{JobSimple, JobList, JobDelete}
use Rattle.reg_terms.specs.declared.command.Command.TheVariants.{Load, ConsumerAdd, ConsumerAck}
use Rattle.reg_terms.specs.declared.kinds.Object.{Object}
use Rattle.reg_terms.specs.declared.kinds.Object.TheVariants as object
use Rattle.reg_facts.specs.Attributes.{definition_id, attribute_id}
use Rattle.reg_facts.specs.Edits.{the_id}
use Rattle.reg_facts.specs.Grants.{object_of}
use Rattle.reg_facts.specs.Lists.{Lists}
use Rattle.reg_facts.specs.Naming.{folder_id, group_id, home_of, name_of}
use Rattle.reg_priv.specs.May.{judged}

-- a privilege that is demanded: on an object, which a denial tells by this name, or root
pub data Demand : Type 0 where
  On : List ℕ → Object → Privilege → Demand
  Root : Demand

-- on the folder of this name
abbrev pub on_folder : List ℕ → Privilege → Lists → Demand
on_folder name p f = On name (object.Folder (the_id (folder_id name f))) p

-- on the group of this name
abbrev pub on_group : List ℕ → Privilege → Lists → Demand
on_group name p f = On name (object.Group (the_id (group_id name f))) p

-- the member is the caller
abbrev pub is_self : Entity → Entity → Bool
is_self (entity.Person a) (entity.Person b) = bytes_eq a b
is_self entity.System entity.System = true
is_self _ _ = false

-- one privilege where the member is the caller, and another for others
abbrev pub own_or : Entity → Entity → Privilege → Privilege → Privilege
own_or by member own other = if is_self by member then own else other

-- on a group that is the member
abbrev pub on_member : Entity → Privilege → Lists → List Demand
on_member (entity.Person text) p f = []
on_member (entity.Group name) p f = on_group name p f ∷ []
on_member entity.System p f = []
on_member entity.Everyone p f = []

-- on the folder in which a folder stands; the root stands in none
abbrev pub on_home : List ℕ → Privilege → Lists → List Demand
on_home folder p f = if bytes_eq folder (codes ":") then [] else on_folder (home_of folder) p f ∷ []

-- the name of the group that a text names as an entity, and else the text
abbrev pub bare_text : Option Entity → List ℕ → List ℕ
bare_text (Some (entity.Group name)) text = name
bare_text (Some (entity.Person person)) text = text
bare_text (Some entity.System) text = text
bare_text (Some entity.Everyone) text = text
bare_text None text = text

-- on an attribute: what is asked of it is asked of its definition, which a denial names
abbrev pub on_attribute : ℕ → Privilege → Lists → Demand
on_attribute a p f = On (name_of (judged (object.Attr a) f) f) (object.Attr a) p

-- the administration of an object: of an attribute that of its definition, which a denial names,
-- and of a subject root
abbrev pub admin_of : List ℕ → Object → Lists → Demand
admin_of name (object.Folder d) f = On name (object.Folder d) StemAdmin
admin_of name (object.Group g) f = On name (object.Group g) Admin
admin_of name (object.Def a) f = On name (object.Def a) AttrAdmin
admin_of name (object.Attr a) f = on_attribute a AttrAdmin f
admin_of name (object.Subject s) f = Root

-- the administration of what was found; of an entity of the registry itself, which is no object, it
-- is root
abbrev pub admin_of_found : List ℕ → Option Object → Lists → Demand
admin_of_found name None f = Root
admin_of_found name (Some o) f = admin_of name o f

-- the administration of what a text names
abbrev pub on_object : List ℕ → Lists → Demand
on_object text f = admin_of_found (bare_text (entity_of text) text) (object_of text f) f

-- ---- attributes

-- on the definition of this name
abbrev pub on_definition : List ℕ → Privilege → Lists → Demand
on_definition name p f = On name (object.Def (the_id (definition_id name f))) p

-- one privilege on a folder and another on a group, that has a text as its name; all else has none
-- of the kind
abbrev pub on_named : List ℕ → Option Object → Privilege → Privilege → List Demand
on_named name (Some (object.Folder d)) p q = On name (object.Folder d) p ∷ []
on_named name (Some (object.Group g)) p q = On name (object.Group g) q ∷ []
on_named name (Some (object.Def a)) p q = []
on_named name (Some (object.Attr a)) p q = []
on_named name (Some (object.Subject s)) p q = []
on_named name None p q = []

-- the same on what a text names, of which this was found; of an entity nothing is asked: a person
-- is of no such kind, and a group owns attributes by its name alone
abbrev pub on_owner : Option Entity → List ℕ → Option Object → Privilege → Privilege → List Demand
on_owner (Some e) text found p q = []
on_owner None text found p q = on_named text found p q

-- to assign an attribute and to change what is assigned: on the owner, and on the attribute's
-- definition
abbrev pub on_assignment : List ℕ → List ℕ → Lists → List Demand
on_assignment attribute object f =
    on_owner (entity_of object) object (object_of object f) StemAttrUpdate GroupAttrUpdate
    ++ on_attribute (the_id (attribute_id attribute f)) AttrUpdate f ∷ []

-- ---- commands

-- what a command demands, in order
abbrev pub demands : Entity → Command → Lists → List Demand
demands by (FolderAdd folder display) f = on_folder (home_of folder) Create f ∷ []
demands by (FolderRename folder extension) f =
    on_folder folder StemAdmin f ∷ on_home folder Create f
demands by (FolderMove folder to) f = on_folder folder StemAdmin f ∷ on_folder to Create f ∷ []
demands by (FolderDelete folder) f = on_folder folder StemAdmin f ∷ []
demands by (SubjectAdd subject display) f = Root ∷ []
demands by (GroupAdd group display) f = on_folder (home_of group) Create f ∷ []
demands by (GroupRename group extension) f =
    on_group group Admin f ∷ on_folder (home_of group) Create f ∷ []
demands by (GroupMove group to) f = on_group group Admin f ∷ on_folder to Create f ∷ []
demands by (GroupDelete group) f = on_group group Admin f ∷ []
demands by (MemberAdd group member from until) f =
    on_group group (own_or by member Optin Update) f ∷ on_member member Read f
demands by (MemberRemove group member) f = on_group group (own_or by member Optout Update) f ∷ []
demands by (MemberWindow group member from until) f = on_group group Update f ∷ []
demands by (CompositeSet group kind left right) f =
    on_group group Update f ∷ on_group left Read f ∷ on_group right Read f ∷ []
demands by (CompositeClear group) f = on_group group Update f ∷ []
demands by (GrantAdd object privilege holder from until) f = on_object object f ∷ []
demands by (GrantRemove object privilege holder) f = on_object object f ∷ []
demands by (InheritAdd folder kind scope privilege holder) f = on_folder folder StemAdmin f ∷ []
demands by (InheritRemove folder kind scope privilege holder) f = on_folder folder StemAdmin f ∷ []
demands by (AttrdefAdd definition owners several kind many) f =
    on_folder (home_of definition) Create f ∷ []
demands by (AttrdefDelete definition) f = on_definition definition AttrAdmin f ∷ []
demands by (AttrAdd attribute definition) f =
    on_folder (home_of attribute) Create f ∷ on_definition definition AttrAdmin f ∷ []
demands by (AttrDelete attribute) f =
    on_attribute (the_id (attribute_id attribute f)) AttrAdmin f ∷ []
demands by (AssignAdd attribute object) f = on_assignment attribute object f
demands by (AssignRemove attribute object id) f = on_assignment attribute object f
demands by (ValueAdd attribute object id value) f = on_assignment attribute object f
demands by (ValueRemove attribute object id value) f = on_assignment attribute object f
demands by (RuleRemoveLost check owner) f = Root ∷ []
demands by (RuleEndLost check owner days) f = Root ∷ []
demands by (RuleVeto owner condition) f = Root ∷ []
demands by (RuleOnCreate folder scope privilege holder) f = Root ∷ []
demands by (RuleDelete id) f = Root ∷ []
demands by (JobSimple job group source min_size max_percent) f = Root ∷ []
demands by (JobList job folder source min_size max_percent) f = Root ∷ []
demands by (JobDelete job) f = Root ∷ []
demands by (Load job created removed added) f = Root ∷ []
demands by (ConsumerAdd consumer) f = Root ∷ []
demands by (ConsumerAck consumer seq) f = Root ∷ []
