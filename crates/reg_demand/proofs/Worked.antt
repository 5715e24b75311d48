-- Worked examples computed: an inherited privilege is lost with a move out of its scope, what isn't seen comes before what is lacked, and a holder that isn't seen counts as found where its grant stands.
use Rattle.std.proofs.Common.{◌≡◌, List, [], ◌∷◌, Option, Some, None, codes, refl, true, false}
use Rattle.reg_base.specs.Entities.{entity_of}
use Rattle.reg_base.specs.NameParts.{extension_of, folder_of}
use Rattle.reg_base.specs.declared.entity.Entity.{Entity}
use Rattle.reg_base.specs.declared.entity.Entity.TheVariants as entity
use Rattle.reg_base.specs.declared.privilege.Privilege.TheVariants as privilege
use Rattle.reg_terms.specs.declared.command.Command.{Command}
use Rattle.reg_terms.specs.declared.command.Command.TheVariants.{FolderAdd, FolderRename, FolderMove, GroupAdd, GroupRename, SubjectAdd, MemberAdd, MemberRemove, GrantAdd, GrantRemove, InheritAdd, RuleVeto, RuleDelete, ConsumerAdd, ConsumerAck, JobSimple, JobList, JobDelete, Load, AttrdefAdd, AttrAdd, AttrDelete, AssignAdd, ValueAdd}
use Rattle.reg_terms.specs.declared.kinds.DefKind.TheVariants as values
use Rattle.reg_terms.specs.declared.kinds.InheritKind.TheVariants as kind
use Rattle.reg_terms.specs.declared.kinds.Owners.{Owners}
use Rattle.reg_terms.specs.declared.kinds.Scope.TheVariants as scope
use Rattle.reg_terms.specs.declared.kinds.Value.TheVariants as given
use Rattle.reg_terms.specs.declared.refusal.Refusal.{Refusal}
use Rattle.reg_terms.specs.declared.refusal.Refusal.TheVariants.{NoCaller, NotFound, Denied}
use Rattle.reg_facts.specs.Events.{edit, events_of}
use Rattle.reg_facts.specs.Grants.{object_of}
use Rattle.reg_facts.specs.Lists.{Lists, start}
use Rattle.reg_facts.specs.Naming.{resolve, placed, lies_in, path, extensions, name_of}
use Rattle.reg_effect.specs.Changes.{live_of}
use Rattle.reg_effect.specs.Member.{member}
use Rattle.reg_priv.specs.declared.who.Who.TheVariants as who
use Rattle.reg_demand.specs.Refusing.{refused}

-- the facts after some commands of the registry itself
abbrev after : List Command → Lists → Lists
after [] f = f
after (c ∷ cs) f = after cs (edit 0 entity.System c f)

pub bob : Entity
bob = entity.Person (codes "uni/bob")

pub ann : Entity
ann = entity.Person (codes "uni/ann")

-- what refuses a command of bob
abbrev of_bob : Lists → Command → Option Refusal
of_bob f c = refused (live_of 0 f.rows f.composites) f bob c

-- bob may update all groups at any depth below app, and everyone sees the group
pub folders : Lists
folders =
    after
    (FolderAdd (codes "app") []
    ∷ FolderAdd (codes "app:web") []
    ∷ FolderAdd (codes "old") []
    ∷ GroupAdd (codes "app:web:admins") []
    ∷ SubjectAdd bob []
    ∷ SubjectAdd ann []
    ∷ InheritAdd (codes "app") kind.Group scope.Sub privilege.Update bob
    ∷ GrantAdd (codes "app:web:admins") privilege.View entity.Everyone None None
    ∷ [])
    start

pub inherited_privilege_serves : of_bob folders (MemberAdd (codes "app:web:admins") ann None None) ≡ None
unfolding folders bob ann events_of object_of resolve placed lies_in member extension_of folder_of
inherited_privilege_serves = refl

pub moved : Lists
moved = after (MemberAdd (codes "app:web:admins") ann None None ∷ FolderMove (codes "app:web") (codes "old") ∷ []) folders

pub inherited_privilege_is_lost : of_bob moved (MemberRemove (codes "old:web:admins") ann) ≡ Some (Denied (codes "old:web:admins") (codes "UPDATE"))
unfolding moved folders bob ann events_of object_of resolve placed lies_in member extension_of folder_of
inherited_privilege_is_lost = refl

-- of oneself another privilege is told
pub own_membership : of_bob moved (MemberRemove (codes "old:web:admins") bob) ≡ Some (Denied (codes "old:web:admins") (codes "OPTOUT"))
unfolding moved folders bob ann events_of object_of resolve placed lies_in member extension_of folder_of
own_membership = refl

pub denied_where_seen : of_bob moved (GroupRename (codes "old:web:admins") (codes "x")) ≡ Some (Denied (codes "old:web:admins") (codes "ADMIN"))
unfolding moved folders bob ann events_of object_of resolve placed lies_in member extension_of folder_of
denied_where_seen = refl

pub hidden : Lists
hidden = after (GrantRemove (codes "app:web:admins") privilege.View entity.Everyone ∷ FolderMove (codes "app:web") (codes "old") ∷ []) folders

-- of a group that isn't seen nothing else is told, whatever it is called by
pub unseen_before_denied : of_bob hidden (GroupRename (codes "old:web:admins") (codes "x")) ≡ Some (NotFound (codes "old:web:admins"))
unfolding hidden folders bob ann events_of object_of resolve placed lies_in member extension_of folder_of
unseen_before_denied = refl

pub unseen_by_entity : of_bob hidden (GrantAdd (codes "g:gsa/old:web:admins") privilege.Read bob None None) ≡ Some (NotFound (codes "old:web:admins"))
unfolding hidden folders bob ann events_of object_of entity_of resolve placed lies_in member extension_of folder_of
unseen_by_entity = refl

-- bob administers the group; a group that bob doesn't see is granted one privilege on it and not another
pub administered : Lists
administered =
    after
    (GrantAdd (codes "app:web:admins") privilege.Admin bob None None
    ∷ GroupAdd (codes "secret") []
    ∷ GrantAdd (codes "app:web:admins") privilege.View (entity.Group (codes "secret")) None None
    ∷ [])
    folders

pub unseen_holder_is_found : of_bob administered (GrantRemove (codes "app:web:admins") privilege.View (entity.Group (codes "secret"))) ≡ None
unfolding administered folders bob ann events_of object_of resolve placed lies_in member extension_of folder_of
unseen_holder_is_found = refl

pub unseen_holder_is_not_found : of_bob administered (GrantRemove (codes "app:web:admins") privilege.Read (entity.Group (codes "secret"))) ≡ Some (NotFound (codes "secret"))
unfolding administered folders bob ann events_of object_of resolve placed lies_in member extension_of folder_of
unseen_holder_is_not_found = refl

-- bob and a group that bob doesn't see are granted something from a moment on: until then it serves nothing, and it stands
pub promised : Lists
promised =
    after
    (GroupAdd (codes "secret") []
    ∷ GrantAdd (codes "app:web:admins") privilege.Admin bob (Some 5) None
    ∷ GrantAdd (codes "app:web:admins") privilege.View (entity.Group (codes "secret")) (Some 5) None
    ∷ [])
    folders

pub to_come_serves_nothing : of_bob promised (GroupRename (codes "app:web:admins") (codes "x")) ≡ Some (Denied (codes "app:web:admins") (codes "ADMIN"))
unfolding promised folders bob ann events_of object_of resolve placed lies_in member extension_of folder_of
to_come_serves_nothing = refl

pub to_come_is_found : of_bob promised (GrantRemove (codes "app:web:admins") privilege.View (entity.Group (codes "secret"))) ≡ Some (Denied (codes "app:web:admins") (codes "ADMIN"))
unfolding promised folders bob ann events_of object_of entity_of resolve placed lies_in member extension_of folder_of
to_come_is_found = refl

-- of the root no parent is asked, and of the registry itself only root may administer it
pub root_has_no_parent : of_bob folders (FolderRename (codes ":") (codes "x")) ≡ Some (Denied (codes ":") (codes "stemAdmin"))
unfolding folders bob ann events_of object_of resolve placed lies_in member extension_of folder_of
root_has_no_parent = refl

pub internal_is_for_root : of_bob folders (GrantAdd (codes "g:isa/GrouperAll") privilege.Read bob None None) ≡ Some (Denied (codes ":") (codes "ROOT"))
unfolding folders bob ann events_of object_of entity_of resolve placed lies_in member extension_of folder_of
internal_is_for_root = refl

-- consumers of the change log are made and seen by root alone
pub fed : Lists
fed = after (ConsumerAdd (codes "feed") ∷ []) folders

pub consumer_is_for_root : of_bob fed (ConsumerAdd (codes "more")) ≡ Some (Denied (codes ":") (codes "ROOT"))
unfolding fed folders bob ann events_of object_of resolve placed lies_in member extension_of folder_of
consumer_is_for_root = refl

pub consumer_is_hidden : of_bob fed (ConsumerAck (codes "feed") 0) ≡ Some (NotFound (codes "feed"))
unfolding fed folders bob ann events_of object_of resolve placed lies_in member extension_of folder_of
consumer_is_hidden = refl

pub root_finds_it : refused (live_of 0 fed.rows fed.composites) fed entity.System (ConsumerAck (codes "feed") 0) ≡ None
unfolding fed folders bob ann events_of object_of resolve placed lies_in member extension_of folder_of
root_finds_it = refl

pub root_finds_no_other : refused (live_of 0 fed.rows fed.composites) fed entity.System (ConsumerAck (codes "none") 0) ≡ Some (NotFound (codes "none"))
unfolding fed folders bob ann events_of object_of resolve placed lies_in member extension_of folder_of
root_finds_no_other = refl

-- rules are for root alone, and what they name is looked for first
pub rule_is_for_root : of_bob folders (RuleVeto (codes "app:web:admins") (codes "app:web:admins")) ≡ Some (Denied (codes ":") (codes "ROOT"))
unfolding folders bob ann events_of object_of resolve placed lies_in member extension_of folder_of
rule_is_for_root = refl

pub unseen_before_root : of_bob hidden (RuleVeto (codes "old:web:admins") (codes "old:web:admins")) ≡ Some (NotFound (codes "old:web:admins"))
unfolding hidden folders bob ann events_of object_of resolve placed lies_in member extension_of folder_of
unseen_before_root = refl

pub rule_goes_by_root : of_bob folders (RuleDelete 1) ≡ Some (Denied (codes ":") (codes "ROOT"))
unfolding folders bob ann events_of object_of resolve placed lies_in member extension_of folder_of
rule_goes_by_root = refl

-- loader jobs are made and seen by root alone, and what a new one names is looked for first
pub loaded : Lists
loaded = after (JobSimple (codes "nightly") (codes "app:web:admins") (codes "uni") 1 20 ∷ []) folders

pub job_is_for_root : of_bob folders (JobSimple (codes "nightly") (codes "app:web:admins") (codes "uni") 1 20) ≡ Some (Denied (codes ":") (codes "ROOT"))
unfolding folders bob ann events_of object_of resolve placed lies_in member extension_of folder_of
job_is_for_root = refl

pub unseen_before_job : of_bob hidden (JobSimple (codes "nightly") (codes "old:web:admins") (codes "uni") 1 20) ≡ Some (NotFound (codes "old:web:admins"))
unfolding hidden folders bob ann events_of object_of resolve placed lies_in member extension_of folder_of
unseen_before_job = refl

pub no_folder_before_job : of_bob folders (JobList (codes "nightly") (codes "none") (codes "uni") 1 20) ≡ Some (NotFound (codes "none"))
unfolding folders bob ann events_of object_of resolve placed lies_in member extension_of folder_of
no_folder_before_job = refl

pub job_is_hidden : of_bob loaded (JobDelete (codes "nightly")) ≡ Some (NotFound (codes "nightly"))
unfolding loaded folders bob ann events_of object_of resolve placed lies_in member extension_of folder_of
job_is_hidden = refl

pub root_finds_job : refused (live_of 0 loaded.rows loaded.composites) loaded entity.System (JobDelete (codes "nightly")) ≡ None
unfolding loaded folders bob ann events_of object_of resolve placed lies_in member extension_of folder_of
root_finds_job = refl

-- and used by root alone
pub load_is_hidden : of_bob loaded (Load (codes "nightly") [] [] []) ≡ Some (NotFound (codes "nightly"))
unfolding loaded folders bob ann events_of object_of resolve placed lies_in member extension_of folder_of
load_is_hidden = refl

pub root_finds_job_to_load : refused (live_of 0 loaded.rows loaded.composites) loaded entity.System (Load (codes "nightly") [] [] []) ≡ None
unfolding loaded folders bob ann events_of object_of resolve placed lies_in member extension_of folder_of
root_finds_job_to_load = refl

pub root_finds_no_other_job : refused (live_of 0 loaded.rows loaded.composites) loaded entity.System (JobDelete (codes "none")) ≡ Some (NotFound (codes "none"))
unfolding loaded folders bob ann events_of object_of resolve placed lies_in member extension_of folder_of
root_finds_no_other_job = refl

-- who doesn't stand is told nothing
pub no_caller : refused (live_of 0 folders.rows folders.composites) folders (entity.Person (codes "uni/eve")) (GroupRename (codes "none") (codes "x")) ≡ Some NoCaller
unfolding folders bob ann events_of object_of resolve placed lies_in member extension_of folder_of
no_caller = refl

-- a definition and an attribute of it; bob sees both, and may make objects below app
pub owners : Owners
owners = record { folder = true; group = true; subject = true }

pub noted : Lists
noted =
    after
    (AttrdefAdd (codes "app:note") owners true values.Text false
    ∷ AttrAdd (codes "app:first") (codes "app:note")
    ∷ GrantAdd (codes "app:note") privilege.AttrView bob None None
    ∷ GrantAdd (codes "app") privilege.Create bob None None
    ∷ [])
    folders

pub attribute_asks_its_definition : of_bob noted (AttrAdd (codes "app:second") (codes "app:note")) ≡ Some (Denied (codes "app:note") (codes "attrAdmin"))
unfolding noted owners folders bob ann events_of object_of resolve placed lies_in member extension_of folder_of
attribute_asks_its_definition = refl

-- of an attribute a denial names the definition
pub definition_is_named : of_bob noted (AttrDelete (codes "app:first")) ≡ Some (Denied (codes "app:note") (codes "attrAdmin"))
unfolding noted owners folders bob ann events_of object_of resolve placed lies_in member extension_of folder_of path extensions name_of
definition_is_named = refl

-- of a group its own privilege is asked first, where it is named as an owner may be
pub owner_is_asked_first : of_bob noted (AssignAdd (codes "app:first") (codes "app:web:admins")) ≡ Some (Denied (codes "app:web:admins") (codes "groupAttrUpdate"))
unfolding noted owners folders bob ann events_of object_of entity_of resolve placed lies_in member extension_of folder_of path extensions name_of
owner_is_asked_first = refl

pub no_owner_is_not_asked : of_bob noted (AssignAdd (codes "app:first") (codes "g:gsa/app:web:admins")) ≡ Some (Denied (codes "app:note") (codes "attrUpdate"))
unfolding noted owners folders bob ann events_of object_of entity_of resolve placed lies_in member extension_of folder_of path extensions name_of
no_owner_is_not_asked = refl

pub person_is_not_asked : of_bob noted (ValueAdd (codes "app:first") (codes "uni/ann") 1 (given.Text (codes "x"))) ≡ Some (Denied (codes "app:note") (codes "attrUpdate"))
unfolding noted owners folders bob ann events_of object_of entity_of resolve placed lies_in member extension_of folder_of path extensions name_of
person_is_not_asked = refl

-- who doesn't see the definition doesn't see its attributes
pub unseen_attribute : of_bob (after (GrantRemove (codes "app:note") privilege.AttrView bob ∷ []) noted) (AssignAdd (codes "app:first") (codes "app")) ≡ Some (NotFound (codes "app:first"))
unfolding noted owners folders bob ann events_of object_of entity_of resolve placed lies_in member extension_of folder_of
unseen_attribute = refl
