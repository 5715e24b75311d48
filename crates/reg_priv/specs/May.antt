-- What a caller may do: by a grant, direct or inherited, to the caller, to everyone or to a group
-- that has the caller; and root may do everything.
use Rattle.std.specs.Prelude.{ℕ, ◌==◌, ◌&&◌, ◌||◌, List, Bool, true, false, Option, Some, None}
use Rattle.std.specs.Prelude.{codes, filter, option_map}
use Rattle.std.specs.List.{list_any}
use Rattle.reg_base.specs.declared.entity.Entity.{Entity}
use Rattle.reg_base.specs.declared.entity.Entity.TheVariants as entity
use Rattle.reg_base.specs.declared.privilege.Privilege.{Privilege}
use Rattle.reg_base.specs.declared.privilege.Privilege.TheVariants.{View, AttrView}
use Rattle.reg_terms.specs.declared.kinds.Object.{Object}
use Rattle.reg_terms.specs.declared.kinds.Object.TheVariants as object
use Rattle.reg_terms.specs.declared.kinds.Holder.{Holder}
use Rattle.reg_terms.specs.declared.kinds.Holder.TheVariants as holder
use Rattle.reg_terms.specs.Kinds.{is_of_kind}
use Rattle.reg_terms.specs.Privileges.{line_of, gives, all_privileges}
use Rattle.reg_facts.specs.Edits.{subject_id}
use Rattle.reg_facts.specs.Lists.{Lists}
use Rattle.reg_facts.specs.Naming.{group_id}
use Rattle.reg_facts.specs.Rows.{attribute_row}
use Rattle.reg_effect.specs.declared.live.Live.{Live}
use Rattle.reg_effect.specs.Member.{member}
use Rattle.reg_priv.specs.declared.who.Who.{Who}
use Rattle.reg_priv.specs.declared.who.Who.TheVariants.{System, Person}
use Rattle.reg_priv.specs.Grants.{Grant, grants}

-- who an entity is as a caller, if it may call: GrouperSystem, or a person that stands
abbrev pub who_of : Entity → Lists → Option Who
who_of entity.System f = Some System
who_of (entity.Person text) f = option_map Person (subject_id text f.subjects)
who_of (entity.Group name) f = None
who_of entity.Everyone f = None

-- the wheel group, whose members may do everything: the group that has this name now
abbrev pub wheel : Lists → Option ℕ
wheel f = group_id (codes "etc:sysadmingroup") f

-- who may do everything: GrouperSystem, and the members of the wheel group
abbrev pub is_root : Live → Lists → Who → Bool
is_root L f System = true
is_root L f (Person s) = elim (wheel f) [ None ↦ false | Some g ↦ member L g s ]

-- a holder is the caller, everyone, or a group that has the caller
abbrev pub holds : Live → Who → Holder → Bool
holds L who holder.Everyone = true
holds L System (holder.Person x) = false
holds L (Person s) (holder.Person x) = x == s
holds L System (holder.Group g) = false
holds L (Person s) (holder.Group g) = member L g s

-- a grant is of a privilege or gives it, and is the caller's
abbrev pub allows : Live → Who → Privilege → Grant → Bool
allows L who p g = gives g.0 p && holds L who g.1

-- some grant on the object, direct or inherited, allows it
abbrev pub granted : Live → Lists → Who → Object → Privilege → Bool
granted L f who o p = list_any (allows L who p) (grants o f)

-- the object whose grants count: of an attribute its definition
abbrev pub judged : Object → Lists → Object
judged (object.Folder d) f = object.Folder d
judged (object.Group g) f = object.Group g
judged (object.Def a) f = object.Def a
judged (object.Attr a) f =
    elim (attribute_row a f.attributes)
    [ None ↦ object.Attr a | Some row ↦ object.Def row.definition ]
judged (object.Subject s) f = object.Subject s

-- whether a caller has a privilege on an object: one of its kind, by root or by a grant
abbrev pub may : Live → Lists → Who → Object → Privilege → Bool
may L f who o p =
    is_of_kind (line_of p).on (judged o f) && (is_root L f who || granted L f who (judged o f) p)

-- whether a caller sees an object: all folders and subjects, a group with VIEW, a definition and
-- its attributes with attrView
abbrev pub visible : Live → Lists → Who → Object → Bool
visible L f who (object.Folder d) = true
visible L f who (object.Group g) = may L f who (object.Group g) View
visible L f who (object.Def a) = may L f who (object.Def a) AttrView
visible L f who (object.Attr a) = may L f who (object.Attr a) AttrView
visible L f who (object.Subject s) = true

-- all privileges that a caller has on an object, by code
abbrev pub privileges_of : Live → Lists → Who → Object → List Privilege
privileges_of L f who o = filter (may L f who o) all_privileges
