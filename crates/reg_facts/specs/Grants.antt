-- Grants and inherits: which row is which, what is written where, who holds them, and what the
-- texts of a command name.
use Rattle.std.specs.Prelude.{ℕ, ◌==◌, ◌&&◌, ◌||◌, List, [], ◌∷◌, Bool, Option, None, Some, filter}
use Rattle.std.specs.Prelude.{true, false, nat_lt, option_map, if◌then◌else◌}
use Rattle.std.specs.List.{list_any}
use Rattle.reg_base.specs.Entities.{entity_of}
use Rattle.reg_base.specs.declared.entity.Entity.{Entity}
use Rattle.reg_base.specs.declared.entity.Entity.TheVariants as entity
use Rattle.reg_base.specs.declared.privilege.Privilege.{Privilege}
use Rattle.reg_terms.specs.Kinds.{same_object, same_holder, same_scope, same_kind}
use Rattle.reg_terms.specs.Privileges.{same_privilege}
use Rattle.reg_terms.specs.declared.kinds.Holder.{Holder}
use Rattle.reg_terms.specs.declared.kinds.Holder.TheVariants as holder
use Rattle.reg_terms.specs.declared.kinds.InheritKind.{InheritKind}
use Rattle.reg_terms.specs.declared.kinds.Object.{Object}
use Rattle.reg_terms.specs.declared.kinds.Object.TheVariants as object
use Rattle.reg_terms.specs.declared.kinds.Scope.{Scope}
use Rattle.reg_terms.specs.declared.rows.GrantRow.{GrantRow}
use Rattle.reg_terms.specs.declared.rows.InheritRow.{InheritRow}
use Rattle.reg_facts.specs.Edits.{subject_id}
use Rattle.reg_facts.specs.Lists.{Lists}
use Rattle.reg_facts.specs.Naming.{resolve, folder_id, group_id}

-- ---- rows

-- the two grants are one; their dates don't count
abbrev pub same_grant : GrantRow → GrantRow → Bool
same_grant row other =
    same_object other.object row.object
    && (same_privilege other.privilege row.privilege && same_holder other.holder row.holder)

-- a grant without dates
abbrev pub undated : Object → Privilege → Holder → GrantRow
undated o p h = record { object = o; privilege = p; holder = h; from = None; until = None }

-- whether this grant stands, on or not
abbrev pub has_grant : GrantRow → List GrantRow → Bool
has_grant row rows = list_any (same_grant row) rows

-- whether a grant is on: none of its beginning is to come
abbrev pub has_begun : GrantRow → Bool
has_begun row = elim row.from [ None ↦ true | Some d ↦ false ]

-- a row in the place of the grant that is the same
abbrev pub replaced : GrantRow → GrantRow → GrantRow
replaced row other = if same_grant row other then row else other

-- the grants that are written on an object
abbrev pub grants_on : Object → List GrantRow → List GrantRow
grants_on o rows = filter (λ (row : GrantRow). same_object row.object o) rows

-- the two inherits are one
abbrev pub same_inherit : InheritRow → InheritRow → Bool
same_inherit row other =
    (other.folder == row.folder)
    && (same_kind other.kind row.kind
    && (same_scope other.scope row.scope
    && (same_privilege other.privilege row.privilege && same_holder other.holder row.holder)))

-- whether this inherit stands
abbrev pub has_inherit : InheritRow → List InheritRow → Bool
has_inherit row rows = list_any (same_inherit row) rows

-- the inherits that are written on a folder
abbrev pub inherits_on : ℕ → List InheritRow → List InheritRow
inherits_on d rows = filter (λ (row : InheritRow). row.folder == d) rows

-- whether a group holds a grant or an inherit
abbrev pub is_holder : ℕ → Lists → Bool
is_holder g f =
    list_any (λ (row : GrantRow). same_holder row.holder (holder.Group g)) f.grants
    || list_any (λ (row : InheritRow). same_holder row.holder (holder.Group g)) f.inherits

-- ---- what texts and entities name

-- the object that an entity names, if it names one that stands; the registry's own entities are no
-- objects
abbrev pub entity_object : Entity → Lists → Option Object
entity_object (entity.Person text) f =
    option_map (λ s. object.Subject s) (subject_id text f.subjects)
entity_object (entity.Group name) f = option_map (λ g. object.Group g) (group_id name f)
entity_object entity.System f = None
entity_object entity.Everyone f = None

abbrev pub of_entity : Option Entity → Lists → Option Object
of_entity None f = None
of_entity (Some e) f = entity_object e f

-- the object that a text names: an entity where it has a `/`, and else by its name
unfoldable pub object_of : List ℕ → Lists → Option Object
object_of text f =
    if list_any (λ b. b == 47) text then of_entity (entity_of text) f else resolve text f

-- the holder that an entity names, if it may hold and stands
abbrev pub holder_of : Entity → Lists → Option Holder
holder_of (entity.Person text) f = option_map (λ s. holder.Person s) (subject_id text f.subjects)
holder_of (entity.Group name) f = option_map (λ g. holder.Group g) (group_id name f)
holder_of entity.System f = None
holder_of entity.Everyone f = Some holder.Everyone

-- of a beginning what is to come at a moment
abbrev pub to_come : ℕ → Option ℕ → Option ℕ
to_come at None = None
to_come at (Some d) = if nat_lt at d then Some d else None

-- the grant of a privilege between two dates, where its object and its holder stand
abbrev pub grant_for : Option Object → Privilege → Option Holder → Option ℕ → Option ℕ
    → Option GrantRow
grant_for None p h from until = None
grant_for (Some o) p None from until = None
grant_for (Some o) p (Some h) from until =
    Some (record { object = o; privilege = p; holder = h; from = from; until = until })

-- the grant that a command speaks of
abbrev pub grant_of : List ℕ → Privilege → Entity → Option ℕ → Option ℕ → Lists → Option GrantRow
grant_of text p e from until f = grant_for (object_of text f) p (holder_of e f) from until

-- the inherit of a privilege, where its folder and its holder stand
abbrev pub inherit_for : Option ℕ → InheritKind → Scope → Privilege → Option Holder
    → Option InheritRow
inherit_for None k s p h = None
inherit_for (Some d) k s p None = None
inherit_for (Some d) k s p (Some h) =
    Some (record { folder = d; kind = k; scope = s; privilege = p; holder = h })

-- the inherit that a command speaks of
abbrev pub inherit_of : List ℕ → InheritKind → Scope → Privilege → Entity → Lists
    → Option InheritRow
inherit_of folder k s p e f = inherit_for (folder_id folder f) k s p (holder_of e f)

-- ---- who makes something

-- the grant of a privilege on an object to a person, if there is one
abbrev pub grant_to : Object → Privilege → Option ℕ → List GrantRow
grant_to o p None = []
grant_to o p (Some s) = (record {
  object = o;
  privilege = p;
  holder = holder.Person s;
  from = None;
  until = None;
}) ∷ []

-- a person who makes an object is granted its administration; the registry itself is granted
-- nothing
abbrev pub makers_grant : Entity → Object → Privilege → Lists → List GrantRow
makers_grant (entity.Person text) o p f = grant_to o p (subject_id text f.subjects)
makers_grant (entity.Group name) o p f = []
makers_grant entity.System o p f = []
makers_grant entity.Everyone o p f = []
