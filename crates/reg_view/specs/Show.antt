-- What is answered to a query: from what the caller may see, and from that alone.
use Rattle.std.specs.Prelude.{⊤, ℕ, ◌==◌, ◌&&◌, List, [], Bool, false, not, Option, Some, None}
use Rattle.std.specs.Prelude.{Result, Ok, Err, map, filter, codes, length, take, drop, nat_lt}
use Rattle.std.specs.Prelude.{option_map, if◌then◌else◌}
use Rattle.std.specs.List.{find, list_any}
use Rattle.std.specs.Str.{bytes_eq}
use Rattle.reg_base.specs.Entities.{entity_of}
use Rattle.reg_base.specs.declared.entity.Entity.{Entity}
use Rattle.reg_base.specs.declared.entity.Entity.TheVariants as entity
use Rattle.reg_base.specs.declared.privilege.Privilege.{Privilege}
use Rattle.reg_base.specs.declared.privilege.Privilege.TheVariants as privilege
use Rattle.reg_terms.specs.Privileges.{line_of}
use Rattle.reg_terms.specs.declared.refusal.Refusal.{Refusal}
use Rattle.reg_terms.specs.declared.refusal.Refusal.TheVariants.{NoCaller, NotFound, Denied, Future}
use Rattle.reg_terms.specs.declared.refusal.Refusal.TheVariants.{WrongKind}
use Rattle.reg_terms.specs.declared.admin_shown.ConsumerShown.{ConsumerShown}
use Rattle.reg_terms.specs.declared.query.Query.{Query}
use Rattle.reg_terms.specs.declared.query.Query.TheVariants as query
use Rattle.reg_terms.specs.declared.query.Answer.{Answer}
use Rattle.reg_terms.specs.declared.query.Answer.TheVariants as answer
use Rattle.reg_facts.specs.Children.{by_bytes, is_among}
use Rattle.reg_facts.specs.Naming.{home_of}
use Rattle.reg_view.specs.Past.{GroupPast, last_where}
use Rattle.reg_view.specs.View.{View, AttributeSeen, GroupGone, GroupSeen, GroupRead, Administered}
use Rattle.reg_view.specs.View.{OwnerRead, Powers}

-- ---- finding

-- go on with what was found, or refuse
infixl 10 ◌>>=◌
abbrev pub ◌>>=◌ : {A B : Type 0} → Result A Refusal → (A → Result B Refusal) → Result B Refusal
Ok a >>= next = next a
Err refusal >>= next = Err refusal

-- what was found, or why it is refused
abbrev pub found_or : {A : Type 0} → Option A → Refusal → Result A Refusal
found_or None refusal = Err refusal
found_or (Some a) refusal = Ok a

-- the one of this name
abbrev pub named : {A : Type 0} → (A → List ℕ) → List A → List ℕ → Option A
named name list text = find (λ x. bytes_eq (name x) text) list

-- a privilege is wanted on what has this name
abbrev pub denied : List ℕ → Privilege → Refusal
denied name p = Denied name (line_of p).name

-- it is wanted to be root
abbrev pub root_denied : Refusal
root_denied = Denied (codes ":") (codes "ROOT")

-- a folder by its name, as it is seen
abbrev pub folder_named : View → List ℕ → Option (List ℕ)
folder_named v text = named (λ (n : List ℕ). n) v.folders text

-- and so a group
abbrev pub group_named : View → List ℕ → Option GroupSeen
group_named v text = named (λ (g : GroupSeen). g.name) v.groups text

-- a definition
abbrev pub definition_named : View → List ℕ → Option (List ℕ)
definition_named v text = named (λ (n : List ℕ). n) v.definitions text

-- and an attribute
abbrev pub attribute_named : View → List ℕ → Option AttributeSeen
attribute_named v text = named (λ (a : AttributeSeen). a.name) v.attributes text

-- a group as it is seen, or it isn't found
abbrev pub seen : View → List ℕ → Result GroupSeen Refusal
seen v group = found_or (group_named v group) (NotFound group)

-- a group as it is read, or READ is wanted
abbrev pub read : View → List ℕ → Result GroupRead Refusal
read v group =
    found_or (named (λ (g : GroupRead). g.name) v.readable group) (denied group privilege.Read)

-- of the groups that are gone the one that had this name last, and went last
abbrev pub gone_named : View → List ℕ → Option GroupGone
gone_named v text = last_where (λ (g : GroupGone). bytes_eq g.name text) v.gone

-- the past of a group: of one that stands as it is read, and else of one that is gone
abbrev pub past_told : View → List ℕ → Option GroupSeen → Result GroupPast Refusal
past_told v group (Some _) = do
  g ← read v group
  Ok g.past
past_told v group None =
    found_or (option_map (λ (g : GroupGone). g.past) (gone_named v group)) (NotFound group)

-- the past of the group of this name
abbrev pub past_of : View → List ℕ → Result GroupPast Refusal
past_of v group = past_told v group (group_named v group)

-- a moment that is asked of isn't later than now
abbrev pub in_time : ℕ → Option ℕ → Result ⊤ Refusal
in_time now None = Ok tt
in_time now (Some at) = if nat_lt now at then Err (Future at now) else Ok tt

-- ---- groups and folders

-- the names of what stands directly in a folder, in the order of their bytes; the root stands
-- nowhere
abbrev pub inside : List ℕ → List (List ℕ) → List (List ℕ)
inside folder names =
    by_bytes (filter (λ (n : List ℕ). bytes_eq (home_of n) folder
    && not (bytes_eq n (codes ":"))) names)

-- the display text of a group
abbrev pub shown_group : View → List ℕ → Result Answer Refusal
shown_group v group = do
  g ← seen v group
  Ok (answer.GroupGet g.display g.name)

-- what stands directly in a folder, of what is seen
abbrev pub shown_listing : View → List ℕ → Result Answer Refusal
shown_listing v folder = do
  d ← found_or (folder_named v folder) (NotFound folder)
  Ok (answer.FolderList (inside d (map (λ (a : AttributeSeen). a.name) v.attributes))
      (inside d v.definitions) (inside d v.folders)
      (inside d (map (λ (g : GroupSeen). g.name) v.groups)))

-- the members of a group, now or at a moment
abbrev pub shown_members : View → List ℕ → Option ℕ → Result Answer Refusal
shown_members v group at = do
  g ← past_of v group
  _ ← in_time v.now at
  Ok (answer.Members g.members)

-- when each person was a member of a group
abbrev pub shown_history : View → List ℕ → Result Answer Refusal
shown_history v group = do
  g ← past_of v group
  Ok (answer.History g.history)

-- the immediate memberships and the factors of a group
abbrev pub shown_rows : View → List ℕ → Result Answer Refusal
shown_rows v group = do
  _ ← seen v group
  g ← read v group
  Ok (answer.Rows g.composite g.rows)

-- ---- entities

-- what an entity text names: a subject, a group that is seen, or an entity of the registry itself
abbrev pub entity_seen : View → Entity → Result Entity Refusal
entity_seen v (entity.Person text) =
    if is_among text v.subjects then Ok (entity.Person text) else Err (NotFound text)
entity_seen v (entity.Group name) = do
  _ ← seen v name
  Ok (entity.Group name)
entity_seen v entity.System = Ok entity.System
entity_seen v entity.Everyone = Ok entity.Everyone

-- of the groups that the caller may read, those of which the person is a member at the moment asked
abbrev pub groups_with : View → Entity → Result Answer Refusal
groups_with v (entity.Person text) =
    Ok (answer.Groups (map (λ (g : GroupRead). g.name)
    (filter (λ (g : GroupRead). is_among text g.past.members) v.readable)))
groups_with v (entity.Group name) = Err (WrongKind (codes "subject"))
groups_with v entity.System = Err (WrongKind (codes "subject"))
groups_with v entity.Everyone = Err (WrongKind (codes "subject"))

-- the groups of which a person is a member, now or at a moment
abbrev pub shown_groups : View → Entity → Option ℕ → Result Answer Refusal
shown_groups v subject at = do
  e ← entity_seen v subject
  _ ← in_time v.now at
  groups_with v e

-- ---- objects

-- the kind of an object that has a name; of an attribute with the name of its definition
pub data Kind : Type 0 where
  AFolder : Kind
  AGroup : Kind
  ADefinition : Kind
  AnAttribute : List ℕ → Kind

-- what an object text names: what has a name, a subject by its text, or an entity of the registry
-- itself
pub data Meant : Type 0 where
  Named : List ℕ → Kind → Meant
  ASubject : List ℕ → Meant
  Internal : Meant

-- a text is an entity's where it has a `/`, which no name has
abbrev pub is_entity_text : List ℕ → Bool
is_entity_text text = list_any (λ b. b == 47) text

-- an object by its name
abbrev pub object_named : View → List ℕ → Result Meant Refusal
object_named v text =
    elim (folder_named v text) [
      | Some _ ↦ Ok (Named text AFolder)
      | None ↦
          elim (group_named v text) [
            | Some _ ↦ Ok (Named text AGroup)
            | None ↦
                elim (definition_named v text) [
                  | Some _ ↦ Ok (Named text ADefinition)
                  | None ↦
                      elim (attribute_named v text) [
                        | Some a ↦ Ok (Named text (AnAttribute a.definition))
                        | None ↦ Err
                            (NotFound text)
                      ]
                ]
          ]
    ]

-- the object that an entity is
abbrev pub object_meant : Entity → Meant
object_meant (entity.Person text) = ASubject text
object_meant (entity.Group name) = Named name AGroup
object_meant entity.System = Internal
object_meant entity.Everyone = Internal

-- what an entity's text names as an object
abbrev pub entity_meant : View → List ℕ → Option Entity → Result Meant Refusal
entity_meant v text None = Err (NotFound text)
entity_meant v text (Some e) = do
  found ← entity_seen v e
  Ok (object_meant found)

-- what an object text names, if the caller sees it: an entity, or an object by its name
abbrev pub object_seen : View → List ℕ → Result Meant Refusal
object_seen v text =
    if is_entity_text text then entity_meant v text (entity_of text) else object_named v text

-- what is answered to who isn't an object's admin
abbrev pub not_admin : List ℕ → Kind → Refusal
not_admin name AFolder = denied name privilege.StemAdmin
not_admin name AGroup = denied name privilege.Admin
not_admin name ADefinition = denied name privilege.AttrAdmin
not_admin name (AnAttribute definition) = denied definition privilege.AttrAdmin

-- what the object's admin is told
abbrev pub as_admin : View → List ℕ → Kind → Result Administered Refusal
as_admin v name kind =
    found_or (named (λ (a : Administered). a.name) v.administered name) (not_admin name kind)

-- root is told, and is told this
abbrev pub as_root : View → Result Answer Refusal → Result Answer Refusal
as_root v told = if v.is_root then told else Err root_denied

-- this is told, unless the moment asked is later than now
abbrev pub timed : View → Option ℕ → Result Answer Refusal → Result Answer Refusal
timed v at told = do
  _ ← in_time v.now at
  told

-- the grants on an object; none is written on an attribute
abbrev pub grants_told : Administered → Kind → Result Answer Refusal
grants_told a AFolder = Ok (answer.Grants a.grants)
grants_told a AGroup = Ok (answer.Grants a.grants)
grants_told a ADefinition = Ok (answer.Grants a.grants)
grants_told a (AnAttribute definition) = Err (WrongKind (codes "object"))

-- the grants on what is meant, now or at a moment: its admin is told, and of a subject root
abbrev pub grants_on : View → Option ℕ → Meant → Result Answer Refusal
grants_on v at (Named name kind) = do
  a ← as_admin v name kind
  timed v at (grants_told a kind)
grants_on v at (ASubject text) = as_root v (timed v at (Err (WrongKind (codes "object"))))
grants_on v at Internal = timed v at (Err (WrongKind (codes "object")))

-- the grants on what this text names, now or at a moment
abbrev pub shown_grants : View → List ℕ → Option ℕ → Result Answer Refusal
shown_grants v object at = do
  o ← object_seen v object
  grants_on v at o

-- ---- what someone may do, now or at a moment

-- an entity is the caller of this text
abbrev pub is_caller : List ℕ → Entity → Bool
is_caller by (entity.Person text) = bytes_eq text by
is_caller by (entity.Group name) = false
is_caller by entity.System = bytes_eq by (codes "g:isa/GrouperSystem")
is_caller by entity.Everyone = false

-- what an entity may do with a subject: nothing, if it is one that may do something
abbrev pub nothing_for : Entity → Result Answer Refusal
nothing_for (entity.Person text) = Ok (answer.May [])
nothing_for (entity.Group name) = Err (WrongKind (codes "entity"))
nothing_for entity.System = Ok (answer.May [])
nothing_for entity.Everyone = Err (WrongKind (codes "entity"))

-- what an entity may do with an object, which its admin is told
abbrev pub powers_for : Administered → Entity → Result Answer Refusal
powers_for a (entity.Person text) = do
  p ← found_or (named (λ (p : Powers). p.name) a.persons text) (NotFound text)
  Ok (answer.May p.privileges)
powers_for a (entity.Group name) = Err (WrongKind (codes "entity"))
powers_for a entity.System = Ok (answer.May a.system)
powers_for a entity.Everyone = Err (WrongKind (codes "entity"))

-- what the caller itself may do with an object
abbrev pub own_told : View → Option ℕ → Meant → Result Answer Refusal
own_told v at (Named name kind) = do
  p ← found_or (named (λ (p : Powers). p.name) v.own name) (NotFound name)
  timed v at (Ok (answer.May p.privileges))
own_told v at (ASubject text) = timed v at (Ok (answer.May []))
own_told v at Internal = timed v at (Err (WrongKind (codes "object")))

-- what another may do with an object
abbrev pub other_told : View → Option ℕ → Meant → Entity → Result Answer Refusal
other_told v at (Named name kind) e = do
  a ← as_admin v name kind
  timed v at (powers_for a e)
other_told v at (ASubject text) e = as_root v (timed v at (nothing_for e))
other_told v at Internal e = timed v at (Err (WrongKind (codes "object")))

-- what an entity may do with what this text names: the caller may ask it of itself, and the
-- object's admin of anyone
abbrev pub shown_may : View → List ℕ → Entity → Option ℕ → Result Answer Refusal
shown_may v object entity at = do
  o ← object_seen v object
  e ← entity_seen v entity
  if is_caller v.caller e then own_told v at o else other_told v at o e

-- ---- attributes

-- the attributes of an owner that is read, or why it isn't
abbrev pub owner_told : View → Option ℕ → List OwnerRead → List ℕ → Refusal → Result Answer Refusal
owner_told v at owners name refusal = do
  o ← found_or (named (λ (o : OwnerRead). o.name) owners name) refusal
  timed v at (Ok (answer.Attributes o.assignments))

-- the attributes of what is meant by this text, now or at a moment: of a folder or a group by its
-- name, or of a person; anything else owns none
abbrev pub attributes_on : View → Option ℕ → List ℕ → Meant → Result Answer Refusal
attributes_on v at text (Named name AFolder) =
    owner_told v at v.owners name (denied name privilege.StemAttrRead)
attributes_on v at text (Named name AGroup) =
    if is_entity_text text then timed v at (Err (WrongKind (codes "object")))
    else owner_told v at v.owners name (denied name privilege.GroupAttrRead)
attributes_on v at text (Named name ADefinition) = timed v at (Err (WrongKind (codes "object")))
attributes_on v at text (Named name (AnAttribute definition)) =
    timed v at (Err (WrongKind (codes "object")))
attributes_on v at text (ASubject person) = owner_told v at v.persons person (NotFound person)
attributes_on v at text Internal = timed v at (Err (WrongKind (codes "object")))

-- the attributes of what this text names, now or at a moment
abbrev pub shown_attributes : View → List ℕ → Option ℕ → Result Answer Refusal
shown_attributes v object at = do
  o ← object_seen v object
  attributes_on v at object o

-- ---- the change log

-- the entries after the place of a consumer, at most some; the number of the last; the place
abbrev pub shown_log : View → List ℕ → ℕ → Result Answer Refusal
shown_log v consumer max = do
  c ← found_or (named (λ (c : ConsumerShown). c.consumer) v.consumers consumer) (NotFound consumer)
  Ok (answer.Log (take max (drop c.place v.log)) (length v.log) c.place)

-- ---- what root is told

-- the consumers, the groups that are gone, the loader jobs and the rules
abbrev pub shown_admin : View → Result Answer Refusal
shown_admin v = as_root v (Ok (answer.Admin v.consumers v.gone_by_id v.jobs v.rules))

-- ---- queries

-- what is answered to a caller that stands
abbrev pub shown : View → Query → Result Answer Refusal
shown v (query.GroupGet group) = shown_group v group
shown v (query.FolderList folder) = shown_listing v folder
shown v (query.Members group at) = shown_members v group at
shown v (query.Rows group) = shown_rows v group
shown v (query.Groups subject at) = shown_groups v subject at
shown v (query.Grants object at) = shown_grants v object at
shown v (query.May object entity at) = shown_may v object entity at
shown v (query.Attributes object at) = shown_attributes v object at
shown v (query.History group) = shown_history v group
shown v (query.Log consumer max) = shown_log v consumer max
shown v query.Admin = shown_admin v

-- what is answered to a query
abbrev pub show : View → Query → Result Answer Refusal
show v q = if v.stands then shown v q else Err NoCaller
