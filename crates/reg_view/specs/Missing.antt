-- Whether what a query names is there for the caller. What nobody has and what the caller doesn't
-- see are the same None, and a refusal tells of either by the query's texts alone.
use Rattle.std.specs.Prelude.{⊤, ℕ, List, [], Bool, true, false, is_some, Option, Some, None}
use Rattle.std.specs.Prelude.{if◌then◌else◌}
use Rattle.reg_base.specs.Entities.{entity_of}
use Rattle.reg_base.specs.declared.entity.Entity.{Entity}
use Rattle.reg_base.specs.declared.entity.Entity.TheVariants as entity
use Rattle.reg_terms.specs.declared.kinds.Object.{Object}
use Rattle.reg_terms.specs.declared.kinds.Object.TheVariants as object
use Rattle.reg_terms.specs.declared.refusal.Refusal.{Refusal}
use Rattle.reg_terms.specs.declared.refusal.Refusal.TheVariants.{NoCaller, NotFound}
use Rattle.reg_terms.specs.declared.query.Query.{Query}
use Rattle.reg_terms.specs.declared.query.Query.TheVariants as query
use Rattle.reg_facts.specs.Edits.{subject_id}
use Rattle.reg_facts.specs.Lists.{Lists}
use Rattle.reg_facts.specs.Naming.{folder_id, group_id, resolve}
use Rattle.reg_effect.specs.declared.live.Live.{Live}
use Rattle.reg_priv.specs.declared.who.Who.{Who}
use Rattle.reg_priv.specs.May.{visible, who_of}
use Rattle.reg_view.specs.declared.question.Called.{Called}
use Rattle.reg_view.specs.declared.question.Parts.{Parts}
use Rattle.reg_view.specs.Answers.{gone_found, place_seen}
use Rattle.reg_view.specs.Past.{Past}
use Rattle.reg_view.specs.Show.{is_entity_text}

-- ---- found and seen

-- the group of this name, where the caller sees it
abbrev pub seen_group : Live → Lists → Who → List ℕ → Option ℕ
seen_group L f c group =
    elim (group_id group f)
    [ None ↦ None | Some id ↦ if visible L f c (object.Group id) then Some id else None ]

-- an object, where there is one and the caller sees it
abbrev pub seen_of : Live → Lists → Who → Option Object → Option Object
seen_of L f c None = None
seen_of L f c (Some o) = if visible L f c o then Some o else None

-- the object of this name, where the caller sees it
abbrev pub seen_object : Live → Lists → Who → List ℕ → Option Object
seen_object L f c name = seen_of L f c (resolve name f)

-- ---- from the texts of a query alone

-- the entity that an object's text is of, if it is an entity's text
abbrev pub entity_in : List ℕ → Option Entity
entity_in text = if is_entity_text text then entity_of text else None

-- the entity that the object of a query is by its text
abbrev pub entity_asked : Query → Option Entity
entity_asked (query.Grants object at) = entity_in object
entity_asked (query.May object e at) = entity_in object
entity_asked (query.Attributes object at) = entity_in object
entity_asked _ = None

-- the name or text of an entity, and of an object
abbrev pub entity_called : Entity → List ℕ
entity_called (entity.Person text) = text
entity_called (entity.Group name) = name
entity_called entity.System = []
entity_called entity.Everyone = []

abbrev pub object_called : List ℕ → Option Entity → List ℕ
object_called text None = text
object_called text (Some e) = entity_called e

-- what a query names first
abbrev pub first_called : Query → Option Entity → List ℕ
first_called (query.GroupGet group) e = group
first_called (query.FolderList folder) e = folder
first_called (query.Members group at) e = group
first_called (query.Rows group) e = group
first_called (query.Groups subject at) e = entity_called subject
first_called (query.Grants object at) e = object_called object e
first_called (query.May object entity at) e = object_called object e
first_called (query.Attributes object at) e = object_called object e
first_called (query.History group) e = group
first_called (query.Log consumer max) e = consumer
first_called query.Admin e = []

-- and what it names beside this
abbrev pub second_called : Query → List ℕ
second_called (query.May object entity at) = entity_called entity
second_called _ = []

-- both
abbrev pub called_of : Query → Called
called_of q = record {
  entity = entity_asked q;
  first = first_called q (entity_asked q);
  second = second_called q;
}

-- a query of a caller of this text, with what both texts give
abbrev pub parts_of : List ℕ → Query → Parts
parts_of by q = record { by = by; query = q; caller = entity_of by; called = called_of q }

-- who is this entity as a caller, if it is one and stands
abbrev pub standing : Option Entity → Lists → Option Who
standing e f = elim e [ None ↦ None | Some x ↦ who_of x f ]

-- ---- whether it is there

-- an entity is there for the caller
abbrev pub finds_entity : Live → Lists → Who → Entity → Bool
finds_entity L f c (entity.Person text) = is_some (subject_id text f.subjects)
finds_entity L f c (entity.Group name) = is_some (seen_group L f c name)
finds_entity L f c entity.System = true
finds_entity L f c entity.Everyone = true

-- and one that a text may be of
abbrev pub finds_named : Live → Lists → Who → Option Entity → Bool
finds_named L f c None = false
finds_named L f c (Some e) = finds_entity L f c e

-- the object of this text is there for the caller: the entity, or an object by its name
abbrev pub finds_object : Live → Lists → Who → List ℕ → Option Entity → Bool
finds_object L f c text e =
    if is_entity_text text then finds_named L f c e else is_some (seen_object L f c text)

-- the group of this name, if one stands, and else the one that is gone
abbrev pub finds_either : Past → Live → Lists → Who → List ℕ → Option ℕ → Bool
finds_either p L f c group (Some _) = is_some (seen_group L f c group)
finds_either p L f c group None = is_some (gone_found p L f c group)

abbrev pub finds_past : Past → Live → Lists → Who → List ℕ → Bool
finds_past p L f c group = finds_either p L f c group (group_id group f)

-- what a query names first is there for the caller
abbrev pub finds_first : Past → Live → Lists → Who → Query → Option Entity → Bool
finds_first p L f c (query.GroupGet group) e = is_some (seen_group L f c group)
finds_first p L f c (query.FolderList folder) e = is_some (folder_id folder f)
finds_first p L f c (query.Members group at) e = finds_past p L f c group
finds_first p L f c (query.Rows group) e = is_some (seen_group L f c group)
finds_first p L f c (query.Groups subject at) e = finds_entity L f c subject
finds_first p L f c (query.Grants object at) e = finds_object L f c object e
finds_first p L f c (query.May object entity at) e = finds_object L f c object e
finds_first p L f c (query.Attributes object at) e = finds_object L f c object e
finds_first p L f c (query.History group) e = finds_past p L f c group
finds_first p L f c (query.Log consumer max) e = is_some (place_seen L f c consumer)
finds_first p L f c query.Admin e = true

-- and so is what it names beside this
abbrev pub finds_second : Live → Lists → Who → Query → Bool
finds_second L f c (query.May object entity at) = finds_entity L f c entity
finds_second L f c _ = true

-- what a query names that isn't there for the caller: the first of two
abbrev pub missing : Past → Live → Lists → Who → Query → Called → Option (List ℕ)
missing p L f c q k =
    if finds_first p L f c q k.entity then (if finds_second L f c q then None else Some k.second)
    else Some k.first

-- ---- want of memory

-- a refusal may yield to want of memory, but not that something isn't there for the caller, nor
-- that the caller doesn't stand
abbrev pub MayYield : Refusal → Type 0
MayYield NoCaller = ⊥
MayYield (NotFound text) = ⊥
MayYield _ = ⊤
