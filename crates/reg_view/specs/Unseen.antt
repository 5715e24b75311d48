-- Groups and other objects that a caller doesn't see.
use Rattle.std.specs.Prelude.{◌≡◌, ⊤, ℕ, List, Bool, true, false, is_some, Option, Some, None}
use Rattle.reg_base.specs.Entities.{entity_of}
use Rattle.reg_base.specs.declared.entity.Entity.{Entity}
use Rattle.reg_base.specs.declared.entity.Entity.TheVariants as entity
use Rattle.reg_terms.specs.declared.kinds.Object.{Object}
use Rattle.reg_terms.specs.declared.kinds.Object.TheVariants as object
use Rattle.reg_terms.specs.declared.query.Query.{Query}
use Rattle.reg_terms.specs.declared.query.Query.TheVariants as query
use Rattle.reg_facts.specs.Lists.{Lists}
use Rattle.reg_facts.specs.Naming.{group_id, resolve}
use Rattle.reg_effect.specs.declared.live.Live.{Live}
use Rattle.reg_priv.specs.declared.who.Who.{Who}
use Rattle.reg_priv.specs.May.{visible}
use Rattle.reg_view.specs.Answers.{gone_found}
use Rattle.reg_view.specs.Past.{Past}
use Rattle.reg_view.specs.Show.{is_entity_text}
use Rattle.reg_view.specs.View.{caller_of}

-- an entity is the group of this name
abbrev pub IsGroup : List ℕ → Entity → Type 0
IsGroup name (entity.Person text) = ⊥
IsGroup name (entity.Group group) = group ≡ name
IsGroup name entity.System = ⊥
IsGroup name entity.Everyone = ⊥

-- a text is that of the entity of the group of this name
abbrev pub IsGroupText : List ℕ → List ℕ → Type 0
IsGroupText name text = (is_entity_text text ≡ true) × (entity_of text ≡ Some (entity.Group name))

-- the query is of the group of this name: of an object it is by the text of the group's entity
abbrev pub AsksOf : List ℕ → Query → Type 0
AsksOf name (query.GroupGet group) = group ≡ name
AsksOf name (query.FolderList folder) = ⊥
AsksOf name (query.Members group at) = group ≡ name
AsksOf name (query.Rows group) = group ≡ name
AsksOf name (query.Groups subject at) = IsGroup name subject
AsksOf name (query.Grants text at) = IsGroupText name text
AsksOf name (query.May text e at) = IsGroupText name text
AsksOf name (query.Attributes text at) = IsGroupText name text
AsksOf name (query.History group) = group ≡ name
AsksOf name (query.Log consumer max) = ⊥
AsksOf name query.Admin = ⊥

-- no group has this name, or the caller hasn't VIEW on it
abbrev pub IsHidden : Live → Lists → Who → Option ℕ → Type 0
IsHidden L f c None = ⊤
IsHidden L f c (Some id) = visible L f c (object.Group id) ≡ false

-- and of a caller that may not stand
abbrev pub IsHiddenFrom : Live → Lists → Option Who → List ℕ → Type 0
IsHiddenFrom L f None group = ⊥
IsHiddenFrom L f (Some c) group = IsHidden L f c (group_id group f)

-- a caller that stands doesn't see a group of this name, or there is none
abbrev pub IsUnseen : Live → Lists → List ℕ → List ℕ → Type 0
IsUnseen L f by group = IsHiddenFrom L f (caller_of by f) group

-- whether a caller, if it stands, finds a group that is gone by the name that it had last
abbrev pub finds_gone : Past → Live → Lists → Option Who → List ℕ → Bool
finds_gone p L f None group = false
finds_gone p L f (Some c) group = is_some (gone_found p L f c group)

-- a query of the past isn't of a group that is gone, for the caller: so it is for all but root
abbrev pub IsOfNoneGone : Past → Live → Lists → List ℕ → Query → Type 0
IsOfNoneGone p L f by (query.Members group at) = finds_gone p L f (caller_of by f) group ≡ false
IsOfNoneGone p L f by (query.History group) = finds_gone p L f (caller_of by f) group ≡ false
IsOfNoneGone p L f by _ = ⊤

-- ---- objects

-- the query is of the object of this name, which is no entity's text
abbrev pub AsksAbout : List ℕ → Query → Type 0
AsksAbout name (query.Grants text at) = (text ≡ name) × (is_entity_text name ≡ false)
AsksAbout name (query.May text e at) = (text ≡ name) × (is_entity_text name ≡ false)
AsksAbout name (query.Attributes text at) = (text ≡ name) × (is_entity_text name ≡ false)
AsksAbout name _ = ⊥

-- no object has this name, or the caller doesn't see the one that has
abbrev pub IsHiddenObject : Live → Lists → Who → Option Object → Type 0
IsHiddenObject L f c None = ⊤
IsHiddenObject L f c (Some o) = visible L f c o ≡ false

-- and of a caller that may not stand
abbrev pub IsObjectHiddenFrom : Live → Lists → Option Who → List ℕ → Type 0
IsObjectHiddenFrom L f None name = ⊥
IsObjectHiddenFrom L f (Some c) name = IsHiddenObject L f c (resolve name f)

-- a caller that stands doesn't see an object of this name, or there is none
abbrev pub IsUnseenObject : Live → Lists → List ℕ → List ℕ → Type 0
IsUnseenObject L f by name = IsObjectHiddenFrom L f (caller_of by f) name
