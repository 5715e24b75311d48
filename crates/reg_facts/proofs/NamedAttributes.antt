-- The definitions and attributes that names name stand, and so do the owners that texts name.
use Rattle.std.proofs.Common.{◌≡◌, ◌==◌, ℕ, List, Bool, true, false, Option, Some, None, IsSome, inl, inr, refl, sym, subst}
use Rattle.std.specs.Prelude.{if◌then◌else◌}
use Rattle.std.specs.List.{list_any}
use Rattle.std.proofs.lemmas.Bool.{both_ways}
use Rattle.reg_base.specs.Entities.{entity_of}
use Rattle.reg_base.specs.declared.entity.Entity.{Entity}
use Rattle.reg_base.specs.declared.entity.Entity.TheVariants as entity
use Rattle.reg_terms.specs.Kinds.{as_definition, as_attribute}
use Rattle.reg_terms.specs.Values.{suits}
use Rattle.reg_terms.specs.declared.kinds.Object.{Object}
use Rattle.reg_terms.specs.declared.kinds.Object.TheVariants.{Folder, Group, Def, Attr, Subject}
use Rattle.reg_terms.specs.declared.kinds.Owners.{Owners}
use Rattle.reg_facts.specs.Assigned.{OwnerStands}
use Rattle.reg_facts.specs.Attributes.{definition_row, attribute_row, definition_id, attribute_id}
use Rattle.reg_facts.specs.Edits.{subject_id}
use Rattle.reg_facts.specs.Grants.{entity_object, of_entity, object_of}
use Rattle.reg_facts.specs.Lists.{Lists}
use Rattle.reg_facts.specs.Naming.{placed, place_of, resolve, group_id}
use Rattle.reg_facts.specs.Sound.{IsSound}
use Rattle.reg_facts.proofs.Joined.{subject_known}
use Rattle.reg_facts.proofs.Noted.{as_group_is, group_stands}
use Rattle.reg_facts.proofs.PlacedRows.{definition_none, attribute_none, subject_nowhere}
use Rattle.reg_facts.proofs.Places.{cases_option}
use Rattle.reg_facts.proofs.Resolving.{any_is, resolve_names}

-- ---- definitions and attributes

as_definition_is : (found : Option Object) (a : ℕ) → as_definition found ≡ Some a → found ≡ Some (Def a)
as_definition_is None a h = cc
as_definition_is (Some (Folder d)) a h = cc
as_definition_is (Some (Group g)) a h = cc
as_definition_is (Some (Def x)) a h = cc
as_definition_is (Some (Attr x)) a h = cc
as_definition_is (Some (Subject s)) a h = cc

as_attribute_is : (found : Option Object) (a : ℕ) → as_attribute found ≡ Some a → found ≡ Some (Attr a)
as_attribute_is None a h = cc
as_attribute_is (Some (Folder d)) a h = cc
as_attribute_is (Some (Group g)) a h = cc
as_attribute_is (Some (Def x)) a h = cc
as_attribute_is (Some (Attr x)) a h = cc
as_attribute_is (Some (Subject s)) a h = cc

pub definition_stands : (f : Lists) (name : List ℕ) (a : ℕ) → IsSound f → definition_id name f ≡ Some a → IsSome (definition_row a f.definitions)
definition_stands f name a s h =
    let place = any_is (Def a) (placed f) (resolve_names name (Def a) f s (as_definition_is (resolve name f) a h)).1 in
    elim (cases_option (definition_row a f.definitions)) [
      | inl none ↦ absurd (let nowhere : None ≡ place_of (Def a) (placed f) = definition_none a f (sym none) in let some = place.1 in let clash : ⊥ = cc in clash)
      | inr row ↦ rw row.1 refl
    ]

pub attribute_stands : (f : Lists) (name : List ℕ) (a : ℕ) → IsSound f → attribute_id name f ≡ Some a → IsSome (attribute_row a f.attributes)
attribute_stands f name a s h =
    let place = any_is (Attr a) (placed f) (resolve_names name (Attr a) f s (as_attribute_is (resolve name f) a h)).1 in
    elim (cases_option (attribute_row a f.attributes)) [
      | inl none ↦ absurd (let nowhere : None ≡ place_of (Attr a) (placed f) = attribute_none a f (sym none) in let some = place.1 in let clash : ⊥ = cc in clash)
      | inr row ↦ rw row.1 refl
    ]

-- ---- owners

resolved_stands : (f : Lists) (text : List ℕ) (o : Object) (owners : Owners) → IsSound f → resolve text f ≡ Some o → suits owners o ≡ true → OwnerStands f o
resolved_stands f text (Folder d) owners s h fit = (resolve_names text (Folder d) f s h).1
resolved_stands f text (Group g) owners s h fit = group_stands f text g s h
resolved_stands f text (Def a) owners s h fit = both_ways false refl fit
resolved_stands f text (Attr a) owners s h fit = both_ways false refl fit
resolved_stands f text (Subject x) owners s h fit = absurd (let place = any_is (Subject x) (placed f) (resolve_names text (Subject x) f s h).1 in let nowhere = subject_nowhere x f in let some = place.1 in let clash : ⊥ = cc in clash)

entity_stands : (f : Lists) (e : Entity) (o : Object) → IsSound f → entity_object e f ≡ Some o → OwnerStands f o
entity_stands f (entity.Person text) o s h = elim (cases_option (subject_id text f.subjects)) [
  | inl none ↦ absurd (let at : None ≡ Some o = rw none at h in let clash : ⊥ = cc in clash)
  | inr found ↦
      let at : Some (Subject found.0) ≡ Some o = rw found.1 at h in
      let same : Subject found.0 ≡ o = cc in
      subst (λ (x : Object). OwnerStands f x) same (subject_known text f.subjects found.0 found.1)
]
entity_stands f (entity.Group name) o s h = elim (cases_option (group_id name f)) [
  | inl none ↦ absurd (let at : None ≡ Some o = rw none at h in let clash : ⊥ = cc in clash)
  | inr found ↦
      let at : Some (Group found.0) ≡ Some o = rw found.1 at h in
      let same : Group found.0 ≡ o = cc in
      subst (λ (x : Object). OwnerStands f x) same (group_stands f name found.0 s (as_group_is (resolve name f) found.0 found.1))
]
entity_stands f entity.System o s h = cc
entity_stands f entity.Everyone o s h = cc

of_entity_stands : (f : Lists) (e : Option Entity) (o : Object) → IsSound f → of_entity e f ≡ Some o → OwnerStands f o
of_entity_stands f None o s h = cc
of_entity_stands f (Some e) o s h = entity_stands f e o s h

by_slash : (f : Lists) (slash : Bool) (text : List ℕ) (o : Object) (owners : Owners) → IsSound f → (if slash then of_entity (entity_of text) f else resolve text f) ≡ Some o → suits owners o ≡ true → OwnerStands f o
by_slash f true text o owners s h fit = of_entity_stands f (entity_of text) o s h
by_slash f false text o owners s h fit = resolved_stands f text o owners s h fit

pub owner_stands : (f : Lists) (text : List ℕ) (o : Object) (owners : Owners) → IsSound f → object_of text f ≡ Some o → suits owners o ≡ true → OwnerStands f o
unfolding object_of
owner_stands f text o owners s h fit = by_slash f (list_any (λ b. b == 47) text) text o owners s h fit
