-- The entity of a text has its form.
use Rattle.std.proofs.Common.{◌≡◌, ◌≤◌, ℕ, List, Option, Some, None, true, false, Bool, ◌&&◌, nat_le, refl, sym, subst, cond, drop, nat_eq, codes}
use Rattle.std.proofs.lemmas.Bool.{le-leb}
use Rattle.std.specs.List.{starts_with}
use Rattle.std.specs.Str.{bytes_eq}
use Rattle.reg_base.specs.Names.{is_extension, is_name, is_person, name_of}
use Rattle.reg_base.specs.Entities.{entity_of, group_entity, person_entity}
use Rattle.reg_base.specs.declared.entity.Entity.{Entity}
use Rattle.reg_base.specs.declared.entity.Entity.TheVariants.{Person, Group, System, Everyone}
use Rattle.reg_ops.specs.Forms.{is_entity, is_folder_text, is_object_text, is_optional_moment, query_has_form}
use Rattle.reg_terms.specs.Limits.{max_moment}
use Rattle.reg_terms.specs.declared.query.Query.TheVariants.{GroupGet, FolderList, Members, Rows, Groups, Grants, May, Attributes, History, Log, Admin}

-- what an option holds has its form
abbrev IsFormed : Option Entity → Type 0
IsFormed None = Unit {0}
IsFormed (Some e) = is_entity e ≡ true

formed_if : (b : Bool) (x y : Option Entity) → (b ≡ true → IsFormed x) → IsFormed y → IsFormed (cond b x y)
formed_if true x y one two = one refl
formed_if false x y one two = two

entity_is_formed : (text : List ℕ) → IsFormed (entity_of text)
unfolding entity_of
entity_is_formed text =
    formed_if (bytes_eq text (codes "g:isa/GrouperSystem")) (Some System) _ (λ _. refl)
    (formed_if (bytes_eq text (codes "g:isa/GrouperAll")) (Some Everyone) _ (λ _. refl)
    (formed_if (starts_with nat_eq text (codes "g:gsa/")) (group_entity text) (person_entity text)
    (λ _. formed_if (is_name (drop 6 text)) (Some (Group (drop 6 text))) None (λ e. e) tt)
    (formed_if (is_person text) (Some (Person text)) None (λ e. e) tt)))

pub entity_formed : (text : List ℕ) (e : Entity) → Some e ≡ entity_of text → is_entity e ≡ true
entity_formed text e is = subst IsFormed (sym is) (entity_is_formed text)

-- the name of a text is one
pub name_formed : (text n : List ℕ) → Some n ≡ name_of text → is_name n ≡ true
name_formed text n is = go (is_name text) refl is
  where
    go : (b : Bool) → is_name text ≡ b → Some n ≡ cond b (Some text) None → is_name n ≡ true
    go true e f = let same : n ≡ text = cc in rw same e
    go false e f = absurd (cc)

-- queries of what has its form
pub group_get_formed : (group : List ℕ) → is_name group ≡ true → query_has_form (GroupGet group) ≡ true
unfolding query_has_form
group_get_formed group h = rw h refl

pub members_formed : (group : List ℕ) (at : Option ℕ) → is_name group ≡ true → is_optional_moment at ≡ true → query_has_form (Members group at) ≡ true
unfolding query_has_form
members_formed group at h k = rw (h, k) refl

pub rows_formed : (group : List ℕ) → is_name group ≡ true → query_has_form (Rows group) ≡ true
unfolding query_has_form
rows_formed group h = rw h refl

pub folder_list_formed : (folder : List ℕ) → is_folder_text folder ≡ true → query_has_form (FolderList folder) ≡ true
unfolding query_has_form
folder_list_formed folder h = rw h refl

pub groups_formed : (subject : Entity) (at : Option ℕ) → is_entity subject ≡ true → is_optional_moment at ≡ true → query_has_form (Groups subject at) ≡ true
unfolding query_has_form
groups_formed subject at h k = rw (h, k) refl

pub history_formed : (group : List ℕ) → is_name group ≡ true → query_has_form (History group) ≡ true
unfolding query_has_form
history_formed group h = rw h refl

pub log_formed : (consumer : List ℕ) (max : ℕ) → is_extension consumer ≡ true → (nat_le 1 max && nat_le max 1000) ≡ true → query_has_form (Log consumer max) ≡ true
unfolding query_has_form
log_formed consumer max h k = rw (h, k) refl

pub grants_formed : (object : List ℕ) (at : Option ℕ) → is_object_text object ≡ true → is_optional_moment at ≡ true → query_has_form (Grants object at) ≡ true
unfolding query_has_form
grants_formed object at h k = rw (h, k) refl

pub may_formed : (object : List ℕ) (entity : Entity) (at : Option ℕ) → is_object_text object ≡ true → is_entity entity ≡ true → is_optional_moment at ≡ true → query_has_form (May object entity at) ≡ true
unfolding query_has_form
may_formed object entity at h k l = rw (h, k, l) refl

pub attributes_formed : (object : List ℕ) (at : Option ℕ) → is_object_text object ≡ true → is_optional_moment at ≡ true → query_has_form (Attributes object at) ≡ true
unfolding query_has_form
attributes_formed object at h k = rw (h, k) refl

pub admin_formed : query_has_form Admin ≡ true
unfolding query_has_form
admin_formed = refl

-- a moment is at most the greatest
pub moment_formed : (m : ℕ) → m ≤ 253402300799999999 → is_optional_moment (Some m) ≡ true
moment_formed m h = le-leb m max_moment h
