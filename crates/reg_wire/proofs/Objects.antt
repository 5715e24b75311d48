-- The text of an object is short, and UTF-8.
use Rattle.std.proofs.Common.{◌≡◌, ℕ, ◌≤◌, true, ltb, codes, List, length, Option, Some, None, is_some, eqb, refl, subst, inl, inr, arith}
use Rattle.std.specs.List.{list_all, list_any}
use Rattle.std.specs.Str.{IsUtf8}
use Rattle.std.proofs.lemmas.Bool.{ltb-true, false≢true}
use Rattle.std.proofs.lemmas.Str.{IsUtf8-append}
use Rattle.reg_base.specs.Entities.{entity_of}
use Rattle.reg_base.specs.declared.entity.Entity.{Entity}
use Rattle.reg_base.specs.declared.entity.Entity.TheVariants.{Person, Group, System, Everyone}
use Rattle.reg_base.proofs.Persons.{name_utf8, person_utf8}
use Rattle.reg_ops.specs.Forms.{is_entity, is_folder_text, is_object_text}
use Rattle.reg_wire.specs.Fields.{entity_text}
use Rattle.reg_wire.proofs.Texts.{bytes_utf8, folder_short, folder_utf8}
use Rattle.reg_wire.proofs.Entities.{chosen, entity_takes, entity_short}

-- what stands, where something does
there : {A : Type 0} (o : Option A) → is_some o ≡ true → (x : A) × (o ≡ Some x)
there (Some x) h = (x, refl)
there None h = absurd (false≢true h)

utf8 : (text : List ℕ) → list_all (λ b. ltb b 128) text ≡ true → IsUtf8 text
utf8 = bytes_utf8 (λ b. ltb b 128) (λ b h. ltb-true b 128 h)

entity_utf8 : (entity : Entity) → is_entity entity ≡ true → IsUtf8 (entity_text entity)
entity_utf8 (Person text) h = person_utf8 text h
entity_utf8 (Group name) h = IsUtf8-append (codes "g:gsa/") name (utf8 (codes "g:gsa/") refl) (name_utf8 name h)
entity_utf8 System h = utf8 (codes "g:isa/GrouperSystem") refl
entity_utf8 Everyone h = utf8 (codes "g:isa/GrouperAll") refl

-- what is true of the texts of entities is true of each text that names one
of_entities : (P : List ℕ → Type 0) → ((entity : Entity) → is_entity entity ≡ true → P (entity_text entity)) → (text : List ℕ) → is_some (entity_of text) ≡ true → P text
of_entities P each text h =
    let e = there (entity_of text) h in
    let n = entity_takes text e.0 e.1 in
    subst P n.0 (each e.0 n.1)

-- what is true of the texts of entities and of folders is true of each object's
of_objects : (P : List ℕ → Type 0) → ((entity : Entity) → is_entity entity ≡ true → P (entity_text entity)) → ((text : List ℕ) → is_folder_text text ≡ true → P text) → (text : List ℕ) → is_object_text text ≡ true → P text
of_objects P entities folders text h = elim (chosen (list_any (λ b. eqb b 47) text) (is_some (entity_of text)) (is_folder_text text) true h) [
  | inl entity ↦ of_entities P entities text entity.1
  | inr folder ↦ folders text folder.1
]

pub object_short : (text : List ℕ) → is_object_text text ≡ true → length text ≤ 1006
object_short = of_objects (λ text. length text ≤ 1006) entity_short (λ text h. omega (arith, folder_short text h))

pub object_utf8 : (text : List ℕ) → is_object_text text ≡ true → IsUtf8 text
object_utf8 = of_objects IsUtf8 entity_utf8 folder_utf8
