-- An entity's text names that entity and no other.
use Rattle.std.proofs.Common.{◌≡◌, ℕ, ◌≤◌, Bool, true, false, cond, ltb, nat_eq, codes, List, ◌++◌, length, drop, Some, refl, sym, ap, subst, ◌∙◌, inl, inr, ◌⊎◌, arith, lit≤}
use Rattle.std.specs.List.{starts_with}
use Rattle.std.specs.Str.{bytes_eq}
use Rattle.std.proofs.lemmas.Bool.{false_from_ne_true, false≢true, lt-ltb}
use Rattle.std.proofs.lemmas.Bool.Decides.{Decides-eqb}
use Rattle.std.proofs.lemmas.List.{length-append}
use Rattle.std.proofs.lemmas.Option.{cond_some, same_Some}
use Rattle.std.proofs.lemmas.Slice.Eq.{bytes_eq-Decides, starts_is}
use Rattle.reg_base.specs.Names.{is_name, is_person}
use Rattle.reg_base.specs.Entities.{group_entity, person_entity, entity_of}
use Rattle.reg_base.specs.declared.entity.Entity.{Entity}
use Rattle.reg_base.specs.declared.entity.Entity.TheVariants.{Person, Group, System, Everyone}
use Rattle.reg_ops.specs.Forms.{is_entity}
use Rattle.reg_ops.specs.Parts.{◌>>=◌}
use Rattle.reg_wire.specs.Fields.{entity_text, text_bytes}
use Rattle.reg_wire.specs.Reading.{text_at, entity_at}
use Rattle.reg_wire.proofs.Texts.{name_short, person_short}
use Rattle.reg_wire.proofs.Exact.{IsExact, bind_some, text_exact}

-- which way a test went
pub chosen : {A : Type 0} (b : Bool) (x y z : A) → cond b x y ≡ z → ((b ≡ true) × (x ≡ z)) ⊎ ((b ≡ false) × (y ≡ z))
chosen true x y z e = inl (refl, e)
chosen false x y z e = inr (refl, e)

abbrev system_text : List ℕ
system_text = codes "g:isa/GrouperSystem"

abbrev everyone_text : List ℕ
everyone_text = codes "g:isa/GrouperAll"

abbrev group_front : List ℕ
group_front = codes "g:gsa/"

-- a text names an entity whose text it is
abbrev Names : List ℕ → Entity → Type 0
Names text entity = (entity_text entity ≡ text) × (is_entity entity ≡ true)

front_is : (text : List ℕ) → starts_with nat_eq text group_front ≡ true → text ≡ group_front ++ drop 6 text
front_is text h = (starts_is Decides-eqb text group_front (starts_with nat_eq text group_front) refl).0 h

group_takes : (text : List ℕ) (entity : Entity) → starts_with nat_eq text group_front ≡ true → group_entity text ≡ Some entity → Names text entity
group_takes text entity front e =
    let g = cond_some (is_name (drop 6 text)) (Group (drop 6 text)) entity e in
    subst (Names text) g.1 (sym (front_is text front), g.0)

person_takes : (text : List ℕ) (entity : Entity) → person_entity text ≡ Some entity → Names text entity
person_takes text entity e =
    let g = cond_some (is_person text) (Person text) entity e in
    subst (Names text) g.1 (refl, g.0)

pub entity_takes : (text : List ℕ) (entity : Entity) → entity_of text ≡ Some entity → Names text entity
unfolding entity_of
entity_takes text entity e =
    let other = cond (starts_with nat_eq text group_front) (group_entity text) (person_entity text) in
    elim (chosen (bytes_eq text system_text) (Some System) (cond (bytes_eq text everyone_text) (Some Everyone) other) (Some entity) e) [
      | inl system ↦ subst (Names text) (same_Some System entity system.1) (sym ((bytes_eq-Decides text system_text).0 system.0), refl)
      | inr rest ↦ elim (chosen (bytes_eq text everyone_text) (Some Everyone) other (Some entity) rest.1) [
        | inl everyone ↦ subst (Names text) (same_Some Everyone entity everyone.1) (sym ((bytes_eq-Decides text everyone_text).0 everyone.0), refl)
        | inr last ↦ elim (chosen (starts_with nat_eq text group_front) (group_entity text) (person_entity text) (Some entity) last.1) [
          | inl group ↦ group_takes text entity group.0 group.1
          | inr person ↦ person_takes text entity person.1
        ]
      ]
    ]

-- a person's text is none of the others
not_text : (text other : List ℕ) → is_person text ≡ true → is_person other ≡ false → bytes_eq text other ≡ false
not_text text other h no_person = false_from_ne_true _ (λ e.
    let same : text ≡ other = (bytes_eq-Decides text other).0 e in
    false≢true (sym no_person ∙ ap is_person (sym same) ∙ h))

front_no_person : (rest : List ℕ) → is_person (group_front ++ rest) ≡ false
front_no_person rest =
    let long : ltb 5 (length (group_front ++ rest)) ≡ true = lt-ltb _ _ (omega (arith, length-append group_front rest)) in
    rw long refl

not_group : (text : List ℕ) → is_person text ≡ true → starts_with nat_eq text group_front ≡ false
not_group text h = false_from_ne_true _ (λ e.
    false≢true (sym (front_no_person (drop 6 text)) ∙ ap is_person (sym (front_is text e)) ∙ h))

entity_again : (entity : Entity) → is_entity entity ≡ true → entity_of (entity_text entity) ≡ Some entity
unfolding entity_of
entity_again (Person text) h = rw (not_text text system_text h refl, not_text text everyone_text h refl, not_group text h, h) refl
entity_again (Group name) h = rw h refl
entity_again System h = refl
entity_again Everyone h = refl

pub entity_short : (entity : Entity) → is_entity entity ≡ true → length (entity_text entity) ≤ 1006
entity_short (Person text) h = omega (arith, person_short text h)
entity_short (Group name) h = omega (arith, name_short name h, length-append group_front name)
entity_short System h = lit≤ tt
entity_short Everyone h = lit≤ tt

abbrev pub entity_bytes : Entity → List ℕ
entity_bytes entity = text_bytes (entity_text entity)

pub entity_exact : IsExact entity_bytes is_entity entity_at
unfolding entity_at
entity_exact = record {
  takes = λ bytes x e.
      let b = bind_some (text_at bytes) (λ text. entity_of text.0 >>= λ entity. Some (entity, text.1)) x e in
      let k = bind_some (entity_of b.0.0) (λ entity. Some (entity, b.0.1)) x b.2 in
      let t = text_exact.takes bytes b.0 b.1 in
      let n = entity_takes b.0.0 k.0 k.1 in
      let found : Entity × List ℕ = (k.0, b.0.1) in
      let parts : bytes ≡ entity_bytes k.0 ++ b.0.1 = t.0 ∙ ap (λ (text : List ℕ). text_bytes text ++ b.0.1) (sym n.0) in
      subst (λ (y : Entity × List ℕ). (bytes ≡ entity_bytes y.0 ++ y.1) × (is_entity y.0 ≡ true)) (same_Some found x k.2) (parts, n.1);
  again = λ entity rest good.
      rw (text_exact.again (entity_text entity) rest (lt-ltb _ _ (omega (arith, entity_short entity good))), entity_again entity good) refl;
}
