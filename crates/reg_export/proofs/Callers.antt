-- An entity's text names that entity.
use Rattle.std.proofs.Common.{◌≡◌, ℕ, true, false, ltb, nat_eq, codes, List, ◌++◌, length, drop, Some, refl, sym, ap, ◌∙◌, arith}
use Rattle.std.specs.List.{starts_with}
use Rattle.std.specs.Str.{bytes_eq}
use Rattle.std.proofs.lemmas.Bool.{false_from_ne_true, false≢true, lt-ltb}
use Rattle.std.proofs.lemmas.Bool.Decides.{Decides-eqb}
use Rattle.std.proofs.lemmas.List.{length-append}
use Rattle.std.proofs.lemmas.Slice.Eq.{bytes_eq-Decides, starts_is}
use Rattle.reg_base.specs.Names.{is_person}
use Rattle.reg_base.specs.Entities.{entity_of}
use Rattle.reg_base.specs.declared.entity.Entity.{Entity}
use Rattle.reg_base.specs.declared.entity.Entity.TheVariants.{Person, Group, System, Everyone}
use Rattle.reg_ops.specs.Forms.{is_entity}
use Rattle.reg_export.specs.Fields.{entity_text}

abbrev group_front : List ℕ
group_front = codes "g:gsa/"

front_is : (text : List ℕ) → starts_with nat_eq text group_front ≡ true → text ≡ group_front ++ drop 6 text
front_is text h = (starts_is Decides-eqb text group_front (starts_with nat_eq text group_front) refl).0 h

-- a person's text is none of the others
not_text : (text other : List ℕ) → is_person text ≡ true → is_person other ≡ false → bytes_eq text other ≡ false
not_text text other h no_person = false_from_ne_true _ (λ e.
    let same : text ≡ other = (bytes_eq-Decides text other).0 e in
    false≢true (sym no_person ∙ ap is_person (sym same) ∙ h))

front_no_person : (rest : List ℕ) → is_person (group_front ++ rest) ≡ false
front_no_person rest =
    let long : ltb 5 (length (group_front ++ rest)) ≡ true = lt-ltb _ _ (omega (arith, length-append group_front rest)) in
    rw long refl

not_group : (text : List ℕ) → is_person text ≡ true → starts_with nat_eq text group_front ≡ false
not_group text h = false_from_ne_true _ (λ e.
    false≢true (sym (front_no_person (drop 6 text)) ∙ ap is_person (sym (front_is text e)) ∙ h))

pub entity_again : (entity : Entity) → is_entity entity ≡ true → entity_of (entity_text entity) ≡ Some entity
unfolding entity_of
entity_again (Person text) h = rw (not_text text (codes "g:isa/GrouperSystem") h refl, not_text text (codes "g:isa/GrouperAll") h refl, not_group text h, h) refl
entity_again (Group name) h = rw h refl
entity_again System h = refl
entity_again Everyone h = refl
