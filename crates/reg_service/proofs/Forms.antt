-- The form of what is asked.
use Rattle.std.proofs.Common.{◌≡◌, ℕ, List, Bool, true, false, Option, Some, None, refl, subst}
use Rattle.std.specs.Prelude.{IfSome, if◌then◌else◌, codes, drop, nat_eq}
use Rattle.std.specs.List.{starts_with}
use Rattle.std.specs.Str.{bytes_eq}
use Rattle.reg_base.specs.Entities.{entity_of}
use Rattle.reg_base.specs.Names.{is_name, is_person}
use Rattle.reg_base.specs.declared.entity.Entity.{Entity}
use Rattle.reg_base.specs.declared.entity.Entity.TheVariants.{Person, Group, System, Everyone}
use Rattle.reg_terms.specs.declared.command.Command.{Command}
use Rattle.reg_terms.specs.declared.request.Op.TheVariants as op
use Rattle.reg_ops.specs.Forms.{is_entity, has_form, key_fits, op_has_form, op_takes_key, takes_key}

-- a command that is asked has its form
pub command_form : (command : Command) → op_has_form (op.Command command) ≡ true → has_form command ≡ true
command_form command form = form

-- and so has its key
pub command_key : (command : Command) (key : Option (List ℕ)) → key_fits (op_takes_key (op.Command command)) key ≡ true → key_fits (takes_key command) key ≡ true
command_key command key fits = fits

-- an entity that a text names has its form
either : (b : Bool) (x y : Option Entity) → IfSome x (λ e. is_entity e ≡ true) → IfSome y (λ e. is_entity e ≡ true) → IfSome (if b then x else y) (λ e. is_entity e ≡ true)
either true x y h k = h
either false x y h k = k

tested : (b : Bool) (e : Entity) → (b ≡ true → is_entity e ≡ true) → IfSome (if b then Some e else None) (λ e. is_entity e ≡ true)
tested true e h = h refl
tested false e h = tt

entity_form : (text : List ℕ) → IfSome (entity_of text) (λ e. is_entity e ≡ true)
unfolding entity_of
entity_form text =
    either (bytes_eq text (codes "g:isa/GrouperSystem")) (Some System) _ refl (
    either (bytes_eq text (codes "g:isa/GrouperAll")) (Some Everyone) _ refl (
    either (starts_with nat_eq text (codes "g:gsa/")) _ _ (tested (is_name (drop 6 text)) (Group (drop 6 text)) (λ e. e)) (tested (is_person text) (Person text) (λ e. e))))

some_form : (o : Option Entity) (e : Entity) → Some e ≡ o → IfSome o (λ x. is_entity x ≡ true) → is_entity e ≡ true
some_form None e is h = cc
some_form (Some x) e is h = let same : x ≡ e = cc in subst (λ (y : Entity). is_entity y ≡ true) same h

pub entity_formed : (text : List ℕ) (e : Entity) → Some e ≡ entity_of text → is_entity e ≡ true
entity_formed text e is = some_form (entity_of text) e is (entity_form text)
