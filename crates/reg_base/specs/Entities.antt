-- Entities, as their texts name them.
use Rattle.std.specs.Prelude.{ℕ, List, if◌then◌else◌, Option, Some, None, codes, drop, nat_eq}
use Rattle.std.specs.List.{starts_with}
use Rattle.std.specs.Str.{bytes_eq}
use Rattle.reg_base.specs.Names.{is_name, is_person}
use Rattle.reg_base.specs.declared.entity.Entity.{Entity}
use Rattle.reg_base.specs.declared.entity.Entity.TheVariants.{Person, Group, System, Everyone}

-- the group that a text names after `g:gsa/`, if it is a name
abbrev pub group_entity : List ℕ → Option Entity
group_entity text = if is_name (drop 6 text) then Some (Group (drop 6 text)) else None

-- the person that a text names, if it is a person's
abbrev pub person_entity : List ℕ → Option Entity
person_entity text = if is_person text then Some (Person text) else None

-- the entity that a text names: one of the two internal ones, a group or a person
unfoldable pub entity_of : List ℕ → Option Entity
entity_of text =
    if bytes_eq text (codes "g:isa/GrouperSystem") then Some System else
    (if bytes_eq text (codes "g:isa/GrouperAll") then Some Everyone else
    (if starts_with nat_eq text (codes "g:gsa/") then group_entity text else person_entity text))
