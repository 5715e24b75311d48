-- What a text names stands, by the law on holders.
use Rattle.std.proofs.Common.{◌≡◌, ℕ, List, Some, true, ap}
use Rattle.std.specs.Prelude.{option_map}
use Rattle.reg_base.specs.declared.entity.Entity.{Entity}
use Rattle.reg_base.specs.declared.entity.Entity.TheVariants as entity
use Rattle.reg_terms.specs.declared.kinds.Holder.{Holder}
use Rattle.reg_terms.specs.declared.kinds.Holder.TheVariants as holder
use Rattle.reg_facts.specs.Edits.{subject_id}
use Rattle.reg_facts.specs.Grants.{holder_of}
use Rattle.reg_facts.specs.Lists.{Lists}
use Rattle.reg_facts.specs.Naming.{group_id}
use Rattle.reg_facts.specs.Sound.{HolderStands, has_group, has_subject}

-- who holds something stands
abbrev HoldersStand : Lists → Type 0
HoldersStand f = (e : Entity) (h : Holder) → holder_of e f ≡ Some h → HolderStands f.subjects f.groups h

pub group_stands : (f : Lists) → HoldersStand f → (name : List ℕ) (g : ℕ) → group_id name f ≡ Some g → has_group g f.groups ≡ true
group_stands f law name g found = law (entity.Group name) (holder.Group g) (ap (option_map (λ x. holder.Group x)) found)

pub person_stands : (f : Lists) → HoldersStand f → (text : List ℕ) (s : ℕ) → subject_id text f.subjects ≡ Some s → has_subject s f.subjects ≡ true
person_stands f law text s found = law (entity.Person text) (holder.Person s) (ap (option_map (λ x. holder.Person x)) found)
