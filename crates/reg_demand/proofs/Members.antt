-- An entity names as an object what it names as a member.
use Rattle.std.proofs.Common.{◌≡◌, ℕ, Option, None, Some, refl, option_map}
use Rattle.reg_base.specs.declared.entity.Entity.{Entity}
use Rattle.reg_base.specs.declared.entity.Entity.TheVariants as entity
use Rattle.reg_terms.specs.declared.kinds.Member.TheVariants as member
use Rattle.reg_terms.specs.declared.kinds.Object.TheVariants as object
use Rattle.reg_facts.specs.Edits.{member_of, subject_id}
use Rattle.reg_facts.specs.Grants.{entity_object}
use Rattle.reg_facts.specs.Lists.{Lists}
use Rattle.reg_facts.specs.Naming.{group_id}
use Rattle.reg_demand.specs.Refusing.{as_object}

of_person : (s : Option ℕ) → option_map (λ i. object.Subject i) s ≡ as_object (elim s [ None ↦ None | Some i ↦ Some (member.Person i) ])
of_person None = refl
of_person (Some i) = refl

of_group : (g : Option ℕ) → option_map (λ i. object.Group i) g ≡ as_object (elim g [ None ↦ None | Some i ↦ Some (member.Group i) ])
of_group None = refl
of_group (Some i) = refl

pub same : (e : Entity) (f : Lists) → entity_object e f ≡ as_object (member_of e f)
same (entity.Person text) f = of_person (subject_id text f.subjects)
same (entity.Group name) f = of_group (group_id name f)
same entity.System f = refl
same entity.Everyone f = refl
