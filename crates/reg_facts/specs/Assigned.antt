-- What is true of the attributes of every history: ids of assignments ascend, each attribute's
-- definition stands, what an assignment speaks of stands, and no more values stand than may.
use Rattle.std.specs.Prelude.{◌≡◌, ◌≤◌, true, IsSome, map}
use Rattle.std.specs.List.{AllByRecursion}
use Rattle.reg_terms.specs.Limits.{max_values}
use Rattle.reg_terms.specs.declared.kinds.Object.{Object}
use Rattle.reg_terms.specs.declared.kinds.Object.TheVariants.{Folder, Group, Def, Attr, Subject}
use Rattle.reg_terms.specs.declared.rows.AssignRow.{AssignRow}
use Rattle.reg_terms.specs.declared.rows.AttributeRow.{AttributeRow}
use Rattle.reg_facts.specs.Attributes.{attribute_row, definition_row, value_count}
use Rattle.reg_facts.specs.Lists.{Lists}
use Rattle.reg_facts.specs.Sound.{Ascend, has_group, has_subject, is_named}

-- an owner stands: folders, groups and subjects own attributes
abbrev pub OwnerStands : Lists → Object → Type 0
OwnerStands f (Folder d) = is_named (Folder d) f ≡ true
OwnerStands f (Group g) = has_group g f.groups ≡ true
OwnerStands f (Def a) = ⊥
OwnerStands f (Attr a) = ⊥
OwnerStands f (Subject s) = has_subject s f.subjects ≡ true

-- what an assignment speaks of stands
pub record AssignStands (f : Lists) (row : AssignRow) : Type 0 where
  pub attribute : IsSome (attribute_row row.attribute f.attributes)
  pub owner : OwnerStands f row.owner

pub record AreAssigned (f : Lists) : Type 0 where
  pub ascend : Ascend f.made.assigns (map (λ (row : AssignRow). row.id) f.assigns)
  pub defined : AllByRecursion
      (λ (row : AttributeRow). IsSome (definition_row row.definition f.definitions)) f.attributes
  pub stand : AllByRecursion (λ (row : AssignRow). AssignStands f row) f.assigns
  pub few : value_count f.assigns ≤ max_values
