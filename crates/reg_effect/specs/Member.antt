-- Effective membership: a person is a member of a composite by its two factors, and of another
-- group by a row that names the person or a group that has it.
use Rattle.std.specs.Prelude.{ℕ, zero, suc, ◌+◌, ◌==◌, ◌&&◌, ◌||◌, List, Bool, false, not, length}
use Rattle.std.specs.Prelude.{if◌then◌else◌}
use Rattle.std.specs.List.{list_any}
use Rattle.reg_terms.specs.declared.kinds.Member.{Member}
use Rattle.reg_terms.specs.declared.kinds.Member.TheVariants.{Person, Group}
use Rattle.reg_terms.specs.declared.kinds.SetOp.{SetOp}
use Rattle.reg_terms.specs.declared.kinds.SetOp.TheVariants.{Intersection, Complement, Union}
use Rattle.reg_terms.specs.declared.rows.CompositeRow.{CompositeRow}
use Rattle.reg_terms.specs.Rows.{is_composite}
use Rattle.reg_effect.specs.declared.live.Live.{Live}

-- in both, in the left and not in the right, or in one at least
abbrev pub combine : SetOp → Bool → Bool → Bool
combine Intersection a b = a && b
combine Complement a b = a && not b
combine Union a b = a || b

-- whether a row's member is the person, or a group that has it by M
abbrev pub gives : (ℕ → Bool) → ℕ → Member → Bool
gives M s (Person p) = p == s
gives M s (Group h) = M h

-- whether some row of the group gives the person
abbrev pub in_rows : (ℕ → Bool) → List (ℕ × Member) → ℕ → ℕ → Bool
in_rows M rows g s = list_any (λ (row : ℕ × Member). (row.0 == g) && gives M s row.1) rows

-- whether the factors of the composite give the person
abbrev pub in_factors : (ℕ → Bool) → List CompositeRow → ℕ → Bool
in_factors M cs g =
    list_any (λ (c : CompositeRow). (c.group == g) && combine c.op (M c.left) (M c.right)) cs

-- one level: whether the group has the person, where M tells of the groups below
abbrev pub level : (ℕ → Bool) → Live → ℕ → ℕ → Bool
level M L g s =
    if is_composite g L.composites then in_factors M L.composites g else in_rows M L.rows g s

-- n levels deep, and false below
abbrev pub member_in : ℕ → Live → ℕ → ℕ → Bool
member_in zero L g s = false
member_in (suc n) L g s = level (λ h. member_in n L h s) L g s

-- how many rows and composites there are
abbrev pub entries : Live → ℕ
entries L = length L.rows + length L.composites

-- whether the person is an effective member of the group: at most one level deeper than there are
-- entries
unfoldable pub member : Live → ℕ → ℕ → Bool
member L g s = member_in (suc (entries L)) L g s
