-- The order of rows and composites: rows by group, then persons, then groups, and composites by
-- group.
use Rattle.std.specs.Prelude.{⊤, ℕ, ◌==◌, ◌&&◌, ◌<◌, ◌^◌, List, [], ◌∷◌, Bool, if◌then◌else◌}
use Rattle.std.specs.List.{list_any, All}
use Rattle.std.specs.Ordering.{nat_cmp, ordering_then}
use Rattle.std.specs.declared.cmp.Ordering.{Ordering}
use Rattle.reg_terms.specs.declared.kinds.Member.{Member}
use Rattle.reg_terms.specs.declared.kinds.Member.TheVariants.{Person, Group}
use Rattle.reg_terms.specs.declared.rows.CompositeRow.{CompositeRow}
use Rattle.reg_terms.specs.Kinds.{same_member}
use Rattle.reg_terms.specs.Rows.{member_cmp}

-- by group, and then by member
abbrev pub row_cmp : ℕ × Member → ℕ × Member → Ordering
row_cmp a b = ordering_then (nat_cmp a.0 b.0) (member_cmp a.1 b.1)

-- the order of composites
abbrev pub composite_cmp : CompositeRow → CompositeRow → Ordering
composite_cmp c d = nat_cmp c.group d.group

-- whether this is the group's row of the member
abbrev pub is_live_row : ℕ → Member → ℕ × Member → Bool
is_live_row g m row = (row.0 == g) && same_member row.1 m

-- whether the group has a row of the member
abbrev pub has_live_row : ℕ → Member → List (ℕ × Member) → Bool
has_live_row g m rows = list_any (is_live_row g m) rows

-- whether the group has rows
abbrev pub has_live_rows : ℕ → List (ℕ × Member) → Bool
has_live_rows g rows = list_any (λ (row : ℕ × Member). row.0 == g) rows

-- a group's id is a number of 32 bits
abbrev pub IsSmall : Member → Type 0
IsSmall (Person p) = ⊤
IsSmall (Group h) = h < 2 ^ 32

-- the members' ids are such numbers
abbrev pub HaveSmallIds : List (ℕ × Member) → Type 0
HaveSmallIds rows = All (λ (row : ℕ × Member). IsSmall row.1) rows

-- the group that a member is, or none
abbrev pub groups_of : Member → List ℕ
groups_of (Person p) = []
groups_of (Group h) = h ∷ []

-- the groups that the group's rows name
abbrev pub nested : ℕ → List (ℕ × Member) → List ℕ
nested g [] = []
nested g ((x, Person p) ∷ rows) = nested g rows
nested g ((x, Group h) ∷ rows) = if x == g then h ∷ nested g rows else nested g rows
