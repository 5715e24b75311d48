-- Rows by what they name, and the order of members.
use Rattle.std.specs.Prelude.{ℕ, ◌==◌, ◌&&◌, ◌||◌, List, Bool}
use Rattle.std.specs.List.{list_any}
use Rattle.std.specs.Ordering.{nat_cmp}
use Rattle.std.specs.declared.cmp.Ordering.{Ordering}
use Rattle.std.specs.declared.cmp.Ordering.TheVariants.{Less, Greater}
use Rattle.reg_terms.specs.declared.kinds.Member.{Member}
use Rattle.reg_terms.specs.declared.kinds.Member.TheVariants as member
use Rattle.reg_terms.specs.declared.rows.MemberRow.{MemberRow}
use Rattle.reg_terms.specs.declared.rows.CompositeRow.{CompositeRow}
use Rattle.reg_terms.specs.Kinds.{same_member}

-- persons come before groups
abbrev pub member_cmp : Member → Member → Ordering
member_cmp (member.Person a) (member.Person b) = nat_cmp a b
member_cmp (member.Person a) (member.Group b) = Less
member_cmp (member.Group a) (member.Person b) = Greater
member_cmp (member.Group a) (member.Group b) = nat_cmp a b

-- this immediate membership
abbrev pub is_row : ℕ → Member → MemberRow → Bool
is_row g m row = (row.group == g) && same_member row.member m

-- whether this immediate membership stands
abbrev pub has_row : ℕ → Member → List MemberRow → Bool
has_row g m rows = list_any (is_row g m) rows

-- whether a group has rows
abbrev pub has_rows : ℕ → List MemberRow → Bool
has_rows g rows = list_any (λ (row : MemberRow). row.group == g) rows

-- whether a group is the member of a row
abbrev pub is_nested : ℕ → List MemberRow → Bool
is_nested g rows = list_any (λ (row : MemberRow). same_member row.member (member.Group g)) rows

-- whether a group is a composite
abbrev pub is_composite : ℕ → List CompositeRow → Bool
is_composite g composites = list_any (λ (row : CompositeRow). row.group == g) composites

-- whether a group is a factor of a composite
abbrev pub is_factor : ℕ → List CompositeRow → Bool
is_factor g composites =
    list_any (λ (row : CompositeRow). (row.left == g) || (row.right == g)) composites
