-- The order of memberships, by typed keys and by numbers.
use Rattle.std.proofs.Common.{◌≡◌, ◌==◌, ℕ, List, refl, ap, filter}
use Rattle.std.specs.Ordering.{nat_cmp, ordering_then}
use Rattle.std.specs.declared.cmp.Ordering.{Ordering}
use Rattle.std.specs.declared.cmp.Ordering.TheVariants.{Less, Equal, Greater}
use Rattle.reg_terms.specs.declared.kinds.Member.{Member}
use Rattle.reg_terms.specs.declared.kinds.Member.TheVariants.{Person, Group}
use Rattle.reg_terms.specs.declared.rows.MemberRow.{MemberRow}
use Rattle.reg_table.specs.Keyed.{in_order}
use Rattle.reg_facts.specs.RowOrder.{member_order, place_of, place_cmp, row_order, rows_of}
use Rattle.reg_terms.specs.Rows.{member_cmp}

first : (o p : Ordering) → ordering_then o p ≡ ordering_then (ordering_then o Equal) p
first Less p = refl
first Equal p = refl
first Greater p = refl

second : (o p q : Ordering) → (p ≡ ordering_then p q) → ordering_then o p ≡ ordering_then (ordering_then o p) q
second Less p q same = refl
second Equal p q same = same
second Greater p q same = refl

order_is : (a b : MemberRow) → member_order a b ≡ row_order a b
order_is a b = by_members a.member b.member
  where
    by_members : (m n : Member) → ordering_then (nat_cmp a.group b.group) (member_cmp m n) ≡ place_cmp (place_of a.group m) (place_of b.group n)
    by_members (Person p) (Person q) = first (nat_cmp a.group b.group) (nat_cmp p q)
    by_members (Person p) (Group q) = second (nat_cmp a.group b.group) Less (nat_cmp p q) refl
    by_members (Group p) (Person q) = second (nat_cmp a.group b.group) Greater (nat_cmp p q) refl
    by_members (Group p) (Group q) = first (nat_cmp a.group b.group) (nat_cmp p q)

-- the rows of a group in the order of their keys
pub rows_are : (g : ℕ) (rows : List MemberRow) → in_order member_order (filter (λ (row : MemberRow). row.group == g) rows) ≡ rows_of g rows
unfolding rows_of
rows_are g rows = ap (λ (order : MemberRow → MemberRow → Ordering). in_order order (filter (λ (row : MemberRow). row.group == g) rows)) (λ i a b. order_is a b i)
