-- Ways: rows of which each is of the group that the one before it names, down to a person.
use Rattle.std.specs.Prelude.{ℕ, zero, suc, ◌==◌, ◌&&◌, List, [], ◌∷◌, ◌++◌, Bool, map, filter}
use Rattle.std.specs.Prelude.{nat_le, if◌then◌else◌}
use Rattle.reg_terms.specs.declared.kinds.Member.{Member}
use Rattle.reg_terms.specs.declared.kinds.Member.TheVariants.{Person, Group}
use Rattle.reg_terms.specs.declared.rows.MemberRow.{MemberRow}

-- rows, from a group downwards
abbrev pub Way : Type 0
Way = List MemberRow

-- the rows that have begun
abbrev pub begun : ℕ → List MemberRow → List MemberRow
begun at rows = filter (λ (row : MemberRow). nat_le row.from at) rows

-- the ways on from a row's member: the person needs no row more, and a nested group has those of W
abbrev pub onward : (ℕ → List Way) → Bool → ℕ → Member → List Way
onward W last s (Person p) = if last && (p == s) then [] ∷ [] else []
onward W last s (Group h) = W h

-- the ways that begin with a row of the group, row by row
abbrev pub by_rows : (ℕ → List Way) → Bool → ℕ → List MemberRow → ℕ → List Way
by_rows W last s [] g = []
by_rows W last s (row ∷ rows) g =
    if row.group == g then map (λ (way : Way). row ∷ way) (onward W last s row.member)
    ++ by_rows W last s rows g
    else by_rows W last s rows g

-- the ways of n rows from a group to a person, or to a group at which ways may end
abbrev pub ways : ℕ → List MemberRow → (ℕ → Bool) → ℕ → ℕ → List Way
ways zero rows ends s g = if ends g then [] ∷ [] else []
ways (suc n) rows ends s g = by_rows (λ h. ways n rows ends s h) (n == 0) s rows g

-- where W has those of so many rows: those of fewer than n rows, the shortest first
abbrev pub shorter : ℕ → (ℕ → List Way) → List Way
shorter zero W = []
shorter (suc n) W = shorter n W ++ W n
