-- Who is a member of what, and what a change begins and ends, each in order.
use Rattle.std.specs.Prelude.{ℕ, zero, suc, ◌&&◌, List, [], ◌∷◌, ◌++◌, Bool, not, max, map, filter}
use Rattle.reg_terms.specs.declared.kinds.Member.{Member}
use Rattle.reg_terms.specs.declared.kinds.Member.TheVariants.{Person, Group}
use Rattle.reg_terms.specs.declared.rows.CompositeRow.{CompositeRow}
use Rattle.reg_effect.specs.declared.live.Live.{Live}
use Rattle.reg_effect.specs.Member.{member}

-- the number of a row's member
abbrev pub number_of : Member → ℕ
number_of (Person s) = s
number_of (Group g) = g

-- a number above all ids in rows
abbrev pub rows_top : List (ℕ × Member) → ℕ
rows_top [] = 0
rows_top (row ∷ rows) = max (suc row.0) (max (suc (number_of row.1)) (rows_top rows))

-- a number above the ids of all composites
abbrev pub composites_top : List CompositeRow → ℕ
composites_top [] = 0
composites_top (c ∷ cs) = max (suc c.group) (composites_top cs)

-- a number above all ids that have members, or are members
abbrev pub top : Live → ℕ
top L = max (rows_top L.rows) (composites_top L.composites)

-- the numbers below n, in order
abbrev pub below : ℕ → List ℕ
below zero = []
below (suc n) = below n ++ n ∷ []

-- the pairs of numbers below n and m, by the first and then the second
abbrev pub pairs_below : ℕ → ℕ → List (ℕ × ℕ)
pairs_below zero m = []
pairs_below (suc n) m = pairs_below n m ++ map {B = ℕ × ℕ} (λ s. (n, s)) (below m)

-- the members of a group, by id
unfoldable pub members_of : Live → ℕ → List ℕ
members_of L g = filter (member L g) (below (top L))

-- whether the pair is a member in the second and not in the first
abbrev pub is_gained : Live → Live → ℕ × ℕ → Bool
is_gained L N p = member N p.0 p.1 && not (member L p.0 p.1)

-- the pairs that are members in the second and not in the first, by group and person
abbrev pub gained : Live → Live → List (ℕ × ℕ)
gained L N = filter (is_gained L N) (pairs_below (max (top L) (top N)) (max (top L) (top N)))

-- what a change of the live data begins, in order
unfoldable pub began : Live → Live → List (ℕ × ℕ)
began L N = gained L N

-- and what it ends
unfoldable pub ended : Live → Live → List (ℕ × ℕ)
ended L N = gained N L
