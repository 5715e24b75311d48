-- Groups that are members of groups.
use Rattle.std.specs.Prelude.{ℕ, ◌==◌, ◌&&◌, List, [], ◌∷◌, ◌++◌, Bool, false, not, filter}
use Rattle.std.specs.List.{list_any}
use Rattle.reg_terms.specs.declared.kinds.Member.{Member}
use Rattle.reg_terms.specs.declared.kinds.Member.TheVariants.{Person, Group}
use Rattle.reg_terms.specs.declared.rows.MemberRow.{MemberRow}
use Rattle.reg_facts.specs.declared.nest.Nest.{Nest}

-- the member of a group, if it is a group
abbrev pub nest_in : ℕ → Member → List Nest
nest_in g (Person s) = []
nest_in g (Group h) = (record { nested = h; group = g }) ∷ []

abbrev pub nest_of : MemberRow → List Nest
nest_of row = nest_in row.group row.member

-- the members of memberships that are groups
abbrev pub nests_of : List MemberRow → List Nest
nests_of [] = []
nests_of (row ∷ rows) = nest_of row ++ nests_of rows

-- whether a group is a member of another
abbrev pub is_nest : ℕ → ℕ → Nest → Bool
is_nest h g nest = (nest.nested == h) && (nest.group == g)

-- whether a member of a group is among these
abbrev pub has_nest : ℕ → Member → List Nest → Bool
has_nest g (Person s) nests = false
has_nest g (Group h) nests = list_any (is_nest h g) nests

-- the others, without a member of a group
abbrev pub without_nest : ℕ → Member → List Nest → List Nest
without_nest g (Person s) nests = nests
without_nest g (Group h) nests = filter (λ (nest : Nest). not (is_nest h g nest)) nests
