-- The most steps that a change may take: a step is one person tested, added, removed or listed.
use Rattle.std.specs.Prelude.{ℕ, ◌+◌, ◌*◌, ◌==◌, ◌&&◌, List, [], ◌∷◌, not, max, length, filter}
use Rattle.std.specs.Prelude.{if◌then◌else◌}
use Rattle.std.specs.List.{list_any}
use Rattle.reg_terms.specs.declared.kinds.Member.{Member}
use Rattle.reg_terms.specs.declared.kinds.Member.TheVariants.{Person, Group}
use Rattle.reg_terms.specs.declared.rows.CompositeRow.{CompositeRow}
use Rattle.reg_effect.specs.declared.live.Live.{Live}
use Rattle.reg_effect.specs.declared.live.Change.{Change}
use Rattle.reg_effect.specs.declared.live.Change.TheVariants.{RowOn, RowOff, FactorsOn, FactorsOff}
use Rattle.reg_graph.specs.Edges.{reaches}
use Rattle.reg_effect.specs.Edges.{edges}
use Rattle.reg_effect.specs.Changes.{changed, group_of}
use Rattle.reg_effect.specs.Deltas.{members_of, top, below}
use Rattle.reg_effect.specs.Member.{member}

-- a person's row asks for that person, a nested group's for its members
abbrev pub asked_by_row : Live → Member → ℕ
asked_by_row L (Person s) = 1
asked_by_row L (Group h) = length (members_of L h)

-- factors ask for the members of both
abbrev pub asked_by_factors : Live → ℕ → List CompositeRow → ℕ
asked_by_factors L g [] = 0
asked_by_factors L g (c ∷ cs) =
    if c.group == g then length (members_of L c.left) + length (members_of L c.right)
    else asked_by_factors L g cs

-- how many are asked for at the group itself
abbrev pub asked : Change → Live → ℕ
asked (RowOn g m) L = asked_by_row L m
asked (RowOff g m) L = asked_by_row L m
asked (FactorsOn g op left right) L = length (members_of L left) + length (members_of L right)
asked (FactorsOff g) L = asked_by_factors L g L.composites

-- the edges that leave a group
abbrev pub leaving : List (ℕ × ℕ) → ℕ → ℕ
leaving [] g = 0
leaving (e ∷ es) g = if e.0 == g then 1 + leaving es g else leaving es g

-- the groups of which edges leave, each once
abbrev pub starts : List (ℕ × ℕ) → List ℕ
starts [] = []
starts (e ∷ es) = if list_any (λ x. x == e.0) (starts es) then starts es else e.0 ∷ starts es

-- the groups that depend on a group, each once, without itself
abbrev pub dependants : List (ℕ × ℕ) → ℕ → List ℕ
dependants es g = filter (λ x. reaches es x g && not (x == g)) (starts es)

-- the edges that leave a group and those that depend on it
abbrev pub edges_above : List (ℕ × ℕ) → ℕ → ℕ
edges_above es g = length (filter (λ (e : ℕ × ℕ). reaches es e.0 g) es)

-- the most steps for one person over a group and those that depend on it
abbrev pub most_climb : List (ℕ × ℕ) → ℕ → ℕ
most_climb es g = edges_above es g + 2 * (1 + length (dependants es g))

-- the persons whose membership of a group differs
abbrev pub differing : Live → Live → ℕ → List ℕ
differing L N g =
    filter (λ s. if member L g s then not (member N g s)
    else member N g s) (below (max (top L) (top N)))

-- the most steps that a change may take
unfoldable pub most_steps : Change → Live → ℕ
most_steps c L =
    let N = changed c L in
    let g = group_of c in
    asked c L * (max (leaving (edges L) g) (leaving (edges N) g) + 3)
    + length (differing L N g) * most_climb (edges N) g

-- over a list of changes
unfoldable pub most_steps_of : List Change → Live → ℕ
most_steps_of [] L = 0
most_steps_of (c ∷ cs) L = most_steps c L + most_steps_of cs (changed c L)
