-- What is stated to explain a membership.
use Rattle.std.specs.Prelude.{◌≡◌, ⊤, ℕ, ◌==◌, List, [], ◌∷◌, ◌++◌, true, false, map}
use Rattle.std.specs.Prelude.{None, Some, length, take, slice_get, ◌-◌, if◌then◌else◌}
use Rattle.std.specs.List.{All, find}
use Rattle.reg_terms.specs.declared.rows.MemberRow.{MemberRow}
use Rattle.reg_terms.specs.declared.rows.CompositeRow.{CompositeRow}
use Rattle.reg_terms.specs.Rows.{is_composite}
use Rattle.reg_graph.specs.Edges.{among}
use Rattle.reg_effect.specs.declared.live.Live.{Live}
use Rattle.reg_effect.specs.Member.{member}
use Rattle.reg_effect.specs.Order.{groups_of}
use Rattle.reg_reasons.specs.declared.statement.Grounds.{Grounds}
use Rattle.reg_reasons.specs.declared.statement.Grounds.TheVariants.{Rows, Factors}
use Rattle.reg_reasons.specs.declared.statement.Statement.{Statement}
use Rattle.reg_reasons.specs.Ways.{Way}
use Rattle.reg_reasons.specs.Reasons.{reasons}
use Rattle.reg_reasons.specs.Counts.{capped}

-- the grounds are a group's: the number of all ways and the first so many of them, or the factors
abbrev pub AreGrounds : Live → List MemberRow → ℕ → ℕ → ℕ → Grounds → Type 0
AreGrounds L rows s most g (Rows number ways) =
    (is_composite g L.composites ≡ false) × (number ≡ capped (length (reasons L rows s g)))
    × (ways.items ≡ take most (reasons L rows s g))
AreGrounds L rows s most g (Factors op left right) =
    find (λ (c : CompositeRow). c.group == g) L.composites
    ≡ Some (record { group = g; op = op; left = left; right = right })

-- a statement is right: whether the group has the person, and its grounds
pub record IsRight (L : Live) (rows : List MemberRow) (s most : ℕ) (st : Statement) : Type 0 where
  pub has : st.has ≡ member L st.group s
  pub grounds : AreGrounds L rows s most st.group st.grounds

-- the group at which a way ends, where that isn't the person
abbrev pub end_of : Way → List ℕ
end_of way = elim (slice_get way (length way - 1)) [ None ↦ [] | Some row ↦ groups_of row.member ]

-- the groups at which ways end
abbrev pub ends_of : List Way → List ℕ
ends_of [] = []
ends_of (way ∷ ways) = end_of way ++ ends_of ways

-- the groups that grounds name, to be explained as well: the factors, or where the ways end
abbrev pub named_by : Grounds → List ℕ
named_by (Rows number ways) = ends_of ways.items
named_by (Factors op left right) = left ∷ right ∷ []

-- the groups on which there are statements
abbrev pub stated : List Statement → List ℕ
stated statements = map (λ (st : Statement). st.group) statements

-- each statement is on a group that is named before: by these, or by the statements before it
abbrev pub AreLed : List ℕ → List Statement → Type 0
AreLed named [] = ⊤
AreLed named (st ∷ sts) =
    (among st.group named ≡ true) × AreLed (named ++ named_by st.grounds) sts

-- groups, and behind them those of a list that aren't among them yet
abbrev pub with_new : List ℕ → List ℕ → List ℕ
with_new groups [] = groups
with_new groups (x ∷ xs) =
    with_new (if among x groups then groups else groups ++ x ∷ []) xs

-- the groups that are listed once these statements are made, behind those that were
abbrev pub listed_by : List ℕ → List Statement → List ℕ
listed_by groups [] = groups
listed_by groups (st ∷ sts) = listed_by (with_new groups (named_by st.grounds)) sts

-- no group stands twice
abbrev pub AreOnce : List ℕ → Type 0
AreOnce [] = ⊤
AreOnce (g ∷ gs) = (among g gs ≡ false) × AreOnce gs

-- each group that a statement names is stated
abbrev pub AreClosed : List ℕ → List Statement → Type 0
AreClosed groups statements =
    All (λ (st : Statement). All (λ h. among h groups ≡ true) (named_by st.grounds)) statements

-- the statements explain whether the person is a member of the group g: the first is on g, each is
-- right, and there is one on each group that another one names, and on no other group, in the order
-- in which they are named
pub record IsExplained (L : Live) (rows : List MemberRow) (s most g : ℕ) (sts : List Statement)
    : Type 0 where
  pub first : take 1 (stated sts) ≡ g ∷ []
  pub right : All (IsRight L rows s most) sts
  pub once : AreOnce (stated sts)
  pub closed : AreClosed (stated sts) sts
  pub led : AreLed (g ∷ []) sts
  pub order : stated sts ≡ listed_by (g ∷ []) sts
