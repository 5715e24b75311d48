-- What a person is allowed: the grounds, of which the first decides.
use Rattle.std.specs.Prelude.{◌≡◌, ◌==◌, ℕ, List, [], ◌∷◌, Bool, true, false, filter, map}
use Rattle.std.specs.Prelude.{Option, None, Some}
use Rattle.std.specs.List.{list_any}
use Rattle.std.specs.List.Sorted.{IsStrictlySortedBy}
use Rattle.std.specs.Ordering.{nat_cmp}
use Rattle.reg_graph.specs.Edges.{among}
use Rattle.reg_effect.specs.Member.{member}
use Rattle.reg_effect.specs.declared.live.Live.{Live}
use Rattle.reg_facts.specs.Attributes.{definition_of}
use Rattle.reg_facts.specs.Lists.{Lists}
use Rattle.reg_terms.specs.declared.rows.DefinitionRow.{DefinitionRow}
use Rattle.reg_access.specs.Covering.{is_permission}
use Rattle.reg_access.specs.Spoken.{statements}
use Rattle.reg_access.specs.declared.ground.Ground.{Ground}
use Rattle.reg_access.specs.declared.statement.Statement.{Statement}

-- whether an attribute is a resource
abbrev pub is_defined : Option DefinitionRow → Bool
is_defined None = false
is_defined (Some row) = is_permission row

abbrev pub is_resource : ℕ → Lists → Bool
is_resource r f = is_defined (definition_of r f)

-- a statement as a ground
abbrev pub ground_of : Statement → Ground
ground_of st = record { assign = st.source.assign; place = st.place; allow = st.saying.allow }

-- whether a statement is of a group that has a person
abbrev pub is_of : Live → ℕ → Statement → Bool
is_of L s st = member L st.source.group s

-- those of some statements that count for a person
abbrev pub grounds_among : Live → ℕ → List Statement → List Ground
grounds_among L s sts = map ground_of (filter (is_of L s) sts)

-- what counts for a person and an action on a resource, in order
abbrev pub grounds : Live → Lists → ℕ → ℕ → List ℕ → List Ground
grounds L f s r a = grounds_among L s (statements f r a)

-- the first of some grounds
abbrev pub first_of : List Ground → Option Ground
first_of [] = None
first_of (g ∷ more) = Some g

-- whether a ground allows, and where there is none nothing is allowed
abbrev pub allows : Option Ground → Bool
allows None = false
allows (Some g) = g.allow

-- whether a person is allowed an action on a resource: the first of the grounds decides
abbrev pub is_allowed : Live → Lists → ℕ → List ℕ → ℕ → Bool
is_allowed L f r a s = allows (first_of (grounds L f s r a))

-- each member of some groups is among the persons of whom it is decided
pub record AreDecided (L : Live) (groups decided : List ℕ) : Type 0 where
  pub each : (g q : ℕ) → among g groups ≡ true → member L g q ≡ true → among q decided ≡ true

-- the numbers that pass a test, ascending
pub record AreThose (test : ℕ → Bool) (numbers : List ℕ) : Type 0 where
  pub ascending : IsStrictlySortedBy nat_cmp numbers
  pub each : (n : ℕ) → list_any (λ x. x == n) numbers ≡ test n
