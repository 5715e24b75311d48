-- How assignments and their values are kept: a life for each, from when until when it stood.
use Rattle.std.specs.Prelude.{◌≡◌, ◌≤◌, ◌<◌, ◌==◌, ◌&&◌, ⊤, ℕ, suc, Bool, List, [], ◌∷◌, map}
use Rattle.std.specs.Prelude.{filter, not, nat_lt, Option, Some, None, option_map, true, false}
use Rattle.std.specs.Prelude.{if◌then◌else◌}
use Rattle.std.specs.BTreeMap.{BTreeMap, get}
use Rattle.std.specs.List.{AllByRecursion, find}
use Rattle.std.specs.Ordering.{nat_cmp}
use Rattle.reg_terms.specs.Digests.{digest}
use Rattle.reg_terms.specs.Kinds.{same_object}
use Rattle.reg_terms.specs.Values.{same_value}
use Rattle.reg_terms.specs.declared.kinds.AttrValue.{AttrValue}
use Rattle.reg_terms.specs.declared.kinds.Object.{Object}
use Rattle.reg_terms.specs.declared.rows.AssignRow.{AssignRow}
use Rattle.reg_pit.specs.Spans.{has_moment}
use Rattle.reg_pit.specs.declared.assign_lives.AssignLife.{AssignLife}
use Rattle.reg_pit.specs.declared.value_lives.ValueLife.{ValueLife}
use Rattle.reg_pit.specs.declared.value_lives.Standing.{Standing}

-- neither end of an interval is later than a moment
abbrev pub IsBy : ℕ → ℕ × Option ℕ → Type 0
IsBy at (s, None) = s ≤ at
IsBy at (s, Some e) = (s ≤ at) × (e ≤ at)

-- each number is above that before it, and the first above a floor
abbrev pub Rising : ℕ → List ℕ → Type 0
Rising floor [] = ⊤
Rising floor (n ∷ ns) = (floor < n) × Rising n ns

-- ---- assignments

-- whether an assignment stood at a moment
abbrev pub had : ℕ → AssignLife → Bool
had t life = has_moment t (life.from, life.until)

-- whether a life is that of an assignment to an owner
abbrev pub is_life : Object → ℕ → AssignLife → Bool
is_life o id life = same_object life.owner o && (life.id == id)

-- a life that ends at a moment, unless it has an end
abbrev pub ended : ℕ → AssignLife → AssignLife
ended at life = elim life.until [ None ↦ record life { until = Some at } | Some end ↦ life ]

-- those that pass a test end at a moment
abbrev pub gone_if : (AssignLife → Bool) → ℕ → AssignLife → AssignLife
gone_if test at life = if test life then ended at life else life

abbrev pub ids_of : List AssignLife → List ℕ
ids_of lives = map (λ (life : AssignLife). life.id) lives

-- the greatest id of lives by id; zero where there is none
abbrev pub last_from : ℕ → List AssignLife → ℕ
last_from n [] = n
last_from n (life ∷ lives) = last_from life.id lives

abbrev pub last_made : List AssignLife → ℕ
last_made lives = last_from 0 lives

-- the lives of the assignments to an owner
abbrev pub on_owner : Object → List AssignLife → List AssignLife
on_owner o lives = filter (λ (life : AssignLife). same_object life.owner o) lives

-- no life begins or ends later than a moment
abbrev pub AreLivesBy : ℕ → List AssignLife → Type 0
AreLivesBy at lives = AllByRecursion (λ (life : AssignLife). IsBy at (life.from, life.until)) lives

-- the owner of an assignment that was made
abbrev pub owner_of : ℕ → List AssignLife → Option Object
owner_of id lives =
    option_map (λ (life : AssignLife). life.owner) (find (λ (life : AssignLife). life.id
    == id) lives)

-- ids ascend, and the owners are those of the lives
pub record AreLives (lives : List AssignLife) (owners : BTreeMap ℕ Object) : Type 0 where
  pub rising : Rising 0 (ids_of lives)
  pub owned : (id : ℕ) → get nat_cmp owners id ≡ owner_of id lives

-- ---- values

-- whether a value stood at a moment
abbrev pub stood : ℕ → ValueLife → Bool
stood t life = has_moment t (life.from, life.until)

-- whether it has no end
abbrev pub is_open : ValueLife → Bool
is_open life = elim life.until [ None ↦ true | Some end ↦ false ]

-- the values that stood in an assignment at a moment, in the order in which they were added
abbrev pub values_at : List ValueLife → ℕ → ℕ → List AttrValue
values_at values a t =
    map (λ (life : ValueLife). life.value) (filter (λ (life : ValueLife). (life.assign == a)
    && stood t life) values)

-- the first value that is this one, of those that stand in an assignment
abbrev pub first_open : ℕ → AttrValue → List ValueLife → Option ValueLife
first_open a v values =
    find (λ (life : ValueLife). (life.assign == a)
    && (is_open life && same_value life.value v)) values

-- whether a life is that of a value of an assignment, by its number
abbrev pub is_numbered : ℕ → ℕ → ValueLife → Bool
is_numbered a n life = (life.assign == a) && (life.number == n)

-- a life that ends at a moment in the place of that of its number, which goes where the life would
-- be empty
abbrev pub closed_in : ValueLife → ℕ → List ValueLife → List ValueLife
closed_in closed at values =
    if nat_lt closed.from at
    then map (λ (life : ValueLife). if is_numbered closed.assign closed.number life then closed
    else life) values
    else filter (λ (life : ValueLife). not (is_numbered closed.assign closed.number life)) values

-- no life begins or ends later than a moment
abbrev pub AreValuesBy : ℕ → List ValueLife → Type 0
AreValuesBy at values =
    AllByRecursion (λ (life : ValueLife). IsBy at (life.from, life.until)) values

abbrev pub standing_of : ValueLife → Standing
standing_of life =
    record { assign = life.assign; digest = digest life.value; number = life.number }

-- numbers ascend, all are below the next one, and those that stand are known
pub record AreValues (values : List ValueLife) (standing : List Standing) (next : ℕ) : Type 0 where
  pub rising : Rising 0 (map (λ (life : ValueLife). suc life.number) values)
  pub below : AllByRecursion (λ (life : ValueLife). life.number < next) values
  pub known : standing ≡ map standing_of (filter is_open values)

-- ---- assignments with their values

-- an assignment with the values that a function gives it
abbrev pub row_of : (ℕ → List AttrValue) → AssignLife → AssignRow
row_of values life = record {
  id = life.id;
  attribute = life.attribute;
  owner = life.owner;
  values = values life.id;
}

-- the assignments that stood at a moment
abbrev pub rows_at : (ℕ → List AttrValue) → List AssignLife → ℕ → List AssignRow
rows_at values lives t = map (row_of values) (filter (had t) lives)

-- what was never made has no values
abbrev pub AreOfMade : List AssignLife → List ValueLife → Type 0
AreOfMade lives values = (a t : ℕ) → last_made lives < a → values_at values a t ≡ []
