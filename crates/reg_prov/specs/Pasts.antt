-- What is known of groups: when each was granted, and when each person was a member.
use Rattle.std.specs.Prelude.{◌≡◌, ◌≤◌, ◌<◌, ⊤, ℕ, ◌==◌, List, [], ◌∷◌, Bool, false, Option}
use Rattle.std.specs.Prelude.{Some, None, if◌then◌else◌}
use Rattle.std.specs.List.{AllByRecursion}
use Rattle.reg_prov.specs.declared.past.GroupPast.{GroupPast}
use Rattle.reg_prov.specs.Spans.{ByPerson, spans_in, wished}

-- whether a pair is wanted at a moment: of groups that aren't known nothing is
abbrev pub want_in : List GroupPast → ℕ → ℕ → ℕ → Bool
want_in [] t g s = false
want_in (past ∷ pasts) t g s =
    if past.group == g then wished past.grants.items (spans_in s past.members.items) t
    else want_in pasts t g s

-- groups ascend, and of each the persons
abbrev pub AreByGroup : List GroupPast → Type 0
AreByGroup [] = ⊤
AreByGroup (past ∷ pasts) =
    AllByRecursion (λ (later : GroupPast). past.group < later.group) pasts
    × ByPerson past.members.items × AreByGroup pasts

-- what is known of groups tells up to a moment who is wanted when
pub record Tell (want : ℕ → ℕ → ℕ → Bool) (clock : ℕ) (pasts : List GroupPast) : Type 0 where
  pub ordered : AreByGroup pasts
  pub each : (t g s : ℕ) → t ≤ clock → want_in pasts t g s ≡ want t g s

-- what is known of a group tells so of the group: nobody is wanted where nothing is known
abbrev pub TellsOf : (ℕ → ℕ → ℕ → Bool) → ℕ → ℕ → Option GroupPast → Type 0
TellsOf want clock g None = (t s : ℕ) → t ≤ clock → want t g s ≡ false
TellsOf want clock g (Some past) =
    (past.group ≡ g) × ByPerson past.members.items
    × ((t s : ℕ) → t ≤ clock
    → wished past.grants.items (spans_in s past.members.items) t ≡ want t g s)
