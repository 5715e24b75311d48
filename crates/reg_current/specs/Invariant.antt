-- What stands at a moment: the facts, and beside them the effective memberships, the graph and the
-- dates to come.
use Rattle.std.specs.Prelude.{◌≡◌, ◌<◌, ℕ, List, IfSome}
use Rattle.std.specs.List.{AllByRecursion}
use Rattle.std.specs.List.Sorted.{IsPermutation}
use Rattle.reg_facts.specs.Lists.{Lists}
use Rattle.reg_terms.specs.declared.rows.GrantRow.{GrantRow}
use Rattle.reg_terms.specs.declared.rows.MemberRow.{MemberRow}
use Rattle.reg_effect.specs.declared.live.Live.{Live}
use Rattle.reg_effect.specs.Standing.{standing}
use Rattle.reg_current.specs.declared.dates.Dates.{Dates}
use Rattle.reg_current.specs.Coming.{FindsDates}
use Rattle.reg_current.specs.Live.{live}

-- a row that stands at a moment ends later, if it ends, and after it begins
abbrev pub IsOpen : ℕ → MemberRow → Type 0
IsOpen at row = IfSome row.until (λ u. (at < u) × (row.from < u))

-- a grant that stands at a moment ends later, if it ends, and one that hasn't begun begins later, and
-- before it ends
pub record IsGrantOpen (at : ℕ) (row : GrantRow) : Type 0 where
  pub begins : IfSome row.from (λ d. at < d)
  pub ends : IfSome row.until (λ u. at < u)
  pub after : IfSome row.from (λ d. IfSome row.until (λ u. d < u))

-- facts at a moment
pub record Now : Type 0 where
  pub clock : ℕ
  pub facts : Lists

-- what is kept beside the facts at a moment
pub record IsBeside (clock : ℕ) (lists : Lists) (kept : Live) (graph : List (ℕ
    × ℕ)) (dates : Dates) : Type 0 where
  pub sets : kept ≡ live clock lists
  pub edges : IsPermutation graph (standing lists.rows lists.composites)
  pub ends : AllByRecursion (IsOpen clock) lists.rows
  pub grants_open : AllByRecursion (IsGrantOpen clock) lists.grants
  pub coming : FindsDates dates clock lists
