-- When grants are on: what they are at a later moment, as long as no command comes, and that those
-- that stand have the dates to come alone.
use Rattle.std.specs.Prelude.{◌≤◌, ℕ, List, Bool, true, false, not, None, Some, nat_le, map, filter}
use Rattle.std.specs.List.{AllByRecursion}
use Rattle.reg_terms.specs.declared.command.Stamped.{Stamped}
use Rattle.reg_terms.specs.declared.rows.GrantRow.{GrantRow}
use Rattle.reg_facts.specs.Grants.{to_come}
use Rattle.reg_current.specs.Invariant.{IsGrantOpen}
use Rattle.reg_machine.specs.History.{facts}

-- whether a grant has ended by a moment
abbrev pub has_ended : ℕ → GrantRow → Bool
has_ended t row = elim row.until [ None ↦ false | Some u ↦ nat_le u t ]

-- a grant at a moment: where it begins by then it is on
abbrev pub begun_by : ℕ → GrantRow → GrantRow
begun_by t row = record row { from = to_come t row.from }

-- what some grants are at a later moment: those that have ended by then are gone, and those that
-- begin by then are on
abbrev pub grants_by : ℕ → List GrantRow → List GrantRow
grants_by t rows = map (begun_by t) (filter (λ (row : GrantRow). not (has_ended t row)) rows)

-- at each moment up to the clock a grant that stands and hasn't begun begins later, and each ends
-- later, if it ends
abbrev pub AreOpened : List Stamped → ℕ → Type 0
AreOpened history clock =
    (t : ℕ) → t ≤ clock → AllByRecursion (IsGrantOpen t) (facts history t).grants
