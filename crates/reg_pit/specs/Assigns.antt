-- Assignments at the moments of the past, and how they change.
use Rattle.std.specs.Prelude.{◌≡◌, ◌<◌, ◌==◌, ◌++◌, ⊤, ℕ, List, [], ◌∷◌, not, map, filter, nat_le}
use Rattle.std.specs.Prelude.{if◌then◌else◌}
use Rattle.reg_terms.specs.Kinds.{same_object}
use Rattle.reg_terms.specs.Values.{with_value, without_value}
use Rattle.reg_terms.specs.declared.rows.AssignRow.{AssignRow}
use Rattle.reg_pit.specs.Lives.{AreLivesBy, AreValuesBy, last_made, rows_at, values_at}
use Rattle.reg_pit.specs.declared.assign_change.AssignChange.{AssignChange}
use Rattle.reg_pit.specs.declared.assign_change.AssignChange.TheVariants.{Made, Gone, ValueAdded}
use Rattle.reg_pit.specs.declared.assign_change.AssignChange.TheVariants.{ValueRemoved, OwnerGone}
use Rattle.reg_pit.specs.declared.assign_lives.AssignLife.{AssignLife}
use Rattle.reg_pit.specs.declared.value_lives.ValueLife.{ValueLife}

-- the assignments after a change
abbrev pub changed : AssignChange → List AssignRow → List AssignRow
changed (Made id attribute owner) rows =
    rows ++ (record { id = id; attribute = attribute; owner = owner; values = [] }) ∷ []
changed (Gone id) rows = filter (λ (row : AssignRow). not (row.id == id)) rows
changed (ValueAdded id v) rows = map (with_value id v) rows
changed (ValueRemoved id v) rows = map (without_value id v) rows
changed (OwnerGone o) rows = filter (λ (row : AssignRow). not (same_object row.owner o)) rows

-- what is made has a later id than all before
abbrev pub IsNew : AssignChange → ℕ → Type 0
IsNew (Made id attribute owner) last = last < id
IsNew _ last = ⊤

-- the greatest id after a change
abbrev pub last_after : AssignChange → ℕ → ℕ
last_after (Made id attribute owner) last = id
last_after _ last = last

-- the assignments at a moment, with the values that stood then
abbrev pub assigned_at : List AssignLife × List ValueLife → ℕ → List AssignRow
assigned_at assigns t = rows_at (λ a. values_at assigns.1 a t) assigns.0 t

-- the greatest id
abbrev pub last_of : List AssignLife × List ValueLife → ℕ
last_of assigns = last_made assigns.0

-- nothing was noted later than a moment
pub record AreAssignedBy (at : ℕ) (assigns : List AssignLife × List ValueLife) : Type 0 where
  pub lives : AreLivesBy at assigns.0
  pub values : AreValuesBy at assigns.1

-- a change was noted at a moment
pub record Noted (at : ℕ) (change : AssignChange)
    (old new : List AssignLife × List ValueLife) : Type 0 where
  pub rows : (t : ℕ) → assigned_at new t
      ≡ (if nat_le at t then changed change (assigned_at old t) else assigned_at old t)
  pub last : AreAssignedBy at new
  pub greatest : last_of new ≡ last_after change (last_of old)
