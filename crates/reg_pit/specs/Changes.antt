-- When what is assigned to an owner may have changed: where a life begins or ends.
use Rattle.std.specs.Prelude.{◌==◌, ◌&&◌, ◌||◌, ℕ, List, Bool, Option, Some, None}
use Rattle.std.specs.List.{list_any}
use Rattle.reg_terms.specs.declared.kinds.Object.{Object}
use Rattle.reg_pit.specs.Lives.{on_owner}
use Rattle.reg_pit.specs.declared.assign_lives.AssignLife.{AssignLife}
use Rattle.reg_pit.specs.declared.value_lives.ValueLife.{ValueLife}

-- whether a moment is among some
abbrev pub among : ℕ → List ℕ → Bool
among m moments = list_any (λ x. x == m) moments

-- whether an interval begins or ends at a moment
abbrev pub is_end : ℕ → ℕ × Option ℕ → Bool
is_end m (s, None) = s == m
is_end m (s, Some e) = (s == m) || (e == m)

-- whether a value came into an assignment, or went, at a moment
abbrev pub value_changes : List ValueLife → ℕ → ℕ → Bool
value_changes values a m =
    list_any (λ (life : ValueLife). (life.assign == a) && is_end m (life.from, life.until)) values

-- whether an assignment or a value in it came or went at a moment
abbrev pub assign_changes : List ValueLife → ℕ → AssignLife → Bool
assign_changes values m life =
    is_end m (life.from, life.until) || value_changes values life.id m

-- whether that was so of an assignment to an owner
abbrev pub changes_on : List AssignLife × List ValueLife → Object → ℕ → Bool
changes_on assigns o m = list_any (assign_changes assigns.1 m) (on_owner o assigns.0)
