-- What one rule does for a person who stopped being a member of a group, and what that changes.
use Rattle.std.specs.Prelude.{ℕ, ◌+◌, ◌*◌, ◌==◌, ◌&&◌, List, [], ◌∷◌, Option, Some, None, map}
use Rattle.std.specs.Prelude.{nat_lt, nat_le, if◌then◌else◌}
use Rattle.std.specs.List.{find}
use Rattle.reg_base.specs.Calendar.{day_micros}
use Rattle.reg_base.specs.declared.moment.TheConstants.{GREATEST_MOMENT}
use Rattle.reg_terms.specs.declared.event.Event.{Event}
use Rattle.reg_terms.specs.declared.event.Event.TheVariants.{RowRemoved, RowRedated}
use Rattle.reg_terms.specs.declared.kinds.Member.TheVariants.{Person}
use Rattle.reg_terms.specs.declared.kinds.RuleForm.{RuleForm}
use Rattle.reg_terms.specs.declared.kinds.RuleForm.TheVariants.{RemoveLost, EndLost, Veto, OnCreate}
use Rattle.reg_terms.specs.declared.rows.MemberRow.{MemberRow}
use Rattle.reg_terms.specs.Rows.{is_row}
use Rattle.reg_facts.specs.Events.{happened}
use Rattle.reg_facts.specs.Lists.{Lists}
use Rattle.reg_effect.specs.declared.live.Change.{Change}
use Rattle.reg_effect.specs.declared.live.Change.TheVariants.{RowOff}
use Rattle.reg_rules.specs.declared.actions.Action.{Action}
use Rattle.reg_rules.specs.declared.actions.Action.TheVariants.{Removed, Ended}
use Rattle.reg_rules.specs.Live.{row_on}

-- the moment so many days later: none past the greatest moment, and none for no days
abbrev pub days_later : ℕ → ℕ → Option ℕ
days_later at days =
    if nat_lt at (at + days * day_micros) && nat_le (at + days * day_micros) GREATEST_MOMENT
    then Some (at + days * day_micros) else None

-- the row goes, if there is one
abbrev pub removal : ℕ → ℕ → ℕ → Option MemberRow → Option Action
removal rule g s None = None
removal rule g s (Some row) = Some (Removed rule g s)

-- a row gets an end, if there is such a moment
abbrev pub ended_by : ℕ → ℕ → ℕ → Option ℕ → Option Action
ended_by rule g s None = None
ended_by rule g s (Some until) = Some (Ended rule g s until)

-- and that only where it has none
abbrev pub end_at : ℕ → ℕ → ℕ → Option ℕ → Option ℕ → Option Action
end_at rule g s until None = ended_by rule g s until
end_at rule g s until (Some u) = None

-- the row, if there is one, gets an end
abbrev pub ending : ℕ → ℕ → ℕ → Option ℕ → Option MemberRow → Option Action
ending rule g s until None = None
ending rule g s until (Some row) = end_at rule g s until row.until

-- what a rule does at a moment for a person who lost a group, by its form
abbrev pub action_of : ℕ → ℕ → RuleForm → ℕ → ℕ → Lists → Option Action
action_of at rule (RemoveLost check owner) g s f =
    if check == g then removal rule owner s (row_on at owner s f) else None
action_of at rule (EndLost check owner days) g s f =
    if check == g then ending rule owner s (days_later at days) (row_on at owner s f) else None
action_of at rule (Veto owner condition) g s f = None
action_of at rule (OnCreate folder scope privilege holder) g s f = None

-- a row with another end
abbrev pub with_end : ℕ → ℕ → ℕ → MemberRow → MemberRow
with_end g s until row = if is_row g (Person s) row then record row { until = Some until } else row

-- the facts after an action: the row is gone, or has its end, and nothing else changed
abbrev pub done : Action → Lists → Lists
done (Removed rule g s) f = happened (RowRemoved g (Person s)) f
done (Ended rule g s until) f = record f { rows = map (with_end g s until) f.rows }

-- the facts after some actions, one after another
abbrev pub all_done : List Action → Lists → Lists
all_done [] f = f
all_done (action ∷ actions) f = all_done actions (done action f)

-- when a row began
abbrev pub beginning : Option MemberRow → ℕ
beginning None = 0
beginning (Some row) = row.from

-- the event that an action is: the row is gone, or has another end from the same beginning on
abbrev pub event_of : Action → Lists → Event
event_of (Removed rule g s) f = RowRemoved g (Person s)
event_of (Ended rule g s until) f =
    RowRedated g (Person s) (beginning (find (is_row g (Person s)) f.rows)) (Some until)

-- and the events that some actions are, one after another
abbrev pub events_of : List Action → Lists → List Event
events_of [] f = []
events_of (action ∷ actions) f = event_of action f ∷ events_of actions (done action f)

-- the changes of live data that actions make: a row that gets an end stays on
abbrev pub changes_by : List Action → List Change
changes_by [] = []
changes_by (Removed rule g s ∷ actions) = RowOff g (Person s) ∷ changes_by actions
changes_by (Ended rule g s until ∷ actions) = changes_by actions
