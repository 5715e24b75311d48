-- The changes of live data that events make, and the steps that these may take.
use Rattle.std.specs.Prelude.{ℕ, ◌+◌, ◌∷◌, List, [], Bool, true, false, nat_le}
use Rattle.reg_terms.specs.declared.event.Event.{Event}
use Rattle.reg_terms.specs.declared.event.Event.TheVariants.{RowAdded, RowRemoved, RowRedated}
use Rattle.reg_terms.specs.declared.event.Event.TheVariants.{Composed, Decomposed}
use Rattle.reg_terms.specs.declared.kinds.Member.{Member}
use Rattle.reg_facts.specs.Events.{happened}
use Rattle.reg_facts.specs.Lists.{Lists}
use Rattle.reg_effect.specs.declared.live.Live.{Live}
use Rattle.reg_effect.specs.declared.live.Change.{Change}
use Rattle.reg_effect.specs.declared.live.Change.TheVariants.{RowOn, RowOff, FactorsOn, FactorsOff}
use Rattle.reg_effect.specs.Bound.{most_steps_of}
use Rattle.reg_effect.specs.Order.{has_live_row}
use Rattle.reg_current.specs.Live.{live}

-- a row that was on or not, and is on or not after
abbrev pub turning : Bool → Bool → ℕ → Member → List Change
turning true true g m = []
turning true false g m = RowOff g m ∷ []
turning false true g m = RowOn g m ∷ []
turning false false g m = []

-- the changes of live data that an event makes at a moment, in order: a row that comes is on where
-- it has begun
unfoldable pub changes_of : ℕ → Event → Live → List Change
changes_of at (RowAdded row) L = turning false (nat_le row.from at) row.group row.member
changes_of at (RowRemoved g m) L = turning (has_live_row g m L.rows) false g m
changes_of at (RowRedated g m from until) L = turning (has_live_row g m L.rows) (nat_le from at) g m
changes_of at (Composed row) L = FactorsOn row.group row.op row.left row.right ∷ []
changes_of at (Decomposed g) L = FactorsOff g ∷ []
changes_of at _ L = []

-- the most steps that an event takes at a moment
abbrev pub event_steps : ℕ → Event → Lists → ℕ
event_steps at e f = most_steps_of (changes_of at e (live at f)) (live at f)

-- and those of some events, one after another
abbrev pub events_steps : ℕ → List Event → Lists → ℕ
events_steps at [] f = 0
events_steps at (e ∷ es) f = event_steps at e f + events_steps at es (happened e f)
