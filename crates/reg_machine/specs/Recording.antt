-- What a machine keeps of the past: the record of the steps of its history.
use Rattle.std.specs.Prelude.{ℕ, ◌+◌, List, [], ◌∷◌, ◌++◌}
use Rattle.reg_terms.specs.declared.command.Stamped.{Stamped}
use Rattle.reg_terms.specs.declared.event.Event.{Event}
use Rattle.reg_facts.specs.Events.{all_happened}
use Rattle.reg_facts.specs.Lists.{Lists}
use Rattle.reg_effect.specs.declared.live.Live.{Live}
use Rattle.reg_effect.specs.Bound.{most_steps_of}
use Rattle.reg_effect.specs.Deltas.{ended}
use Rattle.reg_rules.specs.declared.actions.Action.{Action}
use Rattle.reg_rules.specs.Actions.{changes_by}
use Rattle.reg_rules.specs.Settling.{settle, settling}
use Rattle.reg_audit.specs.Audit.{IsAudit}
use Rattle.reg_audit.specs.Steps.{Step, FollowsOn}
use Rattle.reg_audit.specs.declared.audit.Audit.{Audit}
use Rattle.reg_machine.specs.Defining.{AreDefined}
use Rattle.reg_machine.specs.Formed.{AreFormed}
use Rattle.reg_machine.specs.GrantDates.{AreOpened}
use Rattle.reg_current.specs.Invariant.{Now}
use Rattle.reg_machine.specs.Invariant.{IsInStep}
use Rattle.reg_current.specs.Live.{live}
use Rattle.reg_machine.specs.Past.{AreKnown, AreLived, steps}
use Rattle.reg_machine.specs.Standing.{AreStood}
use Rattle.reg_current.specs.Steps.{events_steps}

-- facts at a moment, and the record of the steps up to it
pub record Recording : Type 0 where
  pub now : Now
  pub audit : Audit

abbrev pub recording : Now → Audit → Recording
recording now audit = record { now = now; audit = audit }

-- what rules do after some events
abbrev pub actions_after : Now → List Event → List Action
actions_after now es =
    settling (ended (live now.clock now.facts) (live now.clock (all_happened es now.facts)))
    now.clock (all_happened es now.facts)

-- the facts after some events and what follows them
abbrev pub settled_after : Now → List Event → Lists
settled_after now es =
    settle (ended (live now.clock now.facts) (live now.clock (all_happened es now.facts))) now.clock
    (all_happened es now.facts)

-- the step that some events make, with what rules do after them
abbrev pub carried_step : Now → List Event → Step
carried_step now es = record {
  at = now.clock;
  before = now.facts;
  events = es;
  actions = actions_after now es;
  after = settled_after now es;
  live = live now.clock now.facts;
  live_after = live now.clock (settled_after now es);
}

-- the step that leads from facts with live data L by events to facts at a moment, with what rules
-- do then
abbrev pub settled_step : ℕ → Lists → List Event → Live → Lists → Step
settled_step at before es L f = record {
  at = at;
  before = before;
  events = es;
  actions = settling (ended L (live at f)) at f;
  after = settle (ended L (live at f)) at f;
  live = L;
  live_after = live at (settle (ended L (live at f)) at f);
}

-- the most steps that they take
abbrev pub carried_steps : Now → List Event → ℕ
carried_steps now es =
    events_steps now.clock es now.facts
    + most_steps_of (changes_by (actions_after now es)) (live now.clock (all_happened es now.facts))

-- a record has a step more, where that comes after the others
abbrev pub Records : Audit → Audit → Step → Type 0
Records old new step =
    (steps : List Step) → IsAudit steps old → FollowsOn steps step
    → IsAudit (steps ++ step ∷ []) new

-- what stands is what the history gives, and the record is of its steps
pub record IsRecorded (history : List Stamped) (recording : Recording) : Type 0 where
  pub in_step : IsInStep history recording.now
  pub audit : IsAudit (steps history recording.now.clock) recording.audit
  pub lived : AreLived history recording.now.clock
  pub known : AreKnown history recording.now.clock
  pub stood : AreStood history recording.now.clock
  pub defined : AreDefined history recording.now.clock
  pub formed : AreFormed recording.now.facts
  pub opened : AreOpened history recording.now.clock
