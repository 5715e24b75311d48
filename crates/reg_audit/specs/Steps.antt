-- The steps of a registry: an accepted command or a date that comes is one.
use Rattle.std.specs.Prelude.{◌≡◌, ◌≤◌, ℕ, List, [], ◌∷◌, Option, None, Some, nat_le, if◌then◌else◌}
use Rattle.std.specs.Option.{option_or}
use Rattle.reg_terms.specs.declared.event.Event.{Event}
use Rattle.reg_terms.specs.declared.kinds.Object.{Object}
use Rattle.reg_terms.specs.declared.rows.ConsumerRow.{ConsumerRow}
use Rattle.reg_facts.specs.Events.{all_happened}
use Rattle.reg_facts.specs.Lists.{Lists, start}
use Rattle.reg_effect.specs.declared.live.Live.{Live}
use Rattle.reg_effect.specs.Changes.{nothing}
use Rattle.reg_effect.specs.Member.{member}
use Rattle.reg_priv.specs.Grants.{grants}
use Rattle.reg_rules.specs.declared.actions.Action.{Action}
use Rattle.reg_audit.specs.Assigning.{AllMakeNew}

-- one step: its moment, the facts before it, what happens to them in order, what rules do after
-- that, in order, the facts after all of it, and the live data before and after
pub record Step : Type 0 where
  pub at : ℕ
  pub before : Lists
  pub events : List Event
  pub actions : List Action
  pub after : Lists
  pub live : Live
  pub live_after : Live

-- the last step of a moment that is at most t
abbrev pub last_by : ℕ → List Step → Option Step
last_by t [] = None
last_by t (step ∷ steps) =
    option_or (last_by t steps) (if nat_le step.at t then Some step else None)

-- the last step
abbrev pub last_of : List Step → Option Step
last_of [] = None
last_of (step ∷ steps) = option_or (last_of steps) (Some step)

-- the moment of a step, and 0 without one
abbrev pub moment_of : Option Step → ℕ
moment_of None = 0
moment_of (Some step) = step.at

-- the live data that a step leaves: without a step there are none
abbrev pub left_by : Option Step → Live
left_by None = nothing
left_by (Some step) = step.live_after

-- the facts that a step leaves: without a step there is the root folder alone
abbrev pub facts_of : Option Step → Lists
facts_of None = start
facts_of (Some step) = step.after

-- the moment of the last step
abbrev pub last_moment : List Step → ℕ
last_moment steps = moment_of (last_of steps)

-- the live data after the last step
abbrev pub last_live : List Step → Live
last_live steps = left_by (last_of steps)

-- the live data after the last step up to t
abbrev pub live_by : ℕ → List Step → Live
live_by t steps = left_by (last_by t steps)

-- the facts after the last step
abbrev pub last_facts : List Step → Lists
last_facts steps = facts_of (last_of steps)

-- the facts after the last step up to t
abbrev pub facts_by : ℕ → List Step → Lists
facts_by t steps = facts_of (last_by t steps)

-- the consumers after the last step
abbrev pub consumers_by : List Step → List ConsumerRow
consumers_by steps = (last_facts steps).consumers

-- a step comes after others: it isn't earlier, it begins with the memberships and the facts with
-- which the last one ended, its events alone change the consumers, the assignments and the grants,
-- and the assignments that they make are new
pub record FollowsOn (steps : List Step) (step : Step) : Type 0 where
  pub later : last_moment steps ≤ step.at
  pub members : (g s : ℕ) → member step.live g s ≡ member (last_live steps) g s
  pub before : step.before ≡ last_facts steps
  pub consumers_after : step.after.consumers ≡ (all_happened step.events step.before).consumers
  pub assigns_after : step.after.assigns ≡ (all_happened step.events step.before).assigns
  pub made_after : step.after.made.assigns ≡ (all_happened step.events step.before).made.assigns
  pub new_assigns : AllMakeNew step.events step.before
  pub grants_after : (o : Object)
      → grants o step.after ≡ grants o (all_happened step.events step.before)
