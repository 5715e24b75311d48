-- What some actions come to: the facts, the actions so far, whom they turned, and the steps.
use Rattle.std.specs.Prelude.{◌≡◌, ◌≤◌, ◌<◌, ℕ, ◌+◌, List, ◌++◌}
use Rattle.reg_effect.specs.declared.live.Live.{Live}
use Rattle.reg_effect.specs.declared.turned.Turned.{Turned}
use Rattle.reg_effect.specs.Bound.{most_steps_of}
use Rattle.reg_effect.specs.Turned.{Remembers}
use Rattle.reg_rules.specs.declared.actions.Action.{Action}
use Rattle.reg_rules.specs.declared.actions.Action.TheVariants.{Removed, Ended}
use Rattle.reg_rules.specs.Actions.{all_done, changes_by}
use Rattle.reg_rules.specs.Live.{Now, live_now, IsOn}

-- an action can be carried out: its row is on, and an end lies later
abbrev pub CanAct : Now → Action → Type 0
CanAct now (Removed rule g s) = IsOn now g s
CanAct now (Ended rule g s until) = IsOn now g s × (now.clock < until)

-- the facts after some actions
abbrev pub after : List Action → Now → Now
after actions now = record now { facts = all_done actions now.facts }

-- what is gathered while rules act: what they did, whom that turned, and the steps that it took
pub record Gathered : Type 0 where
  pub actions : List Action
  pub turned : Turned
  pub steps : ℕ

abbrev pub gathered : List Action → Turned → ℕ → Gathered
gathered actions turned steps = record { actions = actions; turned = turned; steps = steps }

-- actions lead from facts to others: they are gathered in their order, whom they turn is
-- remembered, and they take at most the steps of their own changes
pub record Outcome (actions : List Action) (now next : Now) (old new : Gathered) : Type 0 where
  pub stands : next ≡ after actions now
  pub listed : new.actions ≡ old.actions ++ actions
  pub told : (M : Live) → Remembers M (live_now now) old.turned
      → Remembers M (live_now next) new.turned
  pub cost : new.steps ≤ old.steps + most_steps_of (changes_by actions) (live_now now)
