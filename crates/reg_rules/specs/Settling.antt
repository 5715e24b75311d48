-- Rounds of rules: what follows where memberships end, until nothing does.
use Rattle.std.specs.Prelude.{ℕ, zero, suc, ◌*◌, List, [], ◌∷◌, ◌++◌, Option, Some, None, Bool}
use Rattle.std.specs.Prelude.{length, if◌then◌else◌}
use Rattle.reg_terms.specs.declared.rows.RuleRow.{RuleRow}
use Rattle.reg_facts.specs.Lists.{Lists}
use Rattle.reg_effect.specs.Deltas.{ended}
use Rattle.reg_rules.specs.declared.actions.Action.{Action}
use Rattle.reg_rules.specs.Actions.{action_of, all_done}
use Rattle.reg_rules.specs.Live.{live}

-- an action, if there is one
abbrev pub listed : Option Action → List Action
listed None = []
listed (Some action) = action ∷ []

-- the actions of a rule for a person who lost a group: one at most
abbrev pub acting : ℕ → RuleRow → ℕ → ℕ → Lists → List Action
acting at rule g s f = listed (action_of at rule.id rule.form g s f)

-- the actions of rules by id for a person who lost a group, each on the facts as they then are
abbrev pub rule_actions : ℕ → List RuleRow → ℕ → ℕ → Lists → List Action
rule_actions at [] g s f = []
rule_actions at (rule ∷ rules) g s f =
    acting at rule g s f ++ rule_actions at rules g s (all_done (acting at rule g s f) f)

-- the actions of a round over pairs of a group and a person who lost it, one pair after another
abbrev pub round_actions : ℕ → List RuleRow → List (ℕ × ℕ) → Lists → List Action
round_actions at rules [] f = []
round_actions at rules (pair ∷ pairs) f =
    rule_actions at rules pair.0 pair.1 f
    ++ round_actions at rules pairs (all_done (rule_actions at rules pair.0 pair.1 f) f)

-- the facts after a round
abbrev pub round : ℕ → List (ℕ × ℕ) → Lists → Lists
round at pairs f = all_done (round_actions at f.rules pairs f) f

-- the actions of at most n rounds: one that acts is followed by one over the memberships that it
-- ended
abbrev pub settling_in : ℕ → ℕ → List (ℕ × ℕ) → Lists → List Action
settling_in zero at pairs f = []
settling_in (suc n) at pairs f = elim (round_actions at f.rules pairs f) [
  | [] ↦ []
  | action ∷ actions ↦ (action ∷ actions)
      ++ settling_in n at (ended (live at f) (live at (all_done (action ∷ actions) f)))
      (all_done (action ∷ actions) f)
]

-- the actions of all rounds at a moment, where these memberships (group, person) ended: each takes
-- a row away or ends one that had no end, so there are at most two for each row
unfoldable pub settling : List (ℕ × ℕ) → ℕ → Lists → List Action
settling pairs at f = settling_in (suc (2 * length f.rows)) at pairs f

-- the facts after what follows at a moment, where these memberships (group, person) ended
abbrev pub settle : List (ℕ × ℕ) → ℕ → Lists → Lists
settle pairs at f = all_done (settling pairs at f) f

-- of memberships that were turned, the pairs (group, person) that are members now, and those that
-- are members no longer
abbrev pub gains : List (ℕ × ℕ × Bool) → List (ℕ × ℕ)
gains [] = []
gains (turn ∷ turns) = if turn.2 then (turn.0, turn.1) ∷ gains turns else gains turns

abbrev pub losses : List (ℕ × ℕ × Bool) → List (ℕ × ℕ)
losses [] = []
losses (turn ∷ turns) = if turn.2 then losses turns else (turn.0, turn.1) ∷ losses turns
