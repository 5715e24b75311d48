-- Actions that can be carried out one after another.
use Rattle.std.specs.Prelude.{⊤, List, [], ◌∷◌}
use Rattle.reg_rules.specs.declared.actions.Action.{Action}
use Rattle.reg_rules.specs.Live.{Now}
use Rattle.reg_rules.specs.Outcome.{after, CanAct}

-- each row is on when its action comes, and each end lies later
abbrev pub AllAct : List Action → Now → Type 0
AllAct [] now = ⊤
AllAct (action ∷ actions) now = CanAct now action × AllAct actions (after (action ∷ []) now)
