-- A command that stands in a history.
use Rattle.std.specs.Prelude.{◌≡◌, ℕ, suc, List, ◌∷◌, ◌++◌, Option, length}
use Rattle.reg_terms.specs.declared.command.Stamped.{Stamped}
use Rattle.reg_machine.specs.History.{facts}
use Rattle.reg_machine.specs.Ids.{made_id}

-- a command of the history has this number, and made what has this id
abbrev pub IsKeptAt : ℕ → Option ℕ → List Stamped → Type 0
IsKeptAt n id history =
    (before : List Stamped) × (after : List Stamped) × (s : Stamped)
    × (history ≡ before ++ s ∷ after) × (n ≡ suc (length before))
    × (id ≡ made_id s.command (facts before s.at))
