-- The first refusal of a command after a history.
use Rattle.std.specs.Prelude.{ℕ, List, [], ◌∷◌, Option, Some, None, length, if◌then◌else◌}
use Rattle.reg_base.specs.declared.entity.Entity.{Entity}
use Rattle.reg_terms.specs.declared.command.Command.{Command}
use Rattle.reg_terms.specs.declared.command.Stamped.{Stamped}
use Rattle.reg_terms.specs.declared.refusal.Refusal.{Refusal}
use Rattle.reg_demand.specs.Refusing.{refused}
use Rattle.reg_machine.specs.Checks.{Check, checks}
use Rattle.reg_machine.specs.History.{facts}
use Rattle.reg_current.specs.Live.{live}
use Rattle.reg_machine.specs.Past.{log}

-- the first refusal whose test holds
abbrev pub first_of : List Check → Option Refusal
first_of [] = None
first_of (check ∷ more) = if check.0 then Some check.1 else first_of more

-- the one refusal, or else the other
abbrev pub or_else : Option Refusal → Option Refusal → Option Refusal
or_else None other = other
or_else (Some refusal) other = Some refusal

-- the first refusal of a command of a caller after a history, at a moment: who is no caller, what
-- isn't found or seen, what the caller lacks, and then all else
unfoldable pub refusal : List Stamped → ℕ → Entity → Command → Option Refusal
refusal history at by command =
    or_else (refused (live at (facts history at)) (facts history at) by command)
    (first_of (checks history (length (log history at)) at (facts history at) by command))
