-- That an attribute which stood at a moment was of the definition that the steps of a history tell.
use Rattle.std.specs.Prelude.{◌≡◌, ◌≤◌, ◌<◌, ℕ, List, None, Some}
use Rattle.reg_terms.specs.declared.command.Stamped.{Stamped}
use Rattle.reg_terms.specs.declared.rows.AttributeRow.{AttributeRow}
use Rattle.reg_facts.specs.Attributes.{attribute_row}
use Rattle.reg_audit.specs.Definitions.{definition_in}
use Rattle.reg_machine.specs.History.{facts}
use Rattle.reg_machine.specs.Past.{steps}

-- at each moment up to the clock, and what wasn't made has none
pub record AreDefined (history : List Stamped) (clock : ℕ) : Type 0 where
  pub defined : (t a : ℕ) (row : AttributeRow) → t ≤ clock
      → attribute_row a (facts history t).attributes ≡ Some row
      → definition_in a (steps history clock) ≡ Some row.definition
  pub new : (a : ℕ) → (facts history clock).made.attributes < a
      → definition_in a (steps history clock) ≡ None
