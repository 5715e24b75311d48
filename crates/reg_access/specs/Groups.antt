-- The state of a group's attestation at a moment, by the history of a machine.
use Rattle.std.specs.Prelude.{ℕ, List}
use Rattle.reg_facts.specs.Attributes.{assigns_on}
use Rattle.reg_machine.specs.History.{facts}
use Rattle.reg_machine.specs.Past.{last_name}
use Rattle.reg_terms.specs.declared.command.Stamped.{Stamped}
use Rattle.reg_terms.specs.declared.kinds.Object.TheVariants.{Attr, Group}
use Rattle.reg_terms.specs.declared.rows.AssignRow.{AssignRow}
use Rattle.reg_access.specs.declared.state.State.{State}
use Rattle.reg_access.specs.Assigned.{state_said}

-- the name that an attribute has now, or had when it went
abbrev pub attribute_name : List Stamped → ℕ → ℕ → List ℕ
attribute_name history now a = last_name history now (Attr a)

-- the assignments to a group at a moment, by id
abbrev pub assigned : List Stamped → ℕ → ℕ → List AssignRow
assigned history g t = assigns_on (Group g) (facts history t).assigns

-- the state of a group's attestation at a moment, by the names of now
abbrev pub attested_at : List Stamped → ℕ → ℕ → ℕ → State
attested_at history now g t =
    state_said (attribute_name history now) (assigned history g t) t
