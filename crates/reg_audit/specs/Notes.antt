-- What a step changes itself, taken from the facts before it.
use Rattle.std.specs.Prelude.{ℕ, List, Bool, ◌++◌, filter_map}
use Rattle.std.specs.List.{list_any}
use Rattle.reg_terms.specs.declared.event.Event.{Event}
use Rattle.reg_terms.specs.declared.kinds.Object.{Object}
use Rattle.reg_facts.specs.Lists.{Lists}
use Rattle.reg_rules.specs.declared.actions.Action.{Action}
use Rattle.reg_log.specs.declared.entries.Line.{Line}
use Rattle.reg_pit.specs.declared.assign_change.AssignChange.{AssignChange}
use Rattle.reg_audit.specs.Assigning.{assign_changes}
use Rattle.reg_audit.specs.Changed.{changed_grants, changes_others}
use Rattle.reg_audit.specs.Consumers.{consumer_note}
use Rattle.reg_audit.specs.Definitions.{attributes_made}
use Rattle.reg_audit.specs.Lines.{action_lines, direct_lines}
use Rattle.reg_audit.specs.Lives.{leaving}
use Rattle.reg_audit.specs.Objects.{made_by}
use Rattle.reg_audit.specs.declared.consumers.ConsumerNote.{ConsumerNote}
use Rattle.reg_audit.specs.declared.gone.Gone.{Gone}
use Rattle.reg_audit.specs.declared.grant_change.GrantChange.{GrantChange}

-- the moment, the entries of what is changed directly, the objects that are made, those that go
-- with their names, the attributes that are made with their definitions, what happens to
-- assignments and to consumers, the privileges and holders whose grants may change, and whether
-- others may; once rules acted, the entries have what they did too
pub record StepNotes : Type 0 where
  pub at : ℕ
  pub lines : List Line
  pub made : List Object
  pub gone : List Gone
  pub attributes : List (ℕ × ℕ)
  pub assigns : List AssignChange
  pub consumers : List ConsumerNote
  pub changed : List GrantChange
  pub changes_others : Bool

-- what events at a moment change, by the facts before them
abbrev pub notes_of : ℕ → Lists → List Event → StepNotes
notes_of at before events = record {
  at = at;
  lines = direct_lines at before events;
  made = made_by events;
  gone = leaving before events;
  attributes = attributes_made events;
  assigns = assign_changes events;
  consumers = filter_map consumer_note events;
  changed = changed_grants events;
  changes_others = list_any changes_others events;
}

-- and with what rules do after them, of which entries tell behind the rest
abbrev pub acted_notes : StepNotes → List Action → StepNotes
acted_notes notes actions = record notes { lines = notes.lines ++ action_lines notes.at actions }
