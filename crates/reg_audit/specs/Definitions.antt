-- Of which definitions attributes were made.
use Rattle.std.specs.Prelude.{ℕ, ◌==◌, List, [], ◌∷◌, Option, None, Some, filter_map, flat_map}
use Rattle.std.specs.Prelude.{if◌then◌else◌}
use Rattle.reg_terms.specs.declared.event.Event.{Event}
use Rattle.reg_terms.specs.declared.event.Event.TheVariants.{AttributeMade}
use Rattle.reg_audit.specs.Steps.{Step}

-- the attribute that an event makes, and its definition
abbrev pub attribute_made : Event → Option (ℕ × ℕ)
attribute_made (AttributeMade row) = Some (row.id, row.definition)
attribute_made _ = None

-- the attributes that some events make
abbrev pub attributes_made : List Event → List (ℕ × ℕ)
attributes_made events = filter_map attribute_made events

-- all that were made, in order
abbrev pub all_attributes : List Step → List (ℕ × ℕ)
all_attributes steps = flat_map (λ (step : Step). attributes_made step.events) steps

-- the definition of an attribute by the last of these that is it, or else the one that was known
-- before
abbrev pub last_definition : ℕ → Option ℕ → List (ℕ × ℕ) → Option ℕ
last_definition a known [] = known
last_definition a known (made ∷ rest) =
    last_definition a (if made.0 == a then Some made.1 else known) rest

-- the definition of which an attribute was made: none if it was never made
unfoldable pub definition_in : ℕ → List Step → Option ℕ
definition_in a steps = last_definition a None (all_attributes steps)
