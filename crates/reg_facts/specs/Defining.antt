-- What the index beside the attributes holds: each by its definition.
use Rattle.std.specs.Prelude.{◌≡◌, List, map}
use Rattle.reg_terms.specs.declared.rows.AttributeRow.{AttributeRow}
use Rattle.reg_facts.specs.Ascending.{AttributesAscend}
use Rattle.reg_facts.specs.declared.attribute_rows.Defined.{Defined}

-- an attribute as it is found by its definition
abbrev pub defined_by : AttributeRow → Defined
defined_by row = record { definition = row.definition; attribute = row.id }

-- the index has the attributes, and their ids ascend
pub record AreDefined (index : List Defined) (rows : List AttributeRow) : Type 0 where
  pub same : index ≡ map defined_by rows
  pub ascend : AttributesAscend rows
