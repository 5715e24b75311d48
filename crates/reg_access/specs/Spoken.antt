-- What stands of an action on a resource.
use Rattle.std.specs.Prelude.{ℕ, List, [], length, Option, None, Some, if◌then◌else◌}
use Rattle.std.specs.List.{flat_map}
use Rattle.reg_terms.specs.Kinds.{as_group}
use Rattle.reg_terms.specs.declared.kinds.AttrValue.{AttrValue}
use Rattle.reg_terms.specs.declared.rows.AssignRow.{AssignRow}
use Rattle.reg_terms.specs.declared.rows.AttributeRow.{AttributeRow}
use Rattle.reg_table.specs.Keyed.{in_order}
use Rattle.reg_facts.specs.Attributes.{attribute_row}
use Rattle.reg_facts.specs.Lists.{Lists}
use Rattle.reg_access.specs.Covering.{covers}
use Rattle.reg_access.specs.Statements.{said, statement_cmp}
use Rattle.reg_access.specs.declared.statement.Source.{Source}
use Rattle.reg_access.specs.declared.statement.Statement.{Statement}

-- how long the extension of an attribute is, if the attribute covers another
abbrev pub covering_length : AttributeRow → Option AttributeRow → Option ℕ
covering_length r None = None
covering_length r (Some a) = if covers a r then Some (length a.extension) else None

-- where the statements of an assignment come from: it is a group's, and its attribute covers the
-- resource
abbrev pub source_of : ℕ → Option ℕ → Option ℕ → Option Source
source_of id None covering = None
source_of id (Some g) None = None
source_of id (Some g) (Some n) = Some (record { length = n; group = g; assign = id })

-- the statements of values that come from somewhere
abbrev pub said_from : Option Source → List ℕ → List AttrValue → List Statement
said_from None a vs = []
said_from (Some source) a vs = said source a 0 vs

-- the statements of an assignment
abbrev pub spoken : AttributeRow → List ℕ → List AttributeRow → AssignRow → List Statement
spoken r a attributes row =
    said_from (source_of row.id (as_group (Some row.owner))
    (covering_length r (attribute_row row.attribute attributes))) a row.values

-- and none where there is no assignment
abbrev pub spoken_by : AttributeRow → List ℕ → List AttributeRow → Option AssignRow → List Statement
spoken_by r a attributes None = []
spoken_by r a attributes (Some row) = spoken r a attributes row

-- the statements of all assignments, in the order in which they count
abbrev pub statements_on : Option AttributeRow → List ℕ → Lists → List Statement
statements_on None a f = []
statements_on (Some r) a f =
    in_order statement_cmp (flat_map (spoken r a f.attributes) f.assigns)

-- what stands of an action on a resource
unfoldable pub statements : Lists → ℕ → List ℕ → List Statement
statements f r a = statements_on (attribute_row r f.attributes) a f
