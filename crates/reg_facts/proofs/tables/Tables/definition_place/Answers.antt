use Rattle.reg_facts.proofs.PlacedRows.{definition_some, definition_none}
use Rattle.reg_facts.proofs.tables.Tables.definition_place.Goals as goal

pub returns-in-Some : goal.returns-in-Some
returns-in-Some c = rw c.as_str.ensures (definition_some c.args.id c.in-Some.row.now c.args.self.now (rw c.in-Some.is at c.definition.ensures))

pub returns-in-None : goal.returns-in-None
returns-in-None c = definition_none c.args.id c.args.self.now (rw c.in-None.is at c.definition.ensures)
