use Rattle.reg_facts.proofs.PlacedRows.{group_some, group_none}
use Rattle.reg_facts.proofs.tables.Tables.group_place.Goals as goal

pub returns-in-Some : goal.returns-in-Some
returns-in-Some c = rw c.as_str.ensures (group_some c.args.id c.in-Some.row.now c.args.self.now (rw c.in-Some.is at c.group.ensures))

pub returns-in-None : goal.returns-in-None
returns-in-None c = group_none c.args.id c.args.self.now (rw c.in-None.is at c.group.ensures)
