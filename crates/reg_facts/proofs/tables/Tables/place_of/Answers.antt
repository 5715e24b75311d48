use Rattle.std.proofs.Common.{sym}
use Rattle.reg_facts.proofs.PlacedRows.{subject_nowhere}
use Rattle.reg_facts.proofs.tables.Tables.place_of.Goals as goal

pub returns-in-Subject : goal.returns-in-Subject
returns-in-Subject c = rw c.in-Subject.is (sym (subject_nowhere c.in-Subject.field-0 c.args.self.now))
