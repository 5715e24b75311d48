use Rattle.csv.specs.Records.{fields_of}
use Rattle.reg_loader.proofs.Finding.{field_there, field_past}
use Rattle.reg_loader.proofs.columns.field_in.Goals as goal

pub returns-in-Some : goal.returns-in-Some
returns-in-Some c = field_there (fields_of c.args.fields.now) c.args.place c.in-Some.text.now (rw c.in-Some.is at c.get.ensures.value)

pub returns-in-None : goal.returns-in-None
returns-in-None c = field_past (fields_of c.args.fields.now) c.args.place (rw c.in-None.is at c.get.ensures.value)
