use Rattle.std.proofs.lemmas.Bool.{false≢true}
use Rattle.csv.specs.Records.{fields_of}
use Rattle.reg_loader.proofs.Takings.{bad_text}
use Rattle.reg_loader.proofs.reading.Reading.take.Goals as goal

pub returns-in_default-clause-refused : goal.returns-in_default-clause-refused
returns-in_default-clause-refused c =
    λ all more at. bad_text c.args.self.now.list all (fields_of c.args.fields) more c.args.self.now (λ text. false≢true (rw c.in_default.is at (c.from_byte_record.ensures.refused text))) at
