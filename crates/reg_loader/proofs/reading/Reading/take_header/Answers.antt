use Rattle.std.proofs.Common.{sym, ◌∙◌, refl}
use Rattle.csv.specs.Records.{fields_of}
use Rattle.reg_loader.proofs.Takings.{header_taken}
use Rattle.reg_loader.proofs.reading.Reading.take_header.Goals as goal

pub returns-clause-taken : goal.returns-clause-taken
returns-clause-taken c =
    λ first. rw c.len.ensures (header_taken c.args.self.now.list (fields_of c.args.header.now) c.in-Some.columns _ (sym c.of.ensures ∙ c.in-Some.is) c.requires refl refl first.table_is)
