use Rattle.std.proofs.Common.{◌≡◌, ◌<◌, ℕ, List, Some}
use Rattle.csv.specs.Reading.{Reached, Ready, default_config, source_of, strip_bom}
use Rattle.csv.specs.declared.parser.State.TheVariants as st
use Rattle.csv.specs.declared.reader.Trim.TheVariants as trim
use Rattle.reg_loader.specs.Tables.{Fields}
use Rattle.reg_loader.specs.Readings.{IsReading}
use Rattle.reg_loader.proofs.reading.read_table.Given as goal

abbrev pub invariant-loop-row : goal.invariant-loop-row
invariant-loop-row l = record {
  plain : l.row-iterator.rdr.trim ≡ trim.None;
  ready : Ready l.row-iterator.rdr;
  left : 0 < l.row-iterator.left;
  config : l.row-iterator.rdr.config ≡ default_config;
  list_is : l.reading.list ≡ l.fn.list;
  so_far : (rest : List ℕ) × (source_of (λ s. Some s.now) l.row-iterator.rdr ≡ Some rest)
      × (all : List Fields) × Reached default_config st.StartRecord (strip_bom l.fn.bytes) all l.row-iterator.rdr.state rest × IsReading l.fn.list all l.reading;
}
