use Rattle.std.proofs.Common.{◌≡◌, None, take}
use Rattle.csv.specs.Records.{fields_of}
use Rattle.reg_loader.specs.Columns.{column}
use Rattle.reg_loader.proofs.columns.column.Given as goal

abbrev pub invariant-loop-place : goal.invariant-loop-place
invariant-loop-place l = column l.name (take l.place (fields_of l.header)) ≡ None
