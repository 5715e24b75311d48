-- What a reading of a table's records keeps of those that it took.
use Rattle.std.specs.Prelude.{◌≡◌, Bool, List, [], ◌∷◌, suc, take, map, length, Some, None}
use Rattle.reg_terms.specs.declared.limits.TheConstants.{MAX_RECORDS}
use Rattle.reg_loader.specs.declared.columns.Columns.{Columns}
use Rattle.reg_loader.specs.declared.reading.Reading.{Reading}
use Rattle.reg_loader.specs.Columns.{columns_of}
use Rattle.reg_loader.specs.Rows.{row_of}
use Rattle.reg_loader.specs.Tables.{Fields, first_bad}

-- a header and the rows under it, none of them bad
pub record IsUnder (list : Bool) (header : Fields) (rows : List Fields)
    (reading : Reading) : Type 0 where
  pub columns : Columns
  pub found : columns_of list header ≡ Some columns
  pub header_is : reading.header ≡ Some (record { columns = columns; width = length header })
  pub whole : first_bad (length header) (header ∷ rows) ≡ None
  pub count_is : reading.count ≡ suc (length rows)
  pub table_is : reading.table ≡ map (row_of columns) (take MAX_RECORDS rows)

-- no record yet
pub record IsFirst (reading : Reading) : Type 0 where
  pub header_is : reading.header ≡ None
  pub count_is : reading.count ≡ 0
  pub table_is : reading.table ≡ []

-- these records were taken, and none of them is bad
abbrev pub IsReading : Bool → List Fields → Reading → Type 0
IsReading list [] reading = IsFirst reading
IsReading list (header ∷ rows) reading = IsUnder list header rows reading
