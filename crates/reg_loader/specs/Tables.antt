-- What the bytes of a table say: its rows, or the first fault.
use Rattle.std.specs.Prelude.{◌≡◌, ℕ, Bool, ◌&&◌, ◌==◌, not, List, [], ◌∷◌, length, map, position}
use Rattle.std.specs.Prelude.{nat_lt, Option, Some, None, Result, Ok, Err, if◌then◌else◌}
use Rattle.std.specs.List.{list_all}
use Rattle.std.specs.Str.{is_utf8}
use Rattle.csv.specs.Reading.{default_config, records, strip_bom}
use Rattle.reg_terms.specs.declared.limits.TheConstants.{MAX_RECORDS}
use Rattle.reg_loader.specs.declared.columns.Columns.{Columns}
use Rattle.reg_loader.specs.declared.tables.TableRow.{TableRow}
use Rattle.reg_loader.specs.declared.tables.TableFault.{TableFault}
use Rattle.reg_loader.specs.declared.tables.TableFault.TheVariants.{Bad, TooMany, NoMemory}
use Rattle.reg_loader.specs.Columns.{columns_of}
use Rattle.reg_loader.specs.Rows.{row_of}

-- the fields of a record
abbrev pub Fields : Type 0
Fields = List (List ℕ)

-- the records of a table, the header first; a byte order mark in front is no part of them
abbrev pub records_in : List ℕ → List Fields
records_in bytes = records default_config (strip_bom bytes)

-- the record has so many fields, and each is UTF-8
abbrev pub is_whole : ℕ → Fields → Bool
is_whole width fields = (length fields == width) && list_all is_utf8 fields

-- the number of the first record that isn't whole
abbrev pub first_bad : ℕ → List Fields → Option ℕ
first_bad width all = position (λ fields. not (is_whole width fields)) all

-- the rows, where there aren't too many
abbrev pub rows_of : Columns → List Fields → Result (List TableRow) TableFault
rows_of columns rows =
    if nat_lt MAX_RECORDS (length rows) then Err TooMany else Ok (map (row_of columns) rows)

-- the rows, where every record is whole and there aren't too many
abbrev pub rows_under : Columns → Option ℕ → List Fields → Result (List TableRow) TableFault
rows_under columns (Some bad) rows = Err (Bad bad)
rows_under columns None rows = rows_of columns rows

-- the same under a header, where it has the columns
abbrev pub table_under : Option Columns → Fields → List Fields → Result (List TableRow) TableFault
table_under None header rows = Err (Bad 0)
table_under (Some columns) header rows =
    rows_under columns (first_bad (length header) (header ∷ rows)) rows

-- what records say to a load of many groups, or of one
abbrev pub table_of : Bool → List Fields → Result (List TableRow) TableFault
table_of list [] = Err (Bad 0)
table_of list (header ∷ rows) = table_under (columns_of list header) header rows

-- what bytes say to a load of many groups, or of one
unfoldable pub table_in : Bool → List ℕ → Result (List TableRow) TableFault
table_in list bytes = table_of list (records_in bytes)

-- a fault is this one, unless memory ran out
abbrev pub Fails : Result (List TableRow) TableFault → TableFault → Type 0
Fails said (Bad row) = said ≡ Err (Bad row)
Fails said TooMany = said ≡ Err TooMany
Fails said NoMemory = Unit {0}

-- an answer is this one, unless memory ran out
abbrev pub Answers : Result (List TableRow) TableFault → Result (List TableRow) TableFault → Type 0
Answers said (Ok rows) = said ≡ Ok rows
Answers said (Err fault) = Fails said fault
