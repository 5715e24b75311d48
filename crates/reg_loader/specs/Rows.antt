-- The row that a record of a table gives.
use Rattle.std.specs.Prelude.{ℕ, List, [], get_or, option_map}
use Rattle.reg_loader.specs.declared.columns.Columns.{Columns}
use Rattle.reg_loader.specs.declared.tables.TableRow.{TableRow}

-- the text in a field; empty past the last
abbrev pub field : List (List ℕ) → ℕ → List ℕ
field fields place = get_or fields place []

-- the texts in the columns that are read
abbrev pub row_of : Columns → List (List ℕ) → TableRow
row_of columns fields =
    record {
      group = option_map (field fields) columns.group;
      source = option_map (field fields) columns.source;
      id = field fields columns.id;
    }
