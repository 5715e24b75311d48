-- Which columns of a table are read, by the names in its header.
use Rattle.std.specs.Prelude.{ℕ, Bool, true, false, List, Option, Some, None, position, option_map}
use Rattle.std.specs.Prelude.{codes}
use Rattle.std.specs.Str.{str_eq_ignore_ascii_case}
use Rattle.reg_loader.specs.declared.columns.Columns.{Columns}

-- where the first column of this name stands, in any case of its ASCII letters
abbrev pub column : List ℕ → List (List ℕ) → Option ℕ
column name header = position (λ field. str_eq_ignore_ascii_case field name) header

-- with where the ids stand, and where the sources stand if they do
abbrev pub columns_with : Option ℕ → List (List ℕ) → Option Columns
columns_with group header =
    option_map (λ id. record {
      group = group;
      source = column (codes "SUBJECT_SOURCE_ID") header;
      id = id;
    }) (column (codes "SUBJECT_ID") header)

-- the columns that a load of many groups, or of one, reads; none where one is missing
abbrev pub columns_of : Bool → List (List ℕ) → Option Columns
columns_of true header =
    elim (column (codes "GROUP_NAME") header)
    [ None ↦ None | Some group ↦ columns_with (Some group) header ]
columns_of false header = columns_with None header
