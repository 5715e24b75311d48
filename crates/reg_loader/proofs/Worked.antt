-- Worked tables, computed from the definitions.
use Rattle.std.proofs.Common.{◌≡◌, Bool, true, false, [], ◌∷◌, ◌++◌, Some, None, Ok, Err, codes, refl}
use Rattle.std.specs.Str.{chars, is_utf8}
use lib.Utf8.{encode}
use Rattle.csv.proofs.OnLiterals.{csv_on_literals}
use Rattle.reg_loader.specs.declared.tables.TableFault.TheVariants.{Bad}
use Rattle.reg_loader.specs.Tables.{table_in}

-- no bytes, and a byte order mark alone
no_bytes : (list : Bool) → table_in list [] ≡ Err (Bad 0)
unfolding table_in csv_on_literals
no_bytes list = refl

mark_alone : (list : Bool) → table_in list (239 ∷ 187 ∷ 191 ∷ []) ≡ Err (Bad 0)
unfolding table_in csv_on_literals
mark_alone list = refl

-- a record of another width, and one that isn't UTF-8
wider : table_in false (codes "SUBJECT_ID\nann,x\n") ≡ Err (Bad 1)
unfolding table_in csv_on_literals is_utf8 chars encode
wider = refl

not_text : table_in false (codes "SUBJECT_ID\n" ++ 255 ∷ 10 ∷ []) ≡ Err (Bad 1)
unfolding table_in csv_on_literals is_utf8 chars encode
not_text = refl

-- a column that is missing
no_column : table_in false (codes "ID\np1\n") ≡ Err (Bad 0)
unfolding table_in csv_on_literals
no_column = refl

-- a name in other letters, and no line's end at the end
small_letters : table_in false (codes "subject_id\r\nann") ≡ Ok (record { group = None; source = None; id = codes "ann" } ∷ [])
unfolding table_in csv_on_literals is_utf8 chars encode
small_letters = refl

-- two groups
two_groups : table_in true (codes "GROUP_NAME,SUBJECT_ID\napp:x,ann\nother:y,ann\n")
    ≡ Ok (record { group = Some (codes "app:x"); source = None; id = codes "ann" } ∷ record { group = Some (codes "other:y"); source = None; id = codes "ann" } ∷ [])
unfolding table_in csv_on_literals is_utf8 chars encode
two_groups = refl
