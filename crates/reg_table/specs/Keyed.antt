-- Rows by their keys, in words of lists.
use Rattle.std.specs.Prelude.{Bool, ◌&&◌, List, [], ◌∷◌}
use Rattle.std.specs.BTreeSet.{insert_key}
use Rattle.std.specs.Ordering.{ordering_then}
use Rattle.std.specs.declared.cmp.Ordering.{Ordering}

-- whether a row stands in a group
abbrev pub is_of : {G R : Type 0} → (G → G → Bool) → (R → G) → G → R → Bool
is_of eq group_of g row = eq (group_of row) g

-- whether a row stands in a group at a place
abbrev pub is_row : {G P R : Type 0} → (G → G → Bool) → (P → P → Bool) → (R → G) → (R → P) → G → P
    → R → Bool
is_row group_eq place_eq group_of place_of g p row =
    group_eq (group_of row) g && place_eq (place_of row) p

-- the order of rows: by group, and then by place
abbrev pub row_order : {G P R : Type 0} → (G → G → Ordering) → (P → P → Ordering) → (R → G)
    → (R → P) → R → R → Ordering
row_order group_cmp place_cmp group_of place_of a b =
    ordering_then (group_cmp (group_of a) (group_of b)) (place_cmp (place_of a) (place_of b))

-- rows put one after another at their places among others that are in order
abbrev pub put_into : {R : Type 0} → (R → R → Ordering) → List R → List R → List R
put_into order found [] = found
put_into order found (row ∷ rows) = put_into order (insert_key order found row) rows

-- rows put in order
abbrev pub in_order : {R : Type 0} → (R → R → Ordering) → List R → List R
in_order order rows = put_into order [] rows
