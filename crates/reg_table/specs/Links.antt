-- The links of rows: what the keys of rows name.
use Rattle.std.specs.Prelude.{Bool, false, not, List, [], ◌∷◌, ◌++◌, Option, None, Some, filter}
use Rattle.std.specs.Prelude.{map, if◌then◌else◌}
use Rattle.std.specs.List.{list_any}
use Rattle.reg_table.specs.Keyed.{is_row}
use Rattle.reg_table.specs.declared.linked.Linked.{Linked}

-- whether there is a link, and it is this one
abbrev pub is_link : {L : Type 0} → (L → L → Bool) → L → Option L → Bool
is_link eq l None = false
is_link eq l (Some k) = eq k l

-- whether a row has this link
abbrev pub has_link : {G P L R : Type 0} → (L → L → Bool) → (R → G) → (R → P) → (G → P → Option L)
    → L → R → Bool
has_link eq group_of place_of link_at l row = is_link eq l (link_at (group_of row) (place_of row))

-- the link of a key, if it has one
abbrev pub link_list : {L K : Type 0} → Option L → K → List (Linked L K)
link_list None key = []
link_list (Some l) key = (record { link = l; key = key }) ∷ []

-- the links of rows
abbrev pub links_of : {G P L R : Type 0} → (R → G) → (R → P) → (G → P → Option L) → List R
    → List (Linked L (G × P))
links_of group_of place_of link_at [] = []
links_of group_of place_of link_at (row ∷ rows) =
    link_list (link_at (group_of row) (place_of row)) (group_of row, place_of row)
    ++ links_of group_of place_of link_at rows

module _ {L K : Type 0} (link_eq : L → L → Bool) (key_eq : K → K → Bool) where
  -- whether this is the link of a key
  abbrev pub is_link_row : L → K → Linked L K → Bool
  is_link_row l key linked = is_row link_eq key_eq (λ (x : Linked L K). x.link)
      (λ (x : Linked L K). x.key) l key linked

  -- whether the link of a key is among these
  abbrev pub has_link_row : Option L → K → List (Linked L K) → Bool
  has_link_row None key links = false
  has_link_row (Some l) key links = list_any (is_link_row l key) links

  -- the others, without the link of a key
  abbrev pub without_link : Option L → K → List (Linked L K) → List (Linked L K)
  without_link None key links = links
  without_link (Some l) key links = filter
      (λ (linked : Linked L K). not (is_link_row l key linked)) links

  -- the links with that of a key in the place of the one that is equal
  abbrev pub put_link : Option L → K → List (Linked L K) → List (Linked L K)
  put_link None key links = links
  put_link (Some l) key links = map (λ (linked : Linked L K). if is_link_row l key linked
      then record { link = l; key = key } else linked) links
