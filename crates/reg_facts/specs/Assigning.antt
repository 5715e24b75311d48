-- What assignments are found by beside their ids, and the map and the index that hold them.
use Rattle.std.specs.Prelude.{◌≡◌, ◌==◌, ◌&&◌, ℕ, Bool, List, map}
use Rattle.std.specs.List.{AllByRecursion}
use Rattle.std.specs.List.Sorted.{IsStrictlySortedBy}
use Rattle.std.specs.Map.{values_of}
use Rattle.std.specs.Ordering.{nat_cmp}
use Rattle.reg_terms.specs.Kinds.{same_object}
use Rattle.reg_terms.specs.declared.rows.AssignRow.{AssignRow}
use Rattle.reg_facts.specs.Ascending.{AssignsAscend}
use Rattle.reg_facts.specs.declared.assign_index.AssignKey.{AssignKey}
use Rattle.reg_facts.specs.declared.assign_index.ByPair.{ByPair}

-- the same key, found by owner and attribute together
abbrev pub by_pair : AssignKey → ByPair
by_pair key = record { key = key }

-- the two keys are one
abbrev pub same_key : AssignKey → AssignKey → Bool
same_key key other =
    same_object other.owner key.owner
    && ((other.id == key.id) && (other.attribute == key.attribute))

-- the id of each key is below that of the next
abbrev pub KeysAscend : List AssignKey → Type 0
KeysAscend keys = IsStrictlySortedBy nat_cmp (map (λ (key : AssignKey). key.id) keys)

-- what an assignment is found by
abbrev pub key_of : AssignRow → AssignKey
key_of row = record { owner = row.owner; attribute = row.attribute; id = row.id }

-- each entry has the id of its assignment, and the ids ascend
pub record AreById (entries : List (ℕ × AssignRow)) : Type 0 where
  pub same : AllByRecursion (λ (e : ℕ × AssignRow). e.1.id ≡ e.0) entries
  pub ascend : AssignsAscend (values_of entries)

-- an entry whose assignment is changed
abbrev pub changed : (AssignRow → AssignRow) → ℕ × AssignRow → ℕ × AssignRow
changed f e = (e.0, f e.1)

-- the index has the assignments, and their ids ascend
pub record AreKeyed (index : List AssignKey) (rows : List AssignRow) : Type 0 where
  pub same : index ≡ map key_of rows
  pub ascend : AssignsAscend rows
