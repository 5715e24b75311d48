-- The folder in which a folder stands, found by the folder's row.
use Rattle.std.proofs.Common.{◌≡◌, ◌==◌, ℕ, List, [], ◌∷◌, refl, inl, inr}
use Rattle.std.specs.Prelude.{option_and_then}
use Rattle.std.proofs.lemmas.Bool.{cases_Bool}
use Rattle.reg_terms.specs.declared.rows.FolderRow.{FolderRow}
use Rattle.reg_facts.specs.Naming.{parent_of}
use Rattle.reg_facts.specs.Rows.{folder_row}

pub parent_by_row : (d : ℕ) (fs : List FolderRow) → option_and_then (λ (row : FolderRow). row.parent) (folder_row d fs) ≡ parent_of d fs
parent_by_row d [] = refl
parent_by_row d (row ∷ rows) = elim (cases_Bool (row.id == d)) [
  | inl t ↦ rw t refl
  | inr n ↦ rw n (parent_by_row d rows)
]
