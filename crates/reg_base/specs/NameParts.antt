-- The parts of a name: its last extension and the name of its folder.
use Rattle.std.specs.Prelude.{ℕ, List, [], ◌∷◌, Option, Some, None}
use Rattle.std.specs.List.{join_with_byte}
use Rattle.reg_base.specs.Names.{extensions_of}

-- the last of some pieces
abbrev pub last_of : List (List ℕ) → List ℕ
last_of [] = []
last_of (piece ∷ []) = piece
last_of (piece ∷ next ∷ more) = last_of (next ∷ more)

-- the pieces before the last
abbrev pub front_of : List (List ℕ) → List (List ℕ)
front_of [] = []
front_of (piece ∷ []) = []
front_of (piece ∷ next ∷ more) = piece ∷ front_of (next ∷ more)

-- pieces joined by `:`, and none for no pieces, which stand for the root
abbrev pub joined : List (List ℕ) → Option (List ℕ)
joined [] = None
joined (piece ∷ more) = Some (join_with_byte 58 (piece ∷ more))

-- the last extension of a name
unfoldable pub extension_of : List ℕ → List ℕ
extension_of name = last_of (extensions_of name)

-- the name of the folder that a name stands in, and none where that is the root
unfoldable pub folder_of : List ℕ → Option (List ℕ)
folder_of name = joined (front_of (extensions_of name))
