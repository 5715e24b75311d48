-- Extensions in a name.
use Rattle.std.specs.Prelude.{ℕ, List, [], ◌∷◌, ◌++◌}

-- some extensions, with a colon behind each
abbrev pub with_colons : List (List ℕ) → List ℕ
with_colons [] = []
with_colons (e ∷ es) = e ++ 58 ∷ with_colons es
