-- Marks: at which moment of a disk or of a keeper something is written.
use Rattle.std.specs.Prelude.{ℕ, List, [], ◌∷◌, ◌++◌, Option, option_map, length}

-- The moment of a disk or of a keeper, and how many bytes were written by then, where they are
-- told.
pub record Mark : Type 0 where
  pub moment : ℕ
  pub written : Option ℕ

-- these marks and one more behind them, set over the bytes written so far
abbrev pub marked : ℕ → Option (List ℕ) → List Mark → List Mark
marked moment written marks =
    marks ++ record { moment = moment; written = option_map length written } ∷ []
