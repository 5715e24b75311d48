-- Texts at places of a buffer.
use Rattle.std.specs.Prelude.{◌≡◌, ℕ, ◌+◌, ◌==◌, ◌||◌, not, nat_lt, Bool, List, ◌++◌, length, take}

-- a byte that stands for itself in a string of JSON: no quote, no backslash, and none below a space
abbrev pub is_plain : ℕ → Bool
is_plain b = not ((b == 34) || (b == 92) || nat_lt b 32)

-- `new` has these bytes behind the first `at` of `old`, up to `end`, and is as long
pub record Placed (old new : List ℕ) (at : ℕ) (bytes : List ℕ) (end : ℕ) : Type 0 where
  pub front : take end new ≡ take at old ++ bytes
  pub moved : end ≡ at + length bytes
  pub len : length new ≡ length old
