-- Numbers in words.
use Rattle.std.specs.Prelude.{◌&&◌, ℕ, List, Bool, Option, Some, None, if◌then◌else◌, length}
use Rattle.std.specs.Prelude.{nat_le, option_and_then}
use Rattle.std.specs.Char.{is_ascii_digit}
use Rattle.std.specs.List.{list_all}
use Rattle.std.specs.Str.Parse.{digits_value}

-- 1 to 20 digits
abbrev pub are_digits : List ℕ → Bool
are_digits text =
    nat_le 1 (length text) && (nat_le (length text) 20 && list_all is_ascii_digit text)

-- of a number from the least to the most
abbrev pub is_number_in : ℕ → ℕ → List ℕ → Bool
is_number_in least most text =
    are_digits text && (nat_le least (digits_value 10 text) && nat_le (digits_value 10 text) most)

-- that number
abbrev pub number_in : ℕ → ℕ → List ℕ → Option ℕ
number_in least most text =
    if is_number_in least most text then Some (digits_value 10 text) else None

-- the seed that a word names
abbrev pub seed_in : List ℕ → Option ℕ
seed_in word = number_in 0 18446744073709551615 word

-- a size: from 2 to 500
abbrev pub sized : ℕ → Option ℕ
sized number = if nat_le 2 number && nat_le number 500 then Some number else None

-- the size that a word names
abbrev pub size_in : List ℕ → Option ℕ
size_in word = option_and_then sized (number_in 0 18446744073709551615 word)

-- how many lines are answered together: from 1 to 10,000
abbrev pub batched : ℕ → Option ℕ
batched number = if nat_le 1 number && nat_le number 10000 then Some number else None

-- so many, as a word names them
abbrev pub batch_in : List ℕ → Option ℕ
batch_in word = option_and_then batched (number_in 0 18446744073709551615 word)

-- the port that a word names
abbrev pub port_in : List ℕ → Option ℕ
port_in word = number_in 0 65535 word

-- how many connections a word asks for, or are meant without one
abbrev pub connections_in : Option (List ℕ) → Option ℕ
connections_in None = Some 1000000
connections_in (Some word) = number_in 1 1000000 word

-- the place of a command that a word names, or the one that is meant without one
abbrev pub place_in : ℕ → Option (List ℕ) → Option ℕ
place_in meant None = Some meant
place_in meant (Some word) = number_in 1 18446744073709551615 word

-- how many entries of the log a word allows
abbrev pub entries_in : List ℕ → Option ℕ
entries_in word = number_in 1 1000000 word
