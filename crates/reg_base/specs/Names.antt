-- Names of objects, extension by extension, and the texts of persons.
use Rattle.std.specs.Prelude.{ℕ, List, ◌+◌, ◌==◌, Bool, false, ◌&&◌, ◌||◌, nat_le, nat_lt}
use Rattle.std.specs.Prelude.{if◌then◌else◌, Option, Some, None, length, take, drop, position}
use Rattle.std.specs.List.{list_all, slice_split}

-- an ASCII letter or digit, `_`, `-` or `.`
abbrev pub is_extension_byte : ℕ → Bool
is_extension_byte b =
    (nat_le 48 b && nat_le b 57) || (nat_le 65 b && nat_le b 90) || (nat_le 97 b && nat_le b 122)
    || (b == 45) || (b == 46) || (b == 95)

-- 1 to 100 such bytes
abbrev pub is_extension : List ℕ → Bool
is_extension text =
    nat_lt 0 (length text) && nat_le (length text) 100 && list_all is_extension_byte text

-- the byte between two extensions of a name, `:`
abbrev pub is_colon : ℕ → Bool
is_colon b = b == 58

-- the pieces of a text between its colons
abbrev pub extensions_of : List ℕ → List (List ℕ)
extensions_of text = slice_split is_colon text

-- at most 1,000 bytes, of which every piece between colons is an extension
abbrev pub is_name : List ℕ → Bool
is_name text = nat_le (length text) 1000 && list_all is_extension (extensions_of text)

-- the name that a text is, if it is one
abbrev pub name_of : List ℕ → Option (List ℕ)
name_of text = if is_name text then Some text else None

-- an ASCII letter or digit, `_`, `-`, `.` or `@`
abbrev pub is_person_byte : ℕ → Bool
is_person_byte b = is_extension_byte b || (b == 64)

-- 1 to so many such bytes
abbrev pub is_part : ℕ → List ℕ → Bool
is_part limit text =
    nat_lt 0 (length text) && nat_le (length text) limit && list_all is_person_byte text

-- a source of 1 to 32 bytes before the first slash, where there is one, and an id of 1 to 64 bytes
-- after it
abbrev pub is_person_at : List ℕ → Option ℕ → Bool
is_person_at text None = false
is_person_at text (Some place) = is_part 32 (take place text) && is_part 64 (drop (place + 1) text)

-- where a person comes from: the part before the slash
abbrev pub is_source : List ℕ → Bool
is_source text = is_part 32 text

-- the text of a person, `source/id`
abbrev pub is_person : List ℕ → Bool
is_person text = is_person_at text (position (λ b. b == 47) text)
