-- What the fields of a head say, from the list of their names and values.
use Rattle.std.specs.Prelude.{ℕ, Bool, ◌&&◌, List, [], ◌∷◌, map, filter, length, Option, Some, None}
use Rattle.std.specs.Prelude.{◌==◌, nat_le, codes}
use Rattle.std.specs.List.{list_all, list_any, slice_split}
use Rattle.std.specs.Char.{is_ascii_digit}
use Rattle.std.specs.Str.{str_eq_ignore_ascii_case}
use Rattle.httparse.specs.Grammar.{trim_ows}

-- a name and a value
abbrev pub Field : Type 0
Field = List ℕ × List ℕ

-- the field has this name, in any case of its letters
abbrev pub is_named : List ℕ → Field → Bool
is_named name field = str_eq_ignore_ascii_case field.0 name

-- the values of the fields of this name, in order
abbrev pub values_named : List ℕ → List Field → List (List ℕ)
values_named name fields = map (λ field. field.1) (filter (is_named name) fields)

-- the one value, or none where there isn't exactly one
abbrev pub only : List (List ℕ) → Option (List ℕ)
only [] = None
only (value ∷ []) = Some value
only (value ∷ other ∷ more) = None

-- the token is `close`, in any case of its letters
abbrev pub is_close : List ℕ → Bool
is_close token = str_eq_ignore_ascii_case (trim_ows token) (codes "close")

-- one of the tokens between commas is `close`
abbrev pub lists_close : List ℕ → Bool
lists_close value = list_any is_close (slice_split (λ byte. byte == 44) value)

-- a `Connection` field holds the token `close`
abbrev pub closes : List Field → Bool
closes fields =
    list_any (λ field. is_named (codes "connection") field && lists_close field.1) fields

-- 1 to 19 digits
abbrev pub is_length : List ℕ → Bool
is_length text = nat_le 1 (length text) && (nat_le (length text) 19 && list_all is_ascii_digit text)
