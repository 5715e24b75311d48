-- The query of a target, as `form_urlencoded` reads it.
use Rattle.std.specs.Prelude.{ℕ, Bool, not, ◌&&◌, List, [], ◌∷◌, ◌++◌, length, map, Option, Some}
use Rattle.std.specs.Prelude.{None, codes, bytes_eq, nat_le, if◌then◌else◌}
use Rattle.std.specs.List.{list_any, list_all}
use Rattle.std.specs.Char.{is_ascii_digit}
use Rattle.std.specs.Str.Lossy.{utf8_lossy}
use Rattle.std.specs.Str.Parse.{digits_value}
use Rattle.form_urlencoded.specs.Form.{raw_pairs, decode}
use Rattle.reg_http.specs.declared.query.Pair.{Pair}
use Rattle.reg_http.specs.declared.route.Route.{Route}
use Rattle.reg_http.specs.declared.route.Route.TheVariants.{Members, Groups, Grants, Privileges}
use Rattle.reg_http.specs.declared.route.Route.TheVariants.{Attributes, Log}

-- the text of a key or of a value
abbrev pub text_of : List ℕ → List ℕ
text_of bytes = utf8_lossy (decode bytes)

abbrev pub pair_of : List ℕ × List ℕ → Pair
pair_of raw = record { key = text_of raw.0; value = text_of raw.1 }

-- the pairs in order
abbrev pub pairs : List ℕ → List Pair
pairs query = map pair_of (raw_pairs query)

-- the keys that a route takes
abbrev pub keys_of : Route → List (List ℕ)
keys_of Members = codes "at" ∷ []
keys_of Groups = codes "at" ∷ []
keys_of Grants = codes "at" ∷ []
keys_of Privileges = codes "entity" ∷ codes "at" ∷ []
keys_of Attributes = codes "at" ∷ []
keys_of Log = codes "max" ∷ []
keys_of _ = []

abbrev pub lists : Route → List ℕ → Bool
lists route key = list_any (bytes_eq key) (keys_of route)

-- a pair has this key
abbrev pub has : List ℕ → List Pair → Bool
has key found = list_any (λ pair. bytes_eq pair.key key) found

-- the first key that the route doesn't take, or that came before
abbrev pub wrong_key : Route → List Pair → List Pair → Option (List ℕ)
wrong_key route earlier [] = None
wrong_key route earlier (pair ∷ later) =
    if lists route pair.key && not (has pair.key earlier)
    then wrong_key route (earlier ++ pair ∷ []) later else Some pair.key

-- the value of the first pair of this key
abbrev pub value_of : List ℕ → List Pair → Option (List ℕ)
value_of key [] = None
value_of key (pair ∷ later) = if bytes_eq pair.key key then Some pair.value else value_of key later

-- 1 to 20 digits of a number from 1 to 1,000
abbrev pub is_count : List ℕ → Bool
is_count text =
    nat_le (length text) 20 && (list_all is_ascii_digit text
    && (nat_le 1 (digits_value 10 text) && nat_le (digits_value 10 text) 1000))

abbrev pub number_of : List ℕ → Option ℕ
number_of text = if is_count text then Some (digits_value 10 text) else None
