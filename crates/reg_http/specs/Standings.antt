-- How often a field stands, told by spans.
use Rattle.std.specs.Prelude.{◌≡◌, ℕ, ◌<◌, List, [], ◌∷◌, length}
use Rattle.httparse.specs.Spans.{span_bytes, IsWithin}
use Rattle.reg_http.specs.declared.fields.Standing.{Standing}
use Rattle.reg_http.specs.declared.fields.Standing.TheVariants.{Never, Once, Often}

-- these are the values of the field in the bytes
abbrev pub IsStanding : List ℕ → List (List ℕ) → Standing → Type 0
IsStanding bytes values Never = values ≡ []
IsStanding bytes values (Once span) =
    (values ≡ span_bytes bytes span ∷ []) × IsWithin (length bytes) span
IsStanding bytes values Often = 1 < length values
