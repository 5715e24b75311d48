-- The consumers of the change log: how far the one of a name has read, and what they are once it
-- has read further.
use Rattle.std.specs.Prelude.{◌≡◌, ⊤, ℕ, List, [], ◌∷◌, Option, None, Some, if◌then◌else◌}
use Rattle.std.specs.Str.{bytes_eq}
use Rattle.reg_terms.specs.declared.rows.ConsumerRow.{ConsumerRow}

-- the place of the consumer of a name
abbrev pub consumer_place : List ℕ → List ConsumerRow → Option ℕ
consumer_place name [] = None
consumer_place name (row ∷ rows) =
    if bytes_eq row.name name then Some row.place else consumer_place name rows

-- a consumer, once the one of a name has read up to a number
abbrev pub acknowledged : List ℕ → ℕ → ConsumerRow → ConsumerRow
acknowledged name seq row = if bytes_eq row.name name then record row { place = seq } else row

-- no two consumers share a name
abbrev pub AreConsumersOnce : List ConsumerRow → Type 0
AreConsumersOnce [] = ⊤
AreConsumersOnce (row ∷ rows) = (consumer_place row.name rows ≡ None) × AreConsumersOnce rows
