-- The order of the members of an object, as they stand in a line.
use Rattle.std.specs.Prelude.{◌≡◌, ◌≤◌, ◌⊎◌, ℕ, List, true, Some, length, option_and_then}
use Rattle.std.specs.Str.{is_utf8}
use Rattle.json.specs.Json as json
use Rattle.json.specs.Lex.{tokens}
use Rattle.serde_json.specs.Read.{max_depth}
use Rattle.reg_terms.specs.Limits.{max_line}

-- a line that isn't too long, and holds an object with these members in this order
pub record HoldsObject (line : List ℕ) (members : json.Members) : Type 0 where
  pub short : length line ≤ max_line
  pub utf8 : is_utf8 line ≡ true
  pub object : option_and_then (λ p. json.if_last p.0 p.1) (json.value max_depth (tokens line))
      ≡ Some (json.object members)

-- a member and the one behind it, of another key, have changed places
pub record AreTurned (k : List ℕ) (x : json.Json) (behind others : json.Members) : Type 0 where
  pub key : List ℕ
  pub value : json.Json
  pub rest : json.Members
  pub before : behind ≡ json.member key value rest
  pub after : others ≡ json.member key value (json.member k x rest)
  pub differ : k ≡ key → ⊥

-- two neighbours of different keys have changed places, and all else is the same
abbrev pub Swapped : json.Members → json.Members → Type 0
Swapped json.no_members others = ⊥
Swapped (json.member k x ms) others =
    AreTurned k x ms others ⊎ ((rest : json.Members) × (others ≡ json.member k x rest)
    × Swapped ms rest)
