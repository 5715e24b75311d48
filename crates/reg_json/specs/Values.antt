-- The tokens of the values of an assignment, for private clauses.
use Rattle.std.specs.Prelude.{List, [], ◌∷◌, ◌++◌}
use Rattle.json.specs.Token.{Token}
use Rattle.json.specs.Tree.{json_tokens}
use Rattle.serde_json.specs.Written.{outline}
use Rattle.reg_terms.specs.declared.kinds.AttrValue.{AttrValue}
use Rattle.reg_json.specs.Replies.{value_data}

-- those of each, one behind the other
abbrev pub value_tokens : List AttrValue → List Token
value_tokens [] = []
value_tokens (v ∷ vs) = json_tokens (outline (value_data v)) ++ value_tokens vs
