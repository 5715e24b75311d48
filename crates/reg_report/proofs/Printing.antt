-- The text that a value's tokens print, and tokens one behind the other.
use Rattle.std.proofs.Common.{◌≡◌, ◌++◌, List, append_assoc}
use Rattle.json.specs.Token.{Token}
use Rattle.json.specs.Tree.{json_tokens}
use Rattle.json.specs.Print.{print}
use Rattle.serde_json.specs.Data.{Data}
use Rattle.serde_json.specs.Written.{outline, compact_text}
use Rattle.serde_json.proofs.Texts.{print-outline}

pub printed : (d : Data) → print (json_tokens (outline d)) ≡ compact_text d
printed = print-outline

-- seven pieces behind what stood
pub joined : (o a b c d e f g : List Token) → ((((((o ++ a) ++ b) ++ c) ++ d) ++ e) ++ f) ++ g ≡ o ++ (a ++ (b ++ (c ++ (d ++ (e ++ (f ++ g))))))
joined o a b c d e f g = simp append_assoc
