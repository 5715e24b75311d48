-- A line behind what stood.
use Rattle.std.proofs.Common.{◌≡◌, ◌∙◌, ◌++◌, ◌∷◌, [], ℕ, List, ap, append_assoc}
use Rattle.json.specs.Tree.{json_tokens}
use Rattle.json.specs.Print.{print}
use Rattle.serde_json.specs.Data.{Data}
use Rattle.serde_json.specs.Written.{outline}
use Rattle.reg_report.specs.Lines.{line}
use Rattle.reg_report.proofs.Printing.{printed}

pub line_more : (before more : List ℕ) (d : Data) → more ≡ (before ++ print (json_tokens (outline d))) ++ 10 ∷ [] → more ≡ before ++ line d
line_more before more d h = h ∙ (append_assoc before (print (json_tokens (outline d))) (10 ∷ []) ∙ ap (λ (text : List ℕ). before ++ (text ++ 10 ∷ [])) (printed d))
