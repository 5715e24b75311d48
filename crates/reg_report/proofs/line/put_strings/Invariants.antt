use Rattle.std.proofs.Common.{◌≡◌, ◌++◌, ◌∷◌, length}
use Rattle.json.specs.Tree.{items_tokens}
use Rattle.json.specs.Token.{begin_array}
use Rattle.serde_json.specs.Written.{items_outline}
use Rattle.reg_report.specs.Lines.{strings}
use Rattle.reg_report.proofs.line.put_strings.Given as goal

-- what is written, and the texts to come, are the whole array
abbrev pub invariant-loop-text : goal.invariant-loop-text
invariant-loop-text l = (l.out.before ≡ l.fn.out.before) × (l.out.tokens ++ items_tokens (items_outline (strings l.pieces)) ≡ l.fn.out.tokens ++ begin_array ∷ items_tokens (items_outline (strings l.fn.texts)))

abbrev pub decreases-loop-text : goal.decreases-loop-text
decreases-loop-text l = length l.pieces
