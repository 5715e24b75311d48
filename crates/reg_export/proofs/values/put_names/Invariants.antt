use Rattle.std.proofs.Common.{◌≡◌, ◌++◌, ◌∷◌, drop}
use Rattle.json.specs.Token.{begin_array}
use Rattle.json.specs.Tree.{items_tokens}
use Rattle.serde_json.specs.Written.{items_outline}
use Rattle.reg_json.specs.Replies.{strings}
use Rattle.reg_export.proofs.values.put_names.Given as goal

-- what is written, and the names to come, are the whole array
abbrev pub invariant-loop-name : goal.invariant-loop-name
invariant-loop-name l = (l.out.before ≡ l.fn.out.before) × (l.out.tokens ++ items_tokens (items_outline (strings (drop l.name-index l.names))) ≡ l.fn.out.tokens ++ begin_array ∷ items_tokens (items_outline (strings l.fn.names)))
