use Rattle.std.proofs.Common.{◌≡◌, ◌++◌, ◌∷◌, drop}
use Rattle.json.specs.Tree.{items_tokens}
use Rattle.json.specs.Token.{begin_array}
use Rattle.serde_json.specs.Written.{items_outline}
use Rattle.reg_json.specs.Replies.{names_of, strings}
use Rattle.reg_json.proofs.shown.put_privileges.Given as goal

-- what is written, and the privileges to come, are the whole array
abbrev pub invariant-loop-privilege : goal.invariant-loop-privilege
invariant-loop-privilege l = (l.out.before ≡ l.fn.out.before) × (l.out.tokens ++ items_tokens (items_outline (strings (names_of (drop l.privilege-index l.privileges)))) ≡ l.fn.out.tokens ++ begin_array ∷ items_tokens (items_outline (strings (names_of l.fn.privileges))))
