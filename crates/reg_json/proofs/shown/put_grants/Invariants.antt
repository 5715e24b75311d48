use Rattle.std.proofs.Common.{◌≡◌, ◌++◌, ◌∷◌, drop}
use Rattle.json.specs.Tree.{items_tokens}
use Rattle.json.specs.Token.{begin_array}
use Rattle.serde_json.specs.Written.{items_outline}
use Rattle.reg_json.specs.Replies.{grant_items}
use Rattle.reg_json.proofs.shown.put_grants.Given as goal

-- what is written, and the grants to come, are the whole array
abbrev pub invariant-loop-grant : goal.invariant-loop-grant
invariant-loop-grant l = (l.out.before ≡ l.fn.out.before) × (l.out.tokens ++ items_tokens (items_outline (grant_items (drop l.grant-index l.grants))) ≡ l.fn.out.tokens ++ begin_array ∷ items_tokens (items_outline (grant_items l.fn.grants)))
