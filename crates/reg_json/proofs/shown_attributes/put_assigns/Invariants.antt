use Rattle.std.proofs.Common.{◌≡◌, ◌++◌, ◌∷◌, drop}
use Rattle.json.specs.Tree.{items_tokens}
use Rattle.json.specs.Token.{begin_array}
use Rattle.serde_json.specs.Written.{items_outline}
use Rattle.reg_json.specs.Replies.{assign_items}
use Rattle.reg_json.proofs.shown_attributes.put_assigns.Given as goal

-- what is written, and the assignments to come, are the whole array
abbrev pub invariant-loop-assign : goal.invariant-loop-assign
invariant-loop-assign l = (l.out.before ≡ l.fn.out.before) × (l.out.tokens ++ items_tokens (items_outline (assign_items (drop l.assign-index l.assigns))) ≡ l.fn.out.tokens ++ begin_array ∷ items_tokens (items_outline (assign_items l.fn.assigns)))
