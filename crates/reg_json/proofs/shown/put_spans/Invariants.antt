use Rattle.std.proofs.Common.{◌≡◌, ◌++◌, ◌∷◌, drop}
use Rattle.json.specs.Tree.{items_tokens}
use Rattle.json.specs.Token.{begin_array}
use Rattle.serde_json.specs.Written.{items_outline}
use Rattle.reg_json.specs.Replies.{span_items}
use Rattle.reg_json.proofs.shown.put_spans.Given as goal

-- what is written, and the times to come, are the whole array
abbrev pub invariant-loop-span : goal.invariant-loop-span
invariant-loop-span l = (l.out.before ≡ l.fn.out.before) × (l.out.tokens ++ items_tokens (items_outline (span_items (drop l.span-index l.spans))) ≡ l.fn.out.tokens ++ begin_array ∷ items_tokens (items_outline (span_items l.fn.spans)))
