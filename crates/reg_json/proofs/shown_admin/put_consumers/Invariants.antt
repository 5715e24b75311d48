use Rattle.std.proofs.Common.{◌≡◌, ◌++◌, ◌∷◌, codes, drop}
use Rattle.json.specs.Tree.{items_tokens}
use Rattle.json.specs.Token.{begin_array, key}
use Rattle.serde_json.specs.Written.{items_outline}
use Rattle.reg_json.specs.AdminReplies.{consumer_items}
use Rattle.reg_json.proofs.shown_admin.put_consumers.Given as goal

-- what is written, and the consumers to come, are the whole member
abbrev pub invariant-loop-consumer : goal.invariant-loop-consumer
invariant-loop-consumer l = (l.out.before ≡ l.fn.out.before) × (l.out.tokens ++ items_tokens (items_outline (consumer_items (drop l.consumer-index l.consumers))) ≡ l.fn.out.tokens ++ key (codes "consumers") ∷ begin_array ∷ items_tokens (items_outline (consumer_items l.fn.consumers)))
