use Rattle.std.proofs.Common.{◌≡◌, ◌++◌, ◌∷◌, drop}
use Rattle.json.specs.Tree.{items_tokens}
use Rattle.json.specs.Token.{begin_array}
use Rattle.serde_json.specs.Written.{items_outline}
use Rattle.reg_json.specs.Replies.{entry_items}
use Rattle.reg_json.proofs.shown.put_entries.Given as goal

-- what is written, and the entries to come, are the whole array
abbrev pub invariant-loop-entry : goal.invariant-loop-entry
invariant-loop-entry l = (l.out.before ≡ l.fn.out.before) × (l.out.tokens ++ items_tokens (items_outline (entry_items (drop l.entry-index l.entries))) ≡ l.fn.out.tokens ++ begin_array ∷ items_tokens (items_outline (entry_items l.fn.entries)))
