use Rattle.std.proofs.Common.{◌≡◌, ◌++◌, ◌∷◌, codes, drop}
use Rattle.json.specs.Tree.{items_tokens}
use Rattle.json.specs.Token.{begin_array, key}
use Rattle.serde_json.specs.Written.{items_outline}
use Rattle.reg_json.specs.AdminReplies.{gone_items}
use Rattle.reg_json.proofs.shown_admin.put_gones.Given as goal

-- what is written, and the groups to come, are the whole member
abbrev pub invariant-loop-group : goal.invariant-loop-group
invariant-loop-group l = (l.out.before ≡ l.fn.out.before) × (l.out.tokens ++ items_tokens (items_outline (gone_items (drop l.group-index l.groups))) ≡ l.fn.out.tokens ++ key (codes "gone") ∷ begin_array ∷ items_tokens (items_outline (gone_items l.fn.groups)))
