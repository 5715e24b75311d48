use Rattle.std.proofs.Common.{◌≡◌, ◌++◌, ◌∷◌, codes, drop}
use Rattle.json.specs.Tree.{items_tokens}
use Rattle.json.specs.Token.{begin_array, key}
use Rattle.serde_json.specs.Written.{items_outline}
use Rattle.reg_json.specs.AdminReplies.{rule_items}
use Rattle.reg_json.proofs.shown_admin.put_rules.Given as goal

-- what is written, and the rules to come, are the whole member
abbrev pub invariant-loop-rule : goal.invariant-loop-rule
invariant-loop-rule l = (l.out.before ≡ l.fn.out.before) × (l.out.tokens ++ items_tokens (items_outline (rule_items (drop l.rule-index l.rules))) ≡ l.fn.out.tokens ++ key (codes "rules") ∷ begin_array ∷ items_tokens (items_outline (rule_items l.fn.rules)))
