use Rattle.std.proofs.Common.{◌≡◌, ◌++◌, ◌∷◌, drop}
use Rattle.json.specs.Tree.{items_tokens}
use Rattle.json.specs.Token.{begin_array}
use Rattle.serde_json.specs.Written.{items_outline}
use Rattle.reg_report.specs.Lines.{period_items}
use Rattle.reg_report.proofs.line.put_periods.Given as goal

-- what is written, and the states to come, are the whole array
abbrev pub invariant-loop-period : goal.invariant-loop-period
invariant-loop-period l = (l.out.before ≡ l.fn.out.before) × (l.out.tokens ++ items_tokens (items_outline (period_items (drop l.period-index l.states))) ≡ l.fn.out.tokens ++ begin_array ∷ items_tokens (items_outline (period_items l.fn.states)))
