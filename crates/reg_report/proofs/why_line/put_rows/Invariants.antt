use Rattle.std.proofs.Common.{◌≡◌, ◌++◌, ◌∷◌, drop}
use Rattle.json.specs.Tree.{items_tokens}
use Rattle.json.specs.Token.{begin_array}
use Rattle.serde_json.specs.Written.{items_outline}
use Rattle.reg_report.specs.WhyLines.{row_items}
use Rattle.reg_report.proofs.why_line.put_rows.Given as goal

-- what is written, and the rows to come, are the whole array
abbrev pub invariant-loop-row : goal.invariant-loop-row
invariant-loop-row l = (l.out.before ≡ l.fn.out.before) × (l.out.tokens ++ items_tokens (items_outline (row_items l.facts (drop l.row-index l.rows))) ≡ l.fn.out.tokens ++ begin_array ∷ items_tokens (items_outline (row_items l.fn.facts l.fn.rows)))
