use Rattle.std.proofs.Common.{◌≡◌, ◌++◌, ◌∷◌, drop}
use Rattle.json.specs.Tree.{items_tokens}
use Rattle.json.specs.Token.{begin_array}
use Rattle.serde_json.specs.Written.{items_outline}
use Rattle.reg_report.specs.WhyLines.{statement_items}
use Rattle.reg_report.proofs.why_line.put_statements.Given as goal

-- what is written, and the statements to come, are the whole array
abbrev pub invariant-loop-statement : goal.invariant-loop-statement
invariant-loop-statement l = (l.out.before ≡ l.fn.out.before) × (l.out.tokens ++ items_tokens (items_outline (statement_items l.facts (drop l.statement-index l.statements))) ≡ l.fn.out.tokens ++ begin_array ∷ items_tokens (items_outline (statement_items l.fn.facts l.fn.statements)))
