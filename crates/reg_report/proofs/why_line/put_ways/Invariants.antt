use Rattle.std.proofs.Common.{◌≡◌, ◌++◌, ◌∷◌, drop}
use Rattle.json.specs.Tree.{items_tokens}
use Rattle.json.specs.Token.{begin_array}
use Rattle.serde_json.specs.Written.{items_outline}
use Rattle.reg_report.specs.WhyLines.{way_items}
use Rattle.reg_report.proofs.why_line.put_ways.Given as goal

-- what is written, and the ways to come, are the whole array
abbrev pub invariant-loop-way : goal.invariant-loop-way
invariant-loop-way l = (l.out.before ≡ l.fn.out.before) × (l.out.tokens ++ items_tokens (items_outline (way_items l.facts (drop l.way-index l.ways))) ≡ l.fn.out.tokens ++ begin_array ∷ items_tokens (items_outline (way_items l.fn.facts l.fn.ways)))
