use Rattle.std.proofs.Common.{◌≡◌, ◌++◌, drop, map}
use Rattle.std.specs.Map.Iter.{deref}
use Rattle.reg_json.specs.Values.{value_tokens}
use Rattle.reg_json.proofs.shown_attributes.put_many.Given as goal

-- what is written, and the values to come, are all
abbrev pub invariant-loop-value : goal.invariant-loop-value
invariant-loop-value l = (l.out.before ≡ l.fn.out.before) × (l.out.tokens ++ value_tokens (map deref (drop l.value-index l.values)) ≡ l.fn.out.tokens ++ value_tokens (map deref l.fn.values))
