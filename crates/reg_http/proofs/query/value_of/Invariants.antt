use Rattle.std.proofs.Common.{◌≡◌, drop}
use Rattle.reg_http.specs.Queries.{value_of}
use Rattle.reg_http.proofs.query.value_of.Given as goal

abbrev pub invariant-loop-pair : goal.invariant-loop-pair
invariant-loop-pair l = value_of l.key (drop l.pair-index l.pairs) ≡ value_of l.key l.pairs
