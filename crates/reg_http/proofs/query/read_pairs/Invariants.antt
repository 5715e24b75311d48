use Rattle.std.proofs.Common.{◌≡◌, map, ◌++◌}
use Rattle.form_urlencoded.specs.Parse.{pairs_left}
use Rattle.reg_http.specs.Queries.{pairs, pair_of}
use Rattle.reg_http.proofs.query.read_pairs.Given as goal

abbrev pub invariant-loop-pair : goal.invariant-loop-pair
invariant-loop-pair l = l.found.items ++ map pair_of (pairs_left l.pair-iterator) ≡ pairs l.fn.query
