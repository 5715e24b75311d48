use Rattle.std.proofs.Common.{◌≡◌, take, drop, []}
use Rattle.reg_http.specs.Queries.{wrong_key}
use Rattle.reg_http.proofs.query.wrong_key.Given as goal

abbrev pub invariant-loop-i : goal.invariant-loop-i
invariant-loop-i l = wrong_key l.route (take l.i l.pairs) (drop l.i l.pairs) ≡ wrong_key l.route [] l.pairs
