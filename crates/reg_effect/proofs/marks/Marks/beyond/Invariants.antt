use Rattle.std.proofs.Common.{◌≡◌, map, filter, not, ℕ}
use Rattle.std.specs.Map.Iter.{deref}
use Rattle.reg_graph.specs.Sets.{holds}
use Rattle.reg_effect.proofs.marks.Marks.beyond.Given as goal

abbrev pub invariant-loop-pair : goal.invariant-loop-pair
invariant-loop-pair l = l.pairs ≡ filter (λ (q : ℕ × ℕ). not (holds q.0 q.1 l.other)) (map deref l.yielded)
