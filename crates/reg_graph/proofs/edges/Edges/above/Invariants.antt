use Rattle.std.proofs.Common.{◌≡◌, ℕ, map}
use Rattle.std.specs.Map.Iter.{deref}
use Rattle.reg_graph.proofs.edges.Edges.above.Given as goal

abbrev pub invariant-loop-key : goal.invariant-loop-key
invariant-loop-key l = l.above.items ≡ map (λ (k : ℕ × ℕ × ℕ). k.1) (map deref l.yielded)
