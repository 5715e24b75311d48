use Rattle.std.proofs.Common.{◌≡◌, ◌+◌, length, map}
use Rattle.std.specs.Map.Iter.{deref}
use Rattle.reg_graph.proofs.sets.Sets.groups.Given as goal

abbrev pub invariant-loop-pair : goal.invariant-loop-pair
invariant-loop-pair g l = record {
  taken : l.groups.items ≡ map (λ p. p.1) (map deref l.yielded);
  steps : l.steps ≡ l.fn.steps + length l.yielded;
}
