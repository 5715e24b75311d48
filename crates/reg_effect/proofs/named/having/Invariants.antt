use Rattle.std.proofs.Common.{◌≡◌, map, filter, ℕ}
use Rattle.std.specs.Map.Iter.{deref}
use Rattle.reg_graph.specs.Sets.{holds}
use Rattle.reg_effect.proofs.named.having.Given as goal

abbrev pub invariant-loop-group : goal.invariant-loop-group
invariant-loop-group l = l.found.items ≡ filter (λ (g : ℕ). holds g l.s l.table) (map deref l.yielded)
