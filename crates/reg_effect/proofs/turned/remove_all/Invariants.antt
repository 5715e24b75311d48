use Rattle.std.proofs.Common.{◌≡◌, ◌&&◌, ℕ, drop, not}
use Rattle.reg_graph.specs.Sets.{holds}
use Rattle.reg_effect.proofs.turned.remove_all.Given as goal

abbrev pub invariant-loop-pair : goal.invariant-loop-pair
invariant-loop-pair l = (y q : ℕ) → (not (holds y q (drop l.pair-index l.pairs)) && holds y q l.set) ≡ (not (holds y q l.pairs) && holds y q l.fn.set)
