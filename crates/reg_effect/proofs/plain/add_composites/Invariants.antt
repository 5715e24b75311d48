use Rattle.std.proofs.Common.{◌≡◌, ◌||◌, ℕ, take}
use Rattle.reg_graph.specs.Sets.{holds}
use Rattle.reg_effect.specs.Member.{in_factors}
use Rattle.reg_effect.proofs.plain.add_composites.Given as goal

abbrev pub invariant-loop-c : goal.invariant-loop-c
invariant-loop-c l = (y q : ℕ) → holds y q l.next ≡ (in_factors (λ h. holds h q l.table) (take l.c-index l.composites) y || holds y q l.fn.next)
