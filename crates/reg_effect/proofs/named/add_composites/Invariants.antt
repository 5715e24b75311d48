use Rattle.std.proofs.Common.{◌≡◌, ◌||◌, ℕ, take}
use Rattle.reg_terms.specs.Rows.{is_composite}
use Rattle.reg_graph.specs.Edges.{among}
use Rattle.reg_effect.proofs.named.add_composites.Given as goal

abbrev pub invariant-loop-composite : goal.invariant-loop-composite
invariant-loop-composite l = (g : ℕ) → among g l.groups.keys ≡ (is_composite g (take l.composite-index l.composites) || among g l.fn.groups.keys)
