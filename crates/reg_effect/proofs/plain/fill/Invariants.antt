use Rattle.std.proofs.Common.{◌≡◌, ◌==◌, ◌&&◌, ◌||◌, ℕ, take}
use Rattle.reg_graph.specs.Sets.{holds}
use Rattle.reg_graph.specs.Edges.{among}
use Rattle.reg_effect.proofs.plain.fill.Given as goal

abbrev pub invariant-loop-person : goal.invariant-loop-person
invariant-loop-person l = (y q : ℕ) → holds y q l.next ≡ (((y == l.g) && among q (take l.person-index l.persons)) || holds y q l.fn.next)
