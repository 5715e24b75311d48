use Rattle.std.proofs.Common.{◌≡◌, ◌||◌, ℕ, take}
use Rattle.reg_graph.specs.Edges.{among}
use Rattle.reg_effect.proofs.joined.add_all.Given as goal

abbrev pub invariant-loop-person : goal.invariant-loop-person
invariant-loop-person l = (q : ℕ) → among q l.set.keys ≡ (among q (take l.person-index l.persons) || among q l.fn.set.keys)
