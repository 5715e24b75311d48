use Rattle.std.proofs.Common.{◌≡◌, ◌==◌, ◌&&◌, ◌||◌, ℕ, take}
use Rattle.reg_graph.specs.Sets.{holds}
use Rattle.reg_graph.specs.Edges.{among}
use Rattle.reg_effect.specs.Member.{combine}
use Rattle.reg_effect.proofs.plain.add_given.Given as goal

abbrev pub invariant-loop-person : goal.invariant-loop-person
invariant-loop-person l = (y q : ℕ) → holds y q l.next ≡ (((y == l.c.group) && (among q (take l.person-index l.persons) && combine l.c.op (holds l.c.left q l.table) (holds l.c.right q l.table))) || holds y q l.fn.next)
