use Rattle.std.proofs.Common.{rules, ◌≡◌, map}
use Rattle.std.specs.Map.Iter.{deref}
use Rattle.std.proofs.lemmas.Map.Iter.{iter_end}
use Rattle.reg_effect.proofs.Marked.{either_has}
use Rattle.reg_effect.proofs.marks.Marks.union.Goals as goal

pub returns-clause-each : goal.returns-clause-each
returns-clause-each c =
    let all : map deref c.loop-pair.yielded ≡ c.union-pair-items.result = search (rules, iter_end) in
    rw (c.loop-pair.invariant, all, ← c.self.view_is, ← c.other.view_is) (either_has _ _ _ c.union-pair-items.ensures.members)
