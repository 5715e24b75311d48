use Rattle.std.proofs.Common.{rules, ◌≡◌, ◌∙◌, map}
use Rattle.std.specs.Map.Iter.{deref}
use Rattle.std.proofs.lemmas.Map.Iter.{iter_end}
use Rattle.reg_effect.proofs.joined.listed.Goals as goal

pub returns-clause-items : goal.returns-clause-items
returns-clause-items c =
    let all : map deref c.loop-person.yielded ≡ c.args.set.now.keys = search (rules, iter_end) in
    c.loop-person.invariant ∙ all

pub returns-clause-sorted : goal.returns-clause-sorted
returns-clause-sorted c =
    let all : map deref c.loop-person.yielded ≡ c.args.set.now.keys = search (rules, iter_end) in
    rw (c.loop-person.invariant, all) c.iter-person-items.ensures.ordered
