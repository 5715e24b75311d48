use Rattle.std.proofs.Common.{rules, ◌≡◌, map}
use Rattle.std.specs.Map.Iter.{deref}
use Rattle.std.proofs.lemmas.Map.Iter.{iter_end}
use Rattle.reg_access.proofs.deciding.listed.Goals as goal

pub returns-clause-ascending : goal.returns-clause-ascending
returns-clause-ascending c =
    let all : map deref c.loop-person.yielded ≡ c.args.persons.now.keys = search (rules, iter_end) in
    rw (c.loop-person.invariant, all) c.iter-person-items.ensures.ordered
