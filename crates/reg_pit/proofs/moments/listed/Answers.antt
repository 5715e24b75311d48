use Rattle.std.proofs.Common.{◌≡◌, ◌∙◌, map, rules}
use Rattle.std.specs.Map.Iter.{deref}
use Rattle.std.proofs.lemmas.Map.Iter.{iter_end}
use Rattle.reg_pit.proofs.moments.listed.Goals as goal

pub returns-clause-value : goal.returns-clause-value
returns-clause-value c =
    let all : map deref c.loop-moment.yielded ≡ c.args.moments.now.keys = search (rules, iter_end) in
    c.loop-moment.invariant ∙ all

pub returns-clause-ascending : goal.returns-clause-ascending
returns-clause-ascending c =
    let all : map deref c.loop-moment.yielded ≡ c.args.moments.now.keys = search (rules, iter_end) in
    rw (c.loop-moment.invariant, all) c.iter-moment-items.ensures.ordered
