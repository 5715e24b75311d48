use Rattle.std.proofs.Common.{rules, ◌≡◌, ◌∙◌, map}
use Rattle.std.specs.Map.Iter.{deref}
use Rattle.std.specs.BTreeMap.{values}
use Rattle.std.proofs.lemmas.Map.Iter.{iter_end}
use Rattle.reg_priv.proofs.gathered.Gathered.list.Goals as goal

-- what was put, read in order
pub returns-clause-all : goal.returns-clause-all
returns-clause-all c =
    let all : map deref c.loop-grant.yielded ≡ values c.self.inside.grants = search (rules, iter_end) in
    c.loop-grant.invariant ∙ all ∙ c.self.view_is

pub returns-clause-sorted : goal.returns-clause-sorted
returns-clause-sorted c =
    let all : map deref c.loop-grant.yielded ≡ values c.self.inside.grants = search (rules, iter_end) in
    rw (c.loop-grant.invariant ∙ all) c.self.invariant.sorted
