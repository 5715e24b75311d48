use Rattle.std.proofs.Common.{rules, ◌≡◌, map, filter}
use Rattle.std.specs.Map.Iter.{deref}
use Rattle.std.proofs.lemmas.Map.Iter.{iter_end}
use Rattle.std.specs.BTreeMap.Range.{range_contains}
use Rattle.std.specs.declared.ops.Bound.TheVariants.{Included}
use Rattle.reg_graph.specs.Sets.{pair_cmp}
use Rattle.reg_graph.proofs.Kept.{ascending_by, listed_is, each_listed}
use Rattle.reg_effect.proofs.marks.Marks.subjects.Goals as goal

pub returns-clause-value : goal.returns-clause-value
returns-clause-value c =
    let all : map deref c.loop-pair.yielded ≡ filter (range_contains pair_cmp (Included (c.args.g, c.new.result)) (Included (c.args.g, c.new-2.result))) c.args.self.now = search (rules, iter_end) in
    listed_is _ _ _ _ _ _ _ c.loop-pair.invariant all c.new.ensures c.new-2.ensures c.self.invariant c.self.view_is

pub returns-clause-each : goal.returns-clause-each
returns-clause-each c =
    let all : map deref c.loop-pair.yielded ≡ filter (range_contains pair_cmp (Included (c.args.g, c.new.result)) (Included (c.args.g, c.new-2.result))) c.args.self.now = search (rules, iter_end) in
    rw (listed_is _ _ _ _ _ _ _ c.loop-pair.invariant all c.new.ensures c.new-2.ensures c.self.invariant c.self.view_is) (λ s. each_listed c.args.g s c.args.self.now)

pub returns-clause-sorted : goal.returns-clause-sorted
returns-clause-sorted c =
    let all : map deref c.loop-pair.yielded ≡ filter (range_contains pair_cmp (Included (c.args.g, c.new.result)) (Included (c.args.g, c.new-2.result))) c.args.self.now = search (rules, iter_end) in
    rw (listed_is _ _ _ _ _ _ _ c.loop-pair.invariant all c.new.ensures c.new-2.ensures c.self.invariant c.self.view_is) (ascending_by c.args.g c.args.self.now (rw c.self.view_is at c.self.invariant).ordered)
