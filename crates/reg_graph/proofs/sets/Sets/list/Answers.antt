use Rattle.std.proofs.Common.{rules, arith, ◌≡◌, ◌<◌, ◌≤◌, ◌+◌, ℕ, map, filter, List, length}
use Rattle.std.specs.Map.Iter.{deref}
use Rattle.std.proofs.lemmas.Map.Iter.{iter_end}
use Rattle.std.specs.BTreeMap.Range.{range_contains}
use Rattle.std.specs.declared.ops.Bound.TheVariants.{Included}
use Rattle.reg_graph.specs.Sets.{subjects_of, pair_cmp}
use Rattle.reg_graph.proofs.Kept.{each_listed, ascending_by, listed_is, length-listed, iter_short}
use Rattle.reg_graph.proofs.sets.Sets.list.Goals as goal

pub returns-clause-value : goal.returns-clause-value
returns-clause-value g c =
    let all : map deref c.loop-pair.yielded ≡ filter (range_contains pair_cmp (Included (c.args.g, c.new.result)) (Included (c.args.g, c.new-2.result))) c.args.self.now = search (rules, iter_end) in
    listed_is _ _ _ _ _ _ _ c.loop-pair.invariant.taken all c.new.ensures c.new-2.ensures c.self.invariant.by_group c.self.view_is

pub returns-clause-each : goal.returns-clause-each
returns-clause-each g c =
    let all : map deref c.loop-pair.yielded ≡ filter (range_contains pair_cmp (Included (c.args.g, c.new.result)) (Included (c.args.g, c.new-2.result))) c.args.self.now = search (rules, iter_end) in
    rw (listed_is _ _ _ _ _ _ _ c.loop-pair.invariant.taken all c.new.ensures c.new-2.ensures c.self.invariant.by_group c.self.view_is) (λ s. each_listed c.args.g s c.args.self.now)

pub returns-clause-sorted : goal.returns-clause-sorted
returns-clause-sorted g c =
    let all : map deref c.loop-pair.yielded ≡ filter (range_contains pair_cmp (Included (c.args.g, c.new.result)) (Included (c.args.g, c.new-2.result))) c.args.self.now = search (rules, iter_end) in
    rw (listed_is _ _ _ _ _ _ _ c.loop-pair.invariant.taken all c.new.ensures c.new-2.ensures c.self.invariant.by_group c.self.view_is) (ascending_by c.args.g c.args.self.now (rw c.self.view_is at c.self.invariant.by_group).ordered)

pub returns-in_err-push-clause-err : goal.returns-in_err-push-clause-err
returns-in_err-push-clause-err g c =
    let part : List (ℕ × ℕ) = filter (range_contains pair_cmp (Included (c.args.g, c.new.result)) (Included (c.args.g, c.new-2.result))) c.args.self.now in
    let whole : c.range-pair-items.result ≡ part = rw (c.new-3.ensures.start, c.new-3.ensures.end, c.self.view_is) at (c.range-pair-items.ensures.between c.new-3.ensures.exhausted) in
    let turn : length c.loop-pair.yielded < length c.range-pair-items.result = iter_short deref c.range-pair-items.result c.loop-pair.yielded _ _ _ _ c.into_iter-pair-iterator.ensures.into_iter_gives c.loop-pair.yielded_by _ c.in-Some.is c.next.ensures.steps in
    let short : length c.loop-pair.yielded < length (subjects_of c.args.g c.args.self.now) = rw (length-listed _ _ _ _ _ c.new.ensures c.new-2.ensures c.self.invariant.by_group c.self.view_is) (rw whole at turn) in
    let ticked : c.tick.new.self ≡ c.loop-pair.steps + 1 = c.tick.ensures in
    let steps : c.loop-pair.steps ≡ c.args.steps.now + length c.loop-pair.yielded = c.loop-pair.invariant.steps in
    let most : c.tick.new.self ≤ c.args.steps.now + length (subjects_of c.args.g c.args.self.now) = omega arith in
    search rules
