use Rattle.std.proofs.Common.{◌≡◌, map, filter, rules}
use Rattle.std.specs.Map.Iter.{deref}
use Rattle.std.specs.BTreeMap.Range.{range_contains}
use Rattle.std.specs.declared.ops.Bound.TheVariants.{Included}
use Rattle.std.proofs.lemmas.Map.Iter.{iter_end}
use Rattle.reg_pit.specs.Members.{pair_cmp}
use Rattle.reg_pit.proofs.Known.{firsts_then}
use Rattle.reg_pit.proofs.memberships.Memberships.groups.Goals as goal

pub returns : goal.returns
returns c =
    let all : map deref c.loop-pair.yielded ≡ filter (range_contains pair_cmp (Included (c.args.s, c.new.result)) (Included (c.args.s, c.new-2.result))) c.self.inside.by_person.keys = search (rules, iter_end) in
    rw (← c.self.view_is) (firsts_then c.self.inside.by_group c.args.s c.args.t c.new.result c.new-2.result c.self.inside.by_person.keys _ c.loop-pair.groups.items c.self.invariant c.range-pair-items.ensures.ordered c.new.ensures c.new-2.ensures all (rw c.self.view_is c.loop-pair.invariant))
