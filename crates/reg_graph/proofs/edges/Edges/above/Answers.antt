use Rattle.std.proofs.Common.{rules, ◌≡◌, ◌∙◌, map, filter}
use Rattle.std.specs.Map.Iter.{deref}
use Rattle.std.proofs.lemmas.Map.Iter.{iter_end}
use Rattle.std.specs.BTreeMap.Range.{range_contains}
use Rattle.std.specs.declared.ops.Bound.TheVariants.{Included}
use Rattle.reg_graph.proofs.Keys.{key_cmp, above_is}
use Rattle.reg_graph.proofs.edges.Edges.above.Goals as goal

pub returns : goal.returns
returns c =
    let part : c.range-key-items.result ≡ filter (range_contains key_cmp (Included (c.args.group, 0, 0)) (Included (c.args.group, 4294967295, 18446744073709551615))) c.self.inside.keys.keys = rw (c.new-3.ensures.start, c.new-3.ensures.end, c.new-group.ensures, c.new.ensures, c.new-2.ensures, c.least.ensures, c.greatest.ensures) at (c.range-key-items.ensures.between c.new-3.ensures.exhausted) in
    let all : map deref c.loop-key.yielded ≡ c.range-key-items.result = search (rules, iter_end) in
    λ z. above_is c.args.group _ _ _ _ c.self.inside.next c.loop-key.invariant (all ∙ part) c.self.invariant c.self.view_is z
