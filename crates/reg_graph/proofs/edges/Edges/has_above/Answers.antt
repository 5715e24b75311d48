use Rattle.std.proofs.Common.{◌≡◌, ◌∙◌, filter}
use Rattle.std.specs.BTreeMap.Range.{range_contains}
use Rattle.std.specs.declared.ops.Bound.TheVariants.{Included}
use Rattle.reg_graph.proofs.Keys.{key_cmp, needed_is}
use Rattle.reg_graph.proofs.edges.Edges.has_above.Goals as goal

pub returns : goal.returns
returns c =
    let part : c.range.result ≡ filter (range_contains key_cmp (Included (c.args.group, 0, 0)) (Included (c.args.group, 4294967295, 18446744073709551615))) c.self.inside.keys.keys = rw (c.new-3.ensures.start, c.new-3.ensures.end, c.new.ensures, c.new-2.ensures, c.least.ensures, c.greatest.ensures) at (c.range.ensures.between c.new-3.ensures.exhausted) in
    c.is_some.ensures ∙ needed_is c.args.group c.self.inside.next c.next.result c.range.result c.next.new.self c.self.inside.keys.keys c.args.self.now c.next.ensures.steps part c.self.invariant c.self.view_is
