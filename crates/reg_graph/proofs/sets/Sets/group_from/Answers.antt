use Rattle.std.specs.BTreeSet.{IsKeyRangeOf}
use Rattle.std.specs.declared.ops.Bound.TheVariants.{Included}
use Rattle.reg_graph.specs.Sets.{pair_cmp}
use Rattle.reg_graph.proofs.Firsts.{none_from, first_from}
use Rattle.reg_graph.proofs.sets.Sets.group_from.Goals as goal

pub returns-in_err-pair-clause-value : goal.returns-in_err-pair-clause-value
returns-in_err-pair-clause-value g c =
    let range : IsKeyRangeOf pair_cmp (Included (c.args.s, c.args.from)) (Included (c.args.s, c.new.result)) c.self.inside.turned c.range.result = rw (c.new-2.ensures.start, c.new-2.ensures.end) at (c.range.ensures.in_range c.new-2.ensures.exhausted) in
    rw c.from_residual.ensures (none_from _ _ _ _ _ _ _ c.self.invariant c.self.view_is c.new.ensures range c.in_err-pair.ensures.steps.0)

pub returns-clause-value : goal.returns-clause-value
returns-clause-value g c =
    let range : IsKeyRangeOf pair_cmp (Included (c.args.s, c.args.from)) (Included (c.args.s, c.new.result)) c.self.inside.turned c.range.result = rw (c.new-2.ensures.start, c.new-2.ensures.end) at (c.range.ensures.in_range c.new-2.ensures.exhausted) in
    first_from _ _ _ _ _ _ _ c.self.invariant c.self.view_is c.new.ensures range _ _ c.in_ok-pair.ensures.steps
