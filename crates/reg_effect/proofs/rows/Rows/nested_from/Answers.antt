use Rattle.std.specs.BTreeSet.{IsKeyRangeOf}
use Rattle.std.specs.declared.ops.Bound.TheVariants.{Included}
use Rattle.reg_terms.specs.declared.kinds.Member.TheVariants.{Group}
use Rattle.reg_effect.proofs.NestedFrom.{derived_cmp, none_from, first_from}
use Rattle.reg_effect.proofs.rows.Rows.nested_from.Goals as goal

pub returns-in_err-row : goal.returns-in_err-row
returns-in_err-row c =
    let range : IsKeyRangeOf derived_cmp (Included (c.args.group, Group c.args.from)) (Included (c.args.group, Group c.new.result)) c.self.inside.rows c.range.result = rw (c.new-2.ensures.start, c.new-2.ensures.end) at (c.range.ensures.in_range c.new-2.ensures.exhausted) in
    rw c.from_residual.ensures (none_from _ _ _ _ _ _ c.self.invariant c.self.view_is c.new.ensures range c.in_err-row.ensures.steps.0)

pub returns : goal.returns
returns c =
    let range : IsKeyRangeOf derived_cmp (Included (c.args.group, Group c.args.from)) (Included (c.args.group, Group c.new.result)) c.self.inside.rows c.range.result = rw (c.new-2.ensures.start, c.new-2.ensures.end) at (c.range.ensures.in_range c.new-2.ensures.exhausted) in
    rw c.group.ensures (first_from _ _ _ _ _ _ c.self.invariant c.self.view_is c.new.ensures range _ _ c.in_ok-row.ensures.steps)
