use Rattle.std.proofs.Common.{◌≡◌, ◌==◌, ◌||◌, ◌∙◌, List, sym, ap, filter, rules}
use Rattle.reg_table.specs.Keyed.{in_order}
use Rattle.reg_pit.specs.Changes.{among, value_changes}
use Rattle.reg_pit.specs.declared.value_lives.ValueLife.{ValueLife}
use Rattle.reg_pit.proofs.Changes.{any_end, nothing_more, value_ends}
use Rattle.reg_pit.proofs.Numbered.{value_order, values_in_order}
use Rattle.reg_pit.proofs.value_lives.ValueLives.add_changes.Goals as goal

pub returns : goal.returns
returns c m =
    let rows : c.rows_of-life-items.result ≡ in_order value_order (filter (λ (life : ValueLife). life.assign == c.args.assign) c.self.inside.values) = search rules in
    sym (nothing_more (among m c.loop-life.moments.keys))
    ∙ ((rw c.in-None.ensures.steps.0 at c.loop-life.invariant m)
    ∙ ap (λ b. among m c.args.moments.now.keys || b) (ap (any_end m) (c.into_iter-life-iterator.ensures.into_iter_gives ∙ (rows ∙ values_in_order c.args.assign c.self.inside.values c.self.invariant.rising))
    ∙ (value_ends c.args.assign m c.self.inside.values ∙ ap (λ (values : List ValueLife). value_changes values c.args.assign m) c.self.view_is)))
