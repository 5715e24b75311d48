use Rattle.std.proofs.Common.{◌≡◌, ◌==◌, ◌∙◌, List, sym, ap, filter, rules}
use Rattle.std.proofs.lemmas.List.{append-nil}
use Rattle.reg_table.specs.Keyed.{in_order}
use Rattle.reg_pit.specs.declared.value_lives.ValueLife.{ValueLife}
use Rattle.reg_pit.proofs.Numbered.{value_order, values_in_order}
use Rattle.reg_pit.proofs.value_lives.ValueLives.lives_in.Goals as goal

pub returns : goal.returns
returns c =
    let rows : c.rows_of-life-items.result ≡ in_order value_order (filter (λ (life : ValueLife). life.assign == c.args.assign) c.self.inside.values) = search rules in
    sym (append-nil c.loop-life.lives.items)
    ∙ ((rw c.in-None.ensures.steps.0 at c.loop-life.invariant)
    ∙ (c.into_iter-life-iterator.ensures.into_iter_gives ∙ (rows ∙ (values_in_order c.args.assign c.self.inside.values c.self.invariant.rising
    ∙ ap (λ (values : List ValueLife). filter (λ (life : ValueLife). life.assign == c.args.assign) values) c.self.view_is))))
