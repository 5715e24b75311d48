use Rattle.std.proofs.Common.{◌≡◌, ◌==◌, ◌∙◌, List, map, sym, ap, filter, rules}
use Rattle.std.proofs.lemmas.List.{append-nil}
use Rattle.reg_table.specs.Keyed.{in_order}
use Rattle.reg_pit.specs.Lives.{stood, values_at}
use Rattle.reg_pit.specs.declared.value_lives.ValueLife.{ValueLife}
use Rattle.reg_pit.proofs.Numbered.{value_order, values_in_order, stood_both}
use Rattle.reg_pit.proofs.value_lives.ValueLives.at.Goals as goal

pub returns : goal.returns
returns c =
    let rows : c.rows_of-life-items.result ≡ in_order value_order (filter (λ (life : ValueLife). life.assign == c.args.assign) c.self.inside.values) = search rules in
    sym (append-nil c.loop-life.values)
    ∙ ((rw c.in-None.ensures.steps.0 at c.loop-life.invariant)
    ∙ (ap (λ (lives : List ValueLife). map (λ (life : ValueLife). life.value) (filter (stood c.args.t) lives)) (c.into_iter-life-iterator.ensures.into_iter_gives ∙ (rows ∙ values_in_order c.args.assign c.self.inside.values c.self.invariant.rising))
    ∙ (stood_both c.args.assign c.args.t c.self.inside.values ∙ ap (λ (values : List ValueLife). values_at values c.args.assign c.args.t) c.self.view_is)))
