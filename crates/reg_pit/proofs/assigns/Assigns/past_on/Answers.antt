use Rattle.std.proofs.Common.{◌∙◌, List, map, sym, ap}
use Rattle.std.proofs.lemmas.List.{append-nil}
use Rattle.reg_pit.specs.Lives.{on_owner}
use Rattle.reg_pit.specs.Owned.{with_values}
use Rattle.reg_pit.specs.declared.assign_lives.AssignLife.{AssignLife}
use Rattle.reg_pit.specs.declared.value_lives.ValueLife.{ValueLife}
use Rattle.reg_pit.proofs.assigns.Assigns.past_on.Goals as goal

pub returns : goal.returns
returns c =
    sym (append-nil c.loop-life.assigns.items)
    ∙ ((rw c.in-None.ensures.steps.0 at c.loop-life.invariant)
    ∙ (ap (map (with_values c.args.self.now.1)) (c.into_iter-life-iterator.ensures.into_iter_gives ∙ c.on-life-items.ensures)
    ∙ ap (λ (assigns : List AssignLife × List ValueLife). map (with_values c.args.self.now.1) (on_owner c.args.owner assigns.0)) c.self.view_is))
