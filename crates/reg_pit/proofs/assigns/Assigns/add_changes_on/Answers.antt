use Rattle.std.proofs.Common.{◌||◌, ◌∙◌, List, sym, ap}
use Rattle.std.specs.List.{list_any}
use Rattle.reg_pit.specs.Changes.{among, assign_changes}
use Rattle.reg_pit.specs.Lives.{on_owner}
use Rattle.reg_pit.specs.declared.assign_lives.AssignLife.{AssignLife}
use Rattle.reg_pit.specs.declared.value_lives.ValueLife.{ValueLife}
use Rattle.reg_pit.proofs.Changes.{nothing_more}
use Rattle.reg_pit.proofs.assigns.Assigns.add_changes_on.Goals as goal

pub returns : goal.returns
returns c m =
    sym (nothing_more (among m c.loop-life.moments.keys))
    ∙ ((rw c.in-None.ensures.steps.0 at c.loop-life.invariant m)
    ∙ ap (λ b. among m c.args.moments.now.keys || b) (ap (list_any (assign_changes c.args.self.now.1 m)) (c.into_iter-life-iterator.ensures.into_iter_gives ∙ c.on-life-items.ensures)
    ∙ ap (λ (assigns : List AssignLife × List ValueLife). list_any (assign_changes c.args.self.now.1 m) (on_owner c.args.owner assigns.0)) c.self.view_is))
