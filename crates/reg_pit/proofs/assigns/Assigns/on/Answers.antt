use Rattle.std.proofs.Common.{◌∙◌, List, map, filter, sym, ap}
use Rattle.std.proofs.lemmas.List.{append-nil}
use Rattle.reg_terms.specs.Kinds.{same_object}
use Rattle.reg_terms.specs.declared.rows.AssignRow.{AssignRow}
use Rattle.reg_pit.specs.Lives.{had, row_of, rows_at, values_at}
use Rattle.reg_pit.specs.declared.assign_lives.AssignLife.{AssignLife}
use Rattle.reg_pit.specs.declared.value_lives.ValueLife.{ValueLife}
use Rattle.reg_pit.proofs.Ending.{rows_on}
use Rattle.reg_pit.proofs.assigns.Assigns.on.Goals as goal

pub returns : goal.returns
returns c =
    sym (append-nil c.loop-life.rows.items)
    ∙ ((rw c.in-None.ensures.steps.0 at c.loop-life.invariant)
    ∙ (ap (λ (lives : List AssignLife). map (row_of (λ a. values_at c.args.self.now.1 a c.args.t)) (filter (had c.args.t) lives)) (c.into_iter-life-iterator.ensures.into_iter_gives ∙ c.on-life-items.ensures)
    ∙ (rows_on c.args.owner (λ a. values_at c.args.self.now.1 a c.args.t) c.args.t c.self.inside.lives
    ∙ ap (λ (assigns : List AssignLife × List ValueLife). filter (λ (row : AssignRow). same_object row.owner c.args.owner) (rows_at (λ a. values_at c.args.self.now.1 a c.args.t) assigns.0 c.args.t)) c.self.view_is)))
