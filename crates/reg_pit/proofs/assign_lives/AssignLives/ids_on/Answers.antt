use Rattle.std.proofs.Common.{◌≡◌, ◌∙◌, sym, ap, filter, rules}
use Rattle.std.proofs.lemmas.List.{append-nil}
use Rattle.reg_table.specs.Keyed.{in_order}
use Rattle.reg_terms.specs.contracts.kinds.ObjectPartialEq.TheImpl as object_eq
use Rattle.reg_pit.specs.Lives.{ids_of, on_owner}
use Rattle.reg_pit.specs.declared.assign_lives.AssignLife.{AssignLife}
use Rattle.reg_pit.proofs.Ending.{life_order, owned_in_order}
use Rattle.reg_pit.proofs.assign_lives.AssignLives.ids_on.Goals as goal

pub returns : goal.returns
returns c =
    let rows : c.rows_of-life-items.result ≡ in_order life_order (filter (λ (life : AssignLife). object_eq.ghosts.eq life.owner c.args.owner.now) c.self.inside.lives) = search rules in
    sym (append-nil c.loop-life.ids.items)
    ∙ ((rw c.in-None.ensures.steps.0 at c.loop-life.invariant)
    ∙ ap ids_of (c.into_iter-life-iterator.ensures.into_iter_gives
    ∙ (rows ∙ (owned_in_order c.args.owner.now c.self.inside.lives c.self.invariant.rising ∙ ap (on_owner c.args.owner.now) c.self.view_is))))
