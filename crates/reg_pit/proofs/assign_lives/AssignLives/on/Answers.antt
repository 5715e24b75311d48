use Rattle.std.proofs.Common.{◌≡◌, ◌∙◌, ap, filter, rules}
use Rattle.reg_table.specs.Keyed.{in_order}
use Rattle.reg_terms.specs.contracts.kinds.ObjectPartialEq.TheImpl as object_eq
use Rattle.reg_pit.specs.Lives.{on_owner}
use Rattle.reg_pit.specs.declared.assign_lives.AssignLife.{AssignLife}
use Rattle.reg_pit.proofs.Ending.{life_order, owned_in_order}
use Rattle.reg_pit.proofs.assign_lives.AssignLives.on.Goals as goal

-- ids ascend already
pub returns : goal.returns
returns c =
    let rows : c.rows_of.result ≡ in_order life_order (filter (λ (life : AssignLife). object_eq.ghosts.eq life.owner c.args.owner) c.self.inside.lives) = search rules in
    rows ∙ (owned_in_order c.args.owner c.self.inside.lives c.self.invariant.rising ∙ ap (on_owner c.args.owner) c.self.view_is)
