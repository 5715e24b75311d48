use Rattle.std.proofs.Common.{◌∙◌, ◌==◌, ap, sym}
use Rattle.std.specs.List.{list_any}
use Rattle.std.specs.Option.{is_some}
use Rattle.reg_pit.specs.declared.assign_lives.AssignLife.{AssignLife}
use Rattle.reg_pit.specs.Lives.{last_made}
use Rattle.reg_pit.proofs.Ending.{has_owner, all_made, made_before}
use Rattle.reg_pit.proofs.assign_lives.AssignLives.has.Goals as goal

pub returns-clause-value : goal.returns-clause-value
returns-clause-value c =
    c.contains_key.ensures
    ∙ (ap is_some (c.self.invariant.owned c.args.assign)
    ∙ (has_owner c.args.assign c.self.inside.lives ∙ ap (list_any (λ (life : AssignLife). life.id == c.args.assign)) c.self.view_is))

pub returns-clause-low : goal.returns-clause-low
returns-clause-low c h =
    let value = c.contains_key.ensures ∙ (ap is_some (c.self.invariant.owned c.args.assign) ∙ has_owner c.args.assign c.self.inside.lives) in
    rw (← c.self.view_is) (made_before (last_made c.self.inside.lives) c.args.assign c.self.inside.lives (all_made 0 c.self.inside.lives c.self.invariant.rising) (sym value ∙ h))
