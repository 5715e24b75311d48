use Rattle.reg_pit.specs.Lives.{is_life}
use Rattle.reg_pit.proofs.Ending.{lives_ended}
use Rattle.reg_pit.proofs.assign_lives.AssignLives.end_of.Goals as goal

pub invariant_of-self : goal.invariant_of-self
invariant_of-self c = rw c.end_life.ensures (lives_ended (is_life c.args.owner.now c.args.assign) c.args.at c.self.inside.lives c.self.inside.owners c.self.invariant)
