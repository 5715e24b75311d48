use Rattle.std.proofs.Common.{◌<◌}
use Rattle.reg_pit.specs.Lives.{last_made}
use Rattle.reg_pit.proofs.Ending.{none_like, lives_more}
use Rattle.reg_pit.proofs.assign_lives.AssignLives.with.Goals as goal

-- a later id is new
pub push-requires : goal.push-requires
push-requires c =
    let later : last_made c.self.inside.lives < c.args.life.id = rw (← c.self.view_is) at c.requires in
    record { free = none_like c.args.life c.self.inside.lives c.self.invariant.rising later }

pub invariant_of-result : goal.invariant_of-result
invariant_of-result c =
    let later : last_made c.self.inside.lives < c.args.life.id = rw (← c.self.view_is) at c.requires in
    rw c.in_ok-push.ensures.added (lives_more c.args.life c.self.inside.lives c.self.inside.owners c.insert.new.self c.self.invariant later c.in_ok-insert.ensures.updates.0)
