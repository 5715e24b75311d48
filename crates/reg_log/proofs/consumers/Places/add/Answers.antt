use Rattle.reg_log.proofs.ByName.{under_after}
use Rattle.reg_log.proofs.consumers.Places.add.Goals as goal

-- the new consumer is at 0, and each other one where it was
pub returns-clause-added : goal.returns-clause-added
returns-clause-added c = rw (← c.in_ok-key.ensures.items) (under_after c.in_ok-key.key.items c.args.self.now.places c.insert.new.self _ c.in_ok-insert.ensures.updates)
