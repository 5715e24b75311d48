use Rattle.reg_pit.proofs.Pairs.{known_still}
use Rattle.reg_pit.proofs.memberships.know.Goals as goal

pub returns-in_ok-insert-clause-others : goal.returns-in_ok-insert-clause-others
returns-in_ok-insert-clause-others c = known_still (c.args.s, c.args.g) c.args.by_person.now.keys c.insert.new.self.keys c.in_ok-insert.ensures.updates.0
