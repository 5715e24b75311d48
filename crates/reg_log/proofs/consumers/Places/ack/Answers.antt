use Rattle.std.proofs.Common.{rules}
use Rattle.reg_log.proofs.ByName.{under_after}
use Rattle.reg_log.proofs.consumers.Places.ack.Goals as goal

-- the consumer has the number, and each other one what it had
pub returns-in-Some-get_mut-clause-moved : goal.returns-in-Some-get_mut-clause-moved
returns-in-Some-get_mut-clause-moved c = under_after c.args.name.now c.args.self.now.places (c.get_mut.follows.lender c.args.seq) _ ((c.get_mut.follows.holds c.args.seq).3 (search rules))
