use Rattle.std.proofs.Common.{rules}
use Rattle.reg_log.proofs.ByName.{under, under_after, moved}
use Rattle.reg_log.proofs.consumers.Places.set.Goals as goal

-- the consumer has the number, if there is one, and each other one what it had
pub returns-in-Some : goal.returns-in-Some
returns-in-Some c n = moved c.args.name.now n c.args.seq (under c.args.self.now.places) _ (search rules) (under_after c.args.name.now c.args.self.now.places (c.get_mut.follows.lender c.args.seq) _ ((c.get_mut.follows.holds c.args.seq).3 (search rules)) n)
