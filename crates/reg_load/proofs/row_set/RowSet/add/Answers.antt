use Rattle.reg_load.proofs.Pairs.{added_pair}
use Rattle.reg_load.proofs.row_set.RowSet.add.Goals as goal

pub returns-clause-added : goal.returns-clause-added
returns-clause-added c = λ other. rw (← c.number.ensures) (added_pair c.args.row.now.group c.number.result c.args.self.now.pairs.keys c.insert.new.self.keys c.in_ok-fresh.ensures.updates.0 other.group other.person)
