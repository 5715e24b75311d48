use Rattle.reg_prov.proofs.Pairs.{pair_added}
use Rattle.reg_prov.proofs.target.Target.add.Goals as goal

pub returns-clause-ok : goal.returns-clause-ok
returns-clause-ok c = pair_added c.args.group c.args.subject c.args.self.now c.insert.new.self.keys (rw c.self.view_is at c.in_ok-insert.ensures.updates.0)
