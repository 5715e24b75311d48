use Rattle.reg_prov.proofs.Pairs.{pair_removed}
use Rattle.reg_prov.proofs.target.Target.remove.Goals as goal

pub returns : goal.returns
returns c = pair_removed c.args.group c.args.subject c.args.self.now c.remove.new.self.keys (rw c.self.view_is at c.remove.ensures.updates.0)
