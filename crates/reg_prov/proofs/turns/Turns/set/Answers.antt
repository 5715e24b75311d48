use Rattle.reg_prov.proofs.Keyed.{turn_set}
use Rattle.reg_prov.proofs.turns.Turns.set.Goals as goal

pub returns : goal.returns
returns c = rw (← c.self.view_is) (turn_set c.args.at c.args.group c.args.subject c.args.on c.self.inside.by_boundary.entries c.insert.new.self.entries c.in_ok-insert.ensures.updates.0)
