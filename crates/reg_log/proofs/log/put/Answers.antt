use Rattle.reg_log.proofs.log.put.Goals as goal

pub returns : goal.returns
returns c = rw (← c.kind.ensures c.args.at, ← c.object.ensures c.args.at, ← c.entity.ensures c.args.at, ← c.number.ensures c.args.at, ← c.from.ensures) c.in_ok-push.ensures.items
