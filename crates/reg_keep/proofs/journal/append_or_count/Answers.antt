use Rattle.reg_keep.proofs.Left.{long_after}
use Rattle.reg_keep.proofs.journal.append_or_count.Goals as goal

pub returns-in-Ok-clause-long : goal.returns-in-Ok-clause-long
returns-in-Ok-clause-long g c = long_after c.args.gate c.args.size c.args.first.now c.args.rest.now c.in-Ok.next _ _ c.requires.settled.rest c.requires.left c.in-Ok.ensures.next c.in-Ok.ensures.written
