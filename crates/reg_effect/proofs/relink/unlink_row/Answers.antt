use Rattle.reg_effect.proofs.Graphs.{counted_row_off}
use Rattle.reg_effect.proofs.relink.unlink_row.Goals as goal

pub returns-in-Group : goal.returns-in-Group
returns-in-Group c = counted_row_off c.args.live.now c.args.group c.in-Group.nested c.args.member c.args.graph.now c.remove_edge.new.self c.in-Group.is c.requires.fits c.requires.counted c.remove_edge.ensures.removed
