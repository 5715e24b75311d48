use Rattle.reg_effect.proofs.Graphs.{left_open, right_open}
use Rattle.reg_effect.proofs.relink.link_factors.Goals as goal

pub link-requires : goal.link-requires
link-requires c = left_open c.args.live.now c.args.group c.args.op c.args.left c.args.right c.args.graph.now c.requires.suits.fits.0 c.requires.counted c.requires.suits.no_circle

pub link-requires-2 : goal.link-requires-2
link-requires-2 c = right_open c.args.live.now c.args.group c.args.op c.args.left c.args.right c.args.graph.now c.link.new.graph c.requires.suits.fits.0 c.requires.counted c.in_ok-link.ensures c.requires.suits.no_circle
