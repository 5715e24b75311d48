use Rattle.std.proofs.lemmas.Result.{on_ok_weaker}
use Rattle.reg_effect.proofs.Standing.{factors_more}
use Rattle.reg_current.proofs.Linking.{stays_open, stays_open_more}
use Rattle.reg_current.proofs.edges.link_factors.Goals as goal

pub link-requires : goal.link-requires
link-requires c = stays_open c.args.graph.now c.args.facts.now c.args.row.now.group c.args.row.now.left c.requires.stands c.requires.no_circle.0

pub link-requires-2 : goal.link-requires-2
link-requires-2 c = stays_open_more c.args.graph.now c.link.new.graph c.args.facts.now c.args.row.now.group c.args.row.now.left c.args.row.now.right c.requires.stands c.in_ok-link.ensures c.requires.no_circle.1

pub returns : goal.returns
returns c = on_ok_weaker c.link-2.result (factors_more c.args.facts.now.rows c.args.facts.now.composites c.args.row.now c.args.graph.now c.link.new.graph c.link-2.new.graph c.requires.stands c.in_ok-link.ensures) c.link-2.ensures
