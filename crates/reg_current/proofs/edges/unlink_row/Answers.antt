use Rattle.reg_current.proofs.Unlinking.{row_in, row_less}
use Rattle.reg_current.proofs.edges.unlink_row.Goals as goal

pub unlink-requires : goal.unlink-requires
unlink-requires c = row_in c.args.facts.now.rows c.args.facts.now.composites c.args.group c.args.member.now c.args.graph.now c.law_sound.ensures.rows_once c.requires.there c.requires.stands

pub returns : goal.returns
returns c = row_less c.args.facts.now.rows c.args.facts.now.composites c.args.group c.args.member.now c.args.graph.now c.unlink.new.graph c.law_sound.ensures.rows_once c.requires.there c.requires.stands c.unlink.ensures
