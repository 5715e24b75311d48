use Rattle.std.proofs.lemmas.Result.{on_ok_weaker}
use Rattle.reg_effect.proofs.Standing.{person_more, nested_more}
use Rattle.reg_current.proofs.Linking.{stays_open}
use Rattle.reg_current.proofs.edges.link_row.Goals as goal

pub link-requires : goal.link-requires
link-requires c = stays_open c.args.graph.now c.args.facts.now c.args.row.now.group c.in-Group.nested c.requires.stands (c.requires.no_circle c.in-Group.nested c.in-Group.is)

pub returns-in-Person : goal.returns-in-Person
returns-in-Person c = person_more c.args.facts.now.rows c.args.facts.now.composites c.args.row.now c.in-Person.field-0 c.args.graph.now c.in-Person.is c.requires.stands

pub returns-in-Group : goal.returns-in-Group
returns-in-Group c = on_ok_weaker c.link.result (nested_more c.args.facts.now.rows c.args.facts.now.composites c.args.row.now c.in-Group.nested c.args.graph.now c.link.new.graph c.in-Group.is c.requires.stands) c.link.ensures
