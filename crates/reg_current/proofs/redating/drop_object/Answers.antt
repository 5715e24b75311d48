use Rattle.reg_current.proofs.ComingGrants.{object_lost}
use Rattle.reg_current.proofs.redating.drop_object.Goals as goal

pub returns : goal.returns
returns c = object_lost c.args.dates.now _ c.args.object.now c.args.clock c.args.facts.now.rows c.args.facts.now.grants c.requires.found c.drop_written.ensures
