use Rattle.std.proofs.Common.{◌∙◌, ap}
use Rattle.reg_facts.specs.Attributes.{assign_row}
use Rattle.reg_facts.proofs.AssignEntries.{found_by_id}
use Rattle.reg_facts.proofs.assign_map.AssignMap.get.Goals as goal

pub returns : goal.returns
returns c = c.get.ensures.value ∙ (found_by_id c.args.id c.self.inside.rows.entries c.self.invariant.by_id ∙ ap (assign_row c.args.id) c.self.view_is)
