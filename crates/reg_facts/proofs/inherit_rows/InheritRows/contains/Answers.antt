use Rattle.std.proofs.Common.{◌∙◌, ap}
use Rattle.reg_facts.specs.Grants.{has_inherit}
use Rattle.reg_facts.proofs.GrantKeys.{inherit_any}
use Rattle.reg_facts.proofs.inherit_rows.InheritRows.contains.Goals as goal

pub returns : goal.returns
returns c = (rw c.place.ensures at c.contains.ensures) ∙ (inherit_any c.args.row.now c.self.inside.rows ∙ ap (has_inherit c.args.row.now) c.self.view_is)
