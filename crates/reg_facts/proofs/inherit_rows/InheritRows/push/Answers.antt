use Rattle.std.proofs.Common.{◌∙◌, ap}
use Rattle.reg_facts.specs.Grants.{has_inherit}
use Rattle.reg_facts.proofs.GrantKeys.{inherit_any}
use Rattle.reg_facts.proofs.inherit_rows.InheritRows.push.Goals as goal

pub push-requires : goal.push-requires
push-requires c = record { free = inherit_any c.args.row c.self.inside.rows ∙ (ap (has_inherit c.args.row) c.self.view_is ∙ c.requires) }
