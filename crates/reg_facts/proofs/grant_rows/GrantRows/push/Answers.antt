use Rattle.std.proofs.Common.{◌∙◌, ap}
use Rattle.reg_facts.specs.Grants.{has_grant}
use Rattle.reg_facts.proofs.GrantKeys.{grant_any}
use Rattle.reg_facts.proofs.grant_rows.GrantRows.push.Goals as goal

pub push-requires : goal.push-requires
push-requires c = record { free = grant_any c.args.row c.self.inside.rows ∙ (ap (has_grant c.args.row) c.self.view_is ∙ c.requires) }
