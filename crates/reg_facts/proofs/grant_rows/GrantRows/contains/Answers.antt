use Rattle.std.proofs.Common.{◌∙◌, ap}
use Rattle.reg_facts.specs.Grants.{has_grant}
use Rattle.reg_facts.proofs.GrantKeys.{grant_any}
use Rattle.reg_facts.proofs.grant_rows.GrantRows.contains.Goals as goal

pub returns : goal.returns
returns c = (rw c.place.ensures at c.contains.ensures) ∙ (grant_any c.args.row.now c.self.inside.rows ∙ ap (has_grant c.args.row.now) c.self.view_is)
