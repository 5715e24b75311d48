use Rattle.std.proofs.Common.{◌∙◌, ap, List}
use Rattle.std.specs.List.{find}
use Rattle.reg_terms.specs.declared.rows.GrantRow.{GrantRow}
use Rattle.reg_facts.specs.Grants.{same_grant}
use Rattle.reg_facts.proofs.GrantKeys.{grant_found}
use Rattle.reg_facts.proofs.grant_rows.GrantRows.get.Goals as goal

pub returns : goal.returns
returns c = c.copied.ensures ∙ ((rw c.place.ensures at c.get.ensures) ∙ (grant_found c.args.row.now c.self.inside.rows ∙ ap (find (same_grant c.args.row.now)) c.self.view_is))
