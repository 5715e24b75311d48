use Rattle.std.proofs.Common.{◌∙◌, ap, filter, not, List}
use Rattle.reg_terms.specs.declared.rows.GrantRow.{GrantRow}
use Rattle.reg_facts.specs.Grants.{same_grant}
use Rattle.reg_facts.proofs.GrantKeys.{grant_others}
use Rattle.reg_facts.proofs.grant_rows.GrantRows.remove.Goals as goal

pub returns : goal.returns
returns c = (rw c.place.ensures at c.remove.ensures.removed) ∙ (grant_others c.args.row.now c.self.inside.rows ∙ ap (λ (rows : List GrantRow). filter (λ (other : GrantRow). not (same_grant c.args.row.now other)) rows) c.self.view_is)
